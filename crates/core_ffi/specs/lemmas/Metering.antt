-- Lemmas. The meter's calls in the caller's storage, case by case. Assumes nothing.
use Rattle.std.specs.Prelude.{ℕ, ◌<◌, ◌≡◌, List, [], ◌∷◌, Result, Ok, Err}
use Rattle.std.proofs.Common.{refl, sym, ap, ◌∙◌, ⊎_elim, arith, lt-ltb, ne_eqb}
use Rattle.theory_basics.specs.Lent.{lent_after}
use Rattle.theory_basics.specs.Refusals.{◌or_else◌}
use Rattle.theory_basics.specs.lemmas.Refusals.{or_else_none, or_else_some}
use Rattle.theory_basics.specs.lemmas.Tests.{T_true, not_T_false, test}
use Rattle.refusals.specs.declared.Refusal.{Refusal}
use Rattle.refusals.specs.Laws.{number_above_0}
use Rattle.refusals.specs.Numbers as by
use Rattle.refusals.specs.Numbers.{number_of}
use Rattle.meter.specs.declared.Meter.{Meter}
use Rattle.meter.specs.Forecast.{answer_of, bytes_of, forecast_of, meter_forecast_refusal}
use Rattle.meter.specs.Meter.{empty, in_range, late_refusal, meter_refusal, sample, sample_refusal, samples_of, take_answer, taken}
use Rattle.meter.specs.lemmas.Order.{in_range_iff}
use Rattle.whole_files.specs.lemmas.Answers.{err_answered, ok_answered}
use Rattle.core_ffi.specs.Convention.{answered}
use Rattle.core_ffi.specs.Meters.{MeterTakeReturned, Storage, cells_refusal, mean_refusal, meter_forecast_answer, meter_in, sampled_refusal, storage, stored_in}
use Rattle.core_ffi.specs.lemmas.Numbers.{answer_number, numbered}
use Rattle.core_ffi.specs.lemmas.Slices.{first_twice, refused_keeps}

-- ---- a refusal keeps the storage

same_storage : {a a' b b' k k' : List ℕ} → a ≡ a' → b ≡ b' → k ≡ k' → ◌≡◌ {A = Storage} (storage a b k) (storage a' b' k')
same_storage e f g = cc

kept_storage : (refused : ℕ) (m : Meter) (s : Storage) → (refused ≡ 0 → ⊥) → s ≡ stored_in refused m s
kept_storage refused m s n =
    let keeps : (result old : List ℕ) → old ≡ lent_after refused result old = λ result old. sym (refused_keeps refused result old n) in
    same_storage (keeps m.slots s.slots) (keeps m.bytes s.bytes) (keeps (m.kept ∷ []) s.kept)

some_number : (e : Refusal) → number_of e ≡ 0 → ⊥
some_number e z = omega (arith, number_above_0 e)

-- ---- a sample

-- 10 of a sample by itself is what a meter without samples refuses.
new_refuses : (slot bytes : ℕ) → (taken empty slot bytes).code ≡ sample_refusal (sample slot bytes)
unfolding taken
new_refuses slot bytes =
    ⊎_elim
    (λ t.
    let low : 0 < slot = omega (arith, ((in_range_iff (sample slot bytes)).0 t).slot_low) in
    rw (T_true (in_range (sample slot bytes)) t, lt-ltb 0 slot low))
    (λ t. rw (not_T_false (in_range (sample slot bytes)) t))
    (test (in_range (sample slot bytes)))

taken_code : (m : Meter) (slot bytes : ℕ) → sample_refusal (sample slot bytes) or_else (taken m slot bytes).code ≡ (taken m slot bytes).code
unfolding taken
taken_code m slot bytes = first_twice (sample_refusal (sample slot bytes)) (meter_refusal (samples_of m) or_else late_refusal (samples_of m) (sample slot bytes))

module _ (s : Storage) (slot bytes : ℕ) where
  abbrev own : ℕ
  own = sample_refusal (sample slot bytes)

  abbrev then : ℕ
  then = cells_refusal s or_else (taken (meter_in s) slot bytes).code

  refused_take : (e : Refusal) → sampled_refusal s slot bytes ≡ number_of e → MeterTakeReturned s slot bytes (answered (number_of e) 0) s
  refused_take e is =
      record {
        number = ap (λ (n : ℕ). answered n 0) (sym is);
        storage_is = kept_storage (sampled_refusal s slot bytes) (taken (meter_in s) slot bytes).meter s (λ z. some_number e (sym is ∙ z));
      }

  -- Without room: the sample's own refusal,
  pub own_refused : (e : Refusal) (m : Meter) → m ≡ empty → Err (number_of e) ≡ take_answer m slot bytes → MeterTakeReturned s slot bytes (answered (number_of e) 0) s
  own_refused e m is a =
      let b : Err (number_of e) ≡ take_answer empty slot bytes = a ∙ ap (λ (w : Meter). take_answer w slot bytes) is in
      let first = sym (new_refuses slot bytes) ∙ (err_answered (taken empty slot bytes).code (number_of e) (taken empty slot bytes).meter b).0 in
      refused_take e (or_else_some own then (λ z. some_number e (sym first ∙ z)) ∙ first)

  -- or 11.
  pub short_refused : (short : Refusal) (m after : Meter) → m ≡ empty → Ok after ≡ take_answer m slot bytes → Err (number_of short) ≡ by.answered (cells_refusal s) (meter_in s) → MeterTakeReturned s slot bytes (answered (number_of short) 0) s
  short_refused short m after is a c =
      let b : Ok after ≡ take_answer empty slot bytes = a ∙ ap (λ (w : Meter). take_answer w slot bytes) is in
      let fine = sym (new_refuses slot bytes) ∙ (ok_answered (taken empty slot bytes).code after (taken empty slot bytes).meter b).0 in
      let cells = (err_answered (cells_refusal s) (number_of short) (meter_in s) c).0 in
      refused_take short (or_else_none own then fine ∙ or_else_some (cells_refusal s) (taken (meter_in s) slot bytes).code (λ z. some_number short (sym cells ∙ z)) ∙ cells)

  -- With room, the refusal is the meter's own.
  module _ (held : Meter) (c : Ok held ≡ by.answered (cells_refusal s) (meter_in s)) where
    known : (cells_refusal s ≡ 0) × (held ≡ meter_in s)
    known = ok_answered (cells_refusal s) held (meter_in s) c

    meter_own : sampled_refusal s slot bytes ≡ (taken (meter_in s) slot bytes).code
    meter_own = ap (λ (n : ℕ). own or_else n or_else (taken (meter_in s) slot bytes).code) known.0 ∙ taken_code (meter_in s) slot bytes

    pub meter_refused : (e : Refusal) → Err (number_of e) ≡ take_answer held slot bytes → MeterTakeReturned s slot bytes (answered (number_of e) 0) s
    meter_refused e a =
        let b : Err (number_of e) ≡ take_answer (meter_in s) slot bytes = a ∙ ap (λ (w : Meter). take_answer w slot bytes) known.1 in
        refused_take e (meter_own ∙ (err_answered (taken (meter_in s) slot bytes).code (number_of e) (taken (meter_in s) slot bytes).meter b).0)

    pub sample_taken : (after : Meter) (refused : ℕ) (s' : Storage) → Ok after ≡ take_answer held slot bytes → refused ≡ cells_refusal s → s' ≡ stored_in (cells_refusal s) after s → MeterTakeReturned s slot bytes (answered refused 0) s'
    sample_taken after refused s' a r is =
        let b : Ok after ≡ take_answer (meter_in s) slot bytes = a ∙ ap (λ (w : Meter). take_answer w slot bytes) known.1 in
        let took = ok_answered (taken (meter_in s) slot bytes).code after (taken (meter_in s) slot bytes).meter b in
        let same : cells_refusal s ≡ sampled_refusal s slot bytes = known.0 ∙ sym (meter_own ∙ took.0) in
        record {
          number = ap (λ (n : ℕ). answered n 0) (r ∙ same);
          storage_is = is ∙ ap (λ (n : ℕ). stored_in n after s) same ∙ ap (λ (w : Meter). stored_in (sampled_refusal s slot bytes) w s) took.1;
        }

-- ---- the forecast

pub mean_short : (s : Storage) (e : Refusal) → Err (number_of e) ≡ by.answered (cells_refusal s) (meter_in s) → answer_number (Err (number_of e)) ≡ meter_forecast_answer s
mean_short s e c =
    let cells = (err_answered (cells_refusal s) (number_of e) (meter_in s) c).0 in
    let l = samples_of (meter_in s) in
    let is : number_of e ≡ mean_refusal s = sym (or_else_some (cells_refusal s) (meter_forecast_refusal l) (λ z. some_number e (sym cells ∙ z)) ∙ cells) in
    numbered (λ (n : ℕ). n) (mean_refusal s) (forecast_of (bytes_of l)) (Err (number_of e)) (err_is (mean_refusal s) (number_of e) (forecast_of (bytes_of l)) is (some_number e))
  where
    err_is : (refused n x : ℕ) → n ≡ refused → (n ≡ 0 → ⊥) → Err n ≡ by.answered refused x
    err_is refused n x is some = sym (rw (sym is) (rw (ne_eqb n 0 some) refl))

pub mean_whole : (s : Storage) (m : Meter) (a : Result ℕ ℕ) → Ok m ≡ by.answered (cells_refusal s) (meter_in s) → a ≡ answer_of m → answer_number a ≡ meter_forecast_answer s
unfolding answer_of
mean_whole s m a c e =
    let known = ok_answered (cells_refusal s) m (meter_in s) c in
    let l = samples_of (meter_in s) in
    let is : meter_forecast_refusal l ≡ mean_refusal s = sym (or_else_none (cells_refusal s) (meter_forecast_refusal l) known.0) in
    numbered (λ (n : ℕ). n) (meter_forecast_refusal l) (forecast_of (bytes_of l)) a (e ∙ ap answer_of known.1) ∙ ap (λ (n : ℕ). answered n (forecast_of (bytes_of l))) is

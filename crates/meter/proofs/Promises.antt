-- Theorems. What the definitions of the meter promise: document 01, "Link meter", refusals 10, 12
-- and 13.
use Rattle.std.specs.Prelude.{ℕ, ◌+◌, ◌*◌, ◌-◌, ◌/◌, ◌^◌, ◌≤◌, ◌<◌, ◌≡◌, refl, true, ◌↔◌, replicate, ltb, eqb}
use Rattle.std.proofs.Common.{sym, ap, ◌∙◌, ⊎_elim, arith, T_not, eqb→eq, eq-eqb, ne_eqb}
use Rattle.std.proofs.Math.Path.{subst}
use mathlib.Core.List.{List, [], ◌∷◌, ◌++◌}
use Rattle.std.proofs.Math.ListN.{length, length-append, length-drop}
use Rattle.std.proofs.lemmas.List.{length-map}
use Rattle.theory_basics.specs.lemmas.Tests.{T_true, not_T_false, test, ltb_iff, by_cond, any_row_lem, neqb_ne}
use Rattle.theory_basics.specs.Tests.{In, any}
use Rattle.theory_basics.specs.Refusals.{unless, ◌or_else◌}
use Rattle.theory_basics.specs.lemmas.Refusals.{unless_as, or_else_as}
use Rattle.meter.specs.declared.Meter.{Meter}
use Rattle.std.specs.Prelude.{Result, Ok, Err}
use Rattle.refusals.specs.declared.Refusal.{Refusal}
use Rattle.refusals.specs.Numbers.{by_number}
use Rattle.meter.specs.Meter.{Sample, sample, samples_of, empty, SampleInRange, in_range, last_sample_slot, InOrder, in_order, last_ten, sample_refusal, meter_refusal, late_refusal, take_refusal, with_sample, taken}
use Rattle.meter.specs.Forecast.{bytes_of, is_zero, mean_of, forecast_of, meter_forecast_refusal, answer_of}
use Rattle.meter.specs.Harmonic.{product, WholePart}
use Rattle.meter.specs.Calls.{ForecastPromise, Forecasts}
use Rattle.meter.proofs.Means.{others, of_whole, under_not_above, whole_of, mean_high, mean_some, mean_not_above, mean_near, whole_part, others_pos, zero_in, counts, one_less_at_most}
use Rattle.meter.proofs.Steady.{power_steady, other_steady}
use Rattle.meter.specs.lemmas.Order.{in_range_iff, in_order_iff, ten_first, then_after, Fine, fine_snoc, last_ten_in_order, stored_samples}

-- ---- "gets a result or, exactly in the cases that document 01 lists, a refusal number"

-- "10. A sample's slot or bytes out of range, handed or kept; a meter with more than ten samples or
-- slots not rising."
pub ten_iff : (l : List Sample) (x : Sample) → (take_refusal l x ≡ 10) ↔ ((SampleInRange x × InOrder l) → ⊥)
ten_iff l x = ten_first 13 (in_range x) (in_order l) (ltb (last_sample_slot 0 l) x.slot) (omega arith) (in_range_iff x) (in_order_iff l)

-- "13. A sample whose slot is not above the last one's, after 10."
pub thirteen_iff : (l : List Sample) (x : Sample) → (take_refusal l x ≡ 13) ↔ (SampleInRange x × (InOrder l × ((last_sample_slot 0 l < x.slot) → ⊥)))
thirteen_iff l x =
    then_after 13 (in_range x) (in_order l) (ltb (last_sample_slot 0 l) x.slot) (omega arith) (in_range_iff x) (in_order_iff l) (ltb_iff (last_sample_slot 0 l) x.slot)

-- A sample is taken exactly if it is in range, the meter is in order and the slot is above the last
-- one's.
pub taken_iff : (l : List Sample) (x : Sample) → (take_refusal l x ≡ 0) ↔ (SampleInRange x × (InOrder l × (last_sample_slot 0 l < x.slot)))
taken_iff l x =
    or_else_as (sample_refusal x) (meter_refusal l or_else late_refusal l x)
    (unless_as 10 (in_range x) (omega arith) (in_range_iff x))
    (or_else_as (meter_refusal l) (late_refusal l x)
    (unless_as 10 (in_order l) (omega arith) (in_order_iff l))
    (unless_as 13 (ltb (last_sample_slot 0 l) x.slot) (omega arith) (ltb_iff (last_sample_slot 0 l) x.slot)))

-- A forecast is refused by 10 exactly if the meter is not in order ..
pub forecast_ten_iff : (l : List Sample) → (meter_forecast_refusal l ≡ 10) ↔ (InOrder l → ⊥)
forecast_ten_iff l =
    let p = ten_first 12 true (in_order l) (ltb 0 (length l)) {A = Unit {0}} (omega arith) (λ t. t, λ t. t) (in_order_iff l) in
    (λ e o. p.0 e (tt, o), λ n. p.1 (λ o. n o.1))

-- .. and else, "12. A forecast from a meter without samples."
pub forecast_twelve_iff : (l : List Sample) → (meter_forecast_refusal l ≡ 12) ↔ (InOrder l × ((0 < length l) → ⊥))
forecast_twelve_iff l =
    let p = then_after 12 true (in_order l) (ltb 0 (length l)) {A = Unit {0}} (omega arith) (λ t. t, λ t. t) (in_order_iff l) (ltb_iff 0 (length l)) in
    (λ e. (p.0 e).1, λ o. p.1 (tt, o))

pub forecast_iff : (l : List Sample) → (meter_forecast_refusal l ≡ 0) ↔ (InOrder l × (0 < length l))
forecast_iff l =
    or_else_as (meter_refusal l) (unless 12 (ltb 0 (length l)))
    (unless_as 10 (in_order l) (omega arith) (in_order_iff l))
    (unless_as 12 (ltb 0 (length l)) (omega arith) (ltb_iff 0 (length l)))

-- ---- "It keeps the last ten samples"

-- A meter begins without samples.
pub empty_samples : samples_of empty ≡ []
empty_samples = refl

-- With fewer than ten kept none goes ..
pub few_kept : (l : List Sample) (x : Sample) → length l < 10 → with_sample l x ≡ l ++ (x ∷ [])
few_kept l x h = let e : length (l ++ (x ∷ [])) - 10 ≡ 0 = omega (arith, length-append l (x ∷ [])) in rw e

-- .. and of ten the oldest.
pub ten_kept : (oldest : Sample) (l : List Sample) (x : Sample) → length (oldest ∷ l) ≡ 10 → with_sample (oldest ∷ l) x ≡ l ++ (x ∷ [])
ten_kept oldest l x h = let e : length (oldest ∷ (l ++ (x ∷ []))) - 10 ≡ 1 = omega (arith, length-append l (x ∷ [])) in rw e

module _ (m : Meter) (slot bytes : ℕ) where
  -- A taken sample: the samples are then the last ten of the old ones with it.
  pub taken_samples : take_refusal (samples_of m) (sample slot bytes) ≡ 0
      → samples_of (taken m slot bytes).meter ≡ last_ten (samples_of m ++ (sample slot bytes ∷ []))
  unfolding taken
  taken_samples e = rw (eq-eqb (take_refusal (samples_of m) (sample slot bytes)) 0 e) (stored_samples (with_sample (samples_of m) (sample slot bytes)) m)

  -- "buffers and meter keep their bytes": a refused sample leaves every cell as it was.
  pub refused_unchanged : (take_refusal (samples_of m) (sample slot bytes) ≡ 0 → ⊥) → (taken m slot bytes).meter ≡ m
  unfolding taken
  refused_unchanged n = rw (ne_eqb (take_refusal (samples_of m) (sample slot bytes)) 0 n)

  -- What is kept stays in order ..
  pub taken_in_order : take_refusal (samples_of m) (sample slot bytes) ≡ 0 → InOrder (samples_of (taken m slot bytes).meter)
  taken_in_order e =
      let l = samples_of m in
      let u = (taken_iff l (sample slot bytes)).0 e in
      let before : Fine l = record { each = u.1.0.each; rises = u.1.0.rises } in
      subst (λ (k : List Sample). InOrder k) (sym (taken_samples e))
      (last_ten_in_order (l ++ (sample slot bytes ∷ [])) ((fine_snoc l (sample slot bytes)).1 (before, (u.0, u.1.1))))

  pub stays_in_order : InOrder (samples_of m) → InOrder (samples_of (taken m slot bytes).meter)
  stays_in_order o =
      let n = take_refusal (samples_of m) (sample slot bytes) in
      ⊎_elim
      (λ t. taken_in_order (eqb→eq n 0 t))
      (λ t. subst (λ (k : Meter). InOrder (samples_of k)) (sym (refused_unchanged (neqb_ne n 0 t))) o)
      (test (eqb n 0))

  -- .. so that a meter that took a sample has a forecast.
  pub taken_forecast : take_refusal (samples_of m) (sample slot bytes) ≡ 0
      → answer_of (taken m slot bytes).meter ≡ Ok (forecast_of (bytes_of (last_ten (samples_of m ++ (sample slot bytes ∷ [])))))
  unfolding answer_of
  taken_forecast e =
      let l = samples_of m ++ (sample slot bytes ∷ []) in
      let after = samples_of (taken m slot bytes).meter in
      let some : 0 < length after =
      subst (λ (k : List Sample). 0 < length k) (sym (taken_samples e))
      (omega (arith, length-drop (length l - 10) l, length-append (samples_of m) (sample slot bytes ∷ []))) in
      rw (eq-eqb (meter_forecast_refusal after) 0 ((forecast_iff after).1 (taken_in_order e, some)))
      (ap (λ (k : List Sample). Ok (forecast_of (bytes_of k))) (taken_samples e))

-- ---- "the meter's forecast" is that of document 01, rounded as request 3 of document 02 says

pub forecast_says : (l : List Sample) → InOrder l → 0 < length l → Forecasts (bytes_of l) (forecast_of (bytes_of l))
unfolding forecast_of
forecast_says l o some =
    let bs = bytes_of l in
    by_cond (λ (f : ℕ). Forecasts bs f) (any is_zero bs)
    (λ t.
    let i = zero_in bs t in
    record {
      zero_if = λ i. refl;
      mean_or_one_less = λ n. absurd (n i);
      never_more = record { zero_if = λ i. refl; at_most = omega arith };
      some_if = λ n. absurd (n i);
      high = omega arith;
    })
    (λ t.
    let some : 0 < length bs = omega (arith, length-map l (λ x. x.bytes)) in
    let a = counts l o.each t in
    let not_more = mean_not_above bs some a in
    record {
      zero_if = λ i. absurd (T_not (any is_zero bs) t (any_row_lem is_zero i tt));
      mean_or_one_less = λ n h w. one_less_at_most bs h (mean_of bs) (of_whole bs h a w) not_more (mean_near bs some a);
      never_more = under_not_above bs (mean_of bs) a not_more;
      some_if = λ n. mean_some bs some a;
      high = mean_high bs some a;
    })

-- Every forecast that the call answers keeps the promise.
pub answer_says : (m : Meter) (f : ℕ) → answer_of m ≡ Ok f → Forecasts (bytes_of (samples_of m)) f
unfolding answer_of
answer_says m f e =
    let l = samples_of m in
    let n = meter_forecast_refusal l in
    ⊎_elim
    (λ t.
    let o = (forecast_iff l).0 (eqb→eq n 0 t) in
    let is : forecast_of (bytes_of l) ≡ f = same_bytes _ f (rw (T_true (eqb n 0) t) at e) in
    subst (Forecasts (bytes_of l)) is (forecast_says l o.0 o.1))
    (λ t. absurd (not_both n f (rw (not_T_false (eqb n 0) t) at e)))
    (test (eqb n 0))
  where
    same_bytes : (a b : ℕ) → ◌≡◌ {A = Result ℕ ℕ} (Ok a) (Ok b) → a ≡ b
    same_bytes a b e = cc

    not_both : (a b : ℕ) → ◌≡◌ {A = Result ℕ ℕ} (Err a) (Ok b) → ⊥
    not_both a b e = let z : ◌≡◌ {A = ℕ} 0 1 = cc in omega arith

-- So does the call, with the rest of its promise.
pub forecast_promise : (m : Meter) (r : Result ℕ Refusal) → by_number r ≡ answer_of m → ForecastPromise m r
forecast_promise m r e = record { answer = e; says = λ f b. answer_says m f (sym e ∙ ap by_number b) }

-- The exact mean has a whole part.
pub has_whole_part : (l : List Sample) → InOrder l → 0 < length l → (In 0 (bytes_of l) → ⊥) → (h : ℕ) × WholePart (bytes_of l) h
has_whole_part l o some n =
    let bs = bytes_of l in
    let a = counts l o.each (⊎_elim (λ t. absurd (n (zero_in bs t))) (λ t. t) (test (any is_zero bs))) in
    (length bs * product bs / others bs, whole_of bs (length bs * product bs / others bs) a (whole_part bs (others_pos bs (omega (arith, length-map l (λ x. x.bytes))) a)))

-- ---- a steady link, whose k samples have b bytes each

-- A power of two is forecast as it is ..
pub steady_power : (k i : ℕ) → 1 ≤ k → i ≤ 24 → forecast_of (replicate k (2 ^ i)) ≡ 2 ^ i
steady_power = power_steady

-- .. and any other number of bytes as one less.
pub steady_other : (k b : ℕ) → 1 ≤ k → 1 ≤ b → b ≤ 16777216 → ((i : ℕ) → b ≡ 2 ^ i → ⊥) → forecast_of (replicate k b) + 1 ≡ b
steady_other = other_steady

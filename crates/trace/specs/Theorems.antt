-- Theorems. Document 02, request 4: what is refused, what a trace gives, and that what is written
-- reads back.
use Rattle.std.specs.Prelude.{ℕ, zero, suc, ◌+◌, ◌*◌, ◌-◌, ◌/◌, ◌%◌, ◌≤◌, ◌<◌, ◌≡◌, refl, List, [], ◌∷◌, map, ◌⊎◌, ◌↔◌, length, get_or, replicate, T, eqb}
use Rattle.std.proofs.Common.{sym, ap, ◌∙◌, subst, inl, inr, arith, ext_get_or}
use Rattle.std.proofs.lemmas.List.{length-replicate, get_or-replicate}
use Rattle.theory_basics.specs.Lists.{up_to}
use Rattle.theory_basics.specs.lemmas.Lists.{length_up_to, get_d_up_to}
use Rattle.theory_basics.specs.Refusals.{unless, ◌or_else◌}
use Rattle.theory_basics.specs.lemmas.Refusals.{and_as, or_else_as, unless_as}
use Rattle.theory_basics.specs.Tests.{All, all}
use Rattle.theory_basics.specs.Text.{digits}
use Rattle.theory_basics.specs.lemmas.Digits.{digits_first, digits_one}
use Rattle.theory_basics.specs.lemmas.Tables.{all_at}
use Rattle.theory_basics.specs.lemmas.Tests.{all_append, all_iff, all_map, eqb_iff}
use Rattle.job.specs.Job.{Within}
use Rattle.job.specs.Refusal.{within}
use Rattle.job.specs.Theorems.{within_iff}
use Rattle.trace.specs.Trace.{Means, NotBelow, above_refusal, forecast_of, unwritable_refusal, found, how_many, in_slot, lines_from, lines_refusal, slot_bytes, slots_refusal, time, times, trace_of, trace_refusal, writable}
use Rattle.trace.specs.lemmas.Lines.{lines_found, means_found}
use Rattle.trace.specs.lemmas.Lists.{All_replicate}
use Rattle.trace.specs.lemmas.Times.{bytes_few, lines_are, lines_few, many_at, times_are, times_rise, times_from}

-- ---- refusals

-- The trace is some lines.
pub record IsLines (trace : List ℕ) : Type 0 where
  pub lines : List (List ℕ)
  pub means : Means trace lines

-- "14, a line that isn't 1 to 7 digits, lacks its line feed, or has a time below the line before".
pub fourteen_iff : (trace : List ℕ) → (lines_refusal trace ≡ 0) ↔ IsLines trace
fourteen_iff trace =
    let r = lines_found trace in (
      λ e. record { lines = (found trace).lines; means = r.0 e },
      λ f. r.1 (subst (Means trace) (sym (means_found trace f.lines f.means)) f.means),
    )

-- No trace is two lists of lines.
pub lines_unique : (trace : List ℕ) (a b : List (List ℕ)) → Means trace a → Means trace b → a ≡ b
lines_unique trace a b m n = sym (means_found trace a m) ∙ means_found trace b n

-- The slot count is in range, the trace is lines, and no slot asked for is above 16,777,216 bytes.
pub record Readable (slots : ℕ) (trace : List ℕ) : Type 0 where
  pub slots_in : Within 1 3600 slots
  pub is_lines : IsLines trace
  pub bytes_within : All (Within 0 16777216) (forecast_of slots trace)

slots_iff : (slots : ℕ) → (slots_refusal slots ≡ 0) ↔ Within 1 3600 slots
slots_iff slots = unless_as 7 (within 1 3600 slots) (omega arith) (within_iff 1 3600 slots)

above_iff : (f : List ℕ) → (above_refusal f ≡ 0) ↔ All (Within 0 16777216) f
above_iff f = unless_as 15 (all (within 0 16777216) f) (omega arith) (all_iff (within 0 16777216) (Within 0 16777216) (within_iff 0 16777216) f)

-- Nothing in the input is refused exactly for these.
pub read_iff : (slots : ℕ) (trace : List ℕ) → (trace_refusal slots trace ≡ 0) ↔ Readable slots trace
unfolding trace_refusal
read_iff slots trace =
    let r =
    or_else_as (slots_refusal slots) (lines_refusal trace or_else above_refusal (forecast_of slots trace)) (slots_iff slots)
    (or_else_as (lines_refusal trace) (above_refusal (forecast_of slots trace)) (fourteen_iff trace) (above_iff (forecast_of slots trace))) in (
      λ e. let u = r.0 e in record { slots_in = u.0; is_lines = u.1.0; bytes_within = u.1.1 },
      λ u. r.1 (u.slots_in, (u.is_lines, u.bytes_within)),
    )

-- A slot that can be written: at most 16,777,216 bytes, "multiples of 1,500".
pub record WholeLines (b : ℕ) : Type 0 where
  pub high : b ≤ 16777216
  pub multiple : b % 1500 ≡ 0

pub record Writable (forecast : List ℕ) : Type 0 where
  pub slots_in : Within 1 3600 (length forecast)
  pub each : All WholeLines forecast

whole_iff : (b : ℕ) → T (writable b) ↔ WholeLines b
whole_iff b =
    let r = and_as (within 0 16777216 b) (eqb (b % 1500) 0) (within_iff 0 16777216 b) (eqb_iff (b % 1500) 0) in
    (λ t. let u = r.0 t in record { high = u.0.high; multiple = u.1 }, λ l. r.1 (record { low = omega arith; high = l.high }, l.multiple))

pub write_iff : (f : List ℕ) → (unwritable_refusal f ≡ 0) ↔ Writable f
unfolding unwritable_refusal
write_iff f =
    let r =
    or_else_as (slots_refusal (length f)) (unless 15 (all writable f)) (slots_iff (length f))
    (unless_as 15 (all writable f) (omega arith) (all_iff writable WholeLines whole_iff f)) in
    (λ e. let u = r.0 e in record { slots_in = u.0; each = u.1 }, λ u. r.1 (u.slots_in, u.each))

-- ---- the forecast

pub forecast_slots : (slots : ℕ) (trace : List ℕ) → length (forecast_of slots trace) ≡ slots
unfolding forecast_of
forecast_slots slots trace = length_up_to _ slots

-- "Slot j gets 1,500 times the lines from (j − 1) × 1,000 up to, but not including, j × 1,000."
pub slot_bytes_are :
    (slots : ℕ) (trace : List ℕ) (ls : List (List ℕ)) → Means trace ls → (j : ℕ) → 1 ≤ j → j ≤ slots →
    get_or (forecast_of slots trace) (j - 1) 0 ≡ 1500 * how_many (in_slot j) (map time ls)
unfolding forecast_of times
slot_bytes_are slots trace ls m j g h =
    let e : j - 1 + 1 ≡ j = omega arith in
    rw e at (get_d_up_to (λ k. slot_bytes (times trace) (k + 1)) slots (j - 1) 0 (omega arith))
    ∙ ap (λ (k : List (List ℕ)). 1500 * how_many (in_slot j) (map time k)) (means_found trace ls m)

-- "an empty trace gives zeros", and is not refused.
pub empty_zeros : (slots : ℕ) → forecast_of slots [] ≡ replicate slots 0
unfolding forecast_of times
empty_zeros slots =
    ext_get_or 0 (up_to (λ k. slot_bytes [] (k + 1)) slots) (replicate slots 0)
    (length_up_to (λ k. slot_bytes [] (k + 1)) slots ∙ sym (length-replicate slots 0))
    (λ i h.
    let l : i < slots = omega (arith, length_up_to (λ k. slot_bytes [] (k + 1)) slots) in
    get_d_up_to (λ k. slot_bytes [] (k + 1)) slots i 0 l ∙ sym (get_or-replicate slots i 0 0 l))

pub empty_read : (slots : ℕ) → Within 1 3600 slots → trace_refusal slots [] ≡ 0
empty_read slots w =
    (read_iff slots []).1 (record {
      slots_in = w;
      is_lines = record { lines = []; means = record { bytes = refl; each = tt; rises = tt } };
      bytes_within = subst (All (Within 0 16777216)) (sym (empty_zeros slots)) (All_replicate (Within 0 16777216) slots 0 (record { low = omega arith; high = omega arith }));
    })

-- ---- what is written

-- It is its lines.
pub written_means : (f : List ℕ) → length f ≤ 3600 → Means (trace_of f) (lines_from 0 f)
unfolding trace_of
written_means f h = record { bytes = refl; each = lines_are 0 f (omega arith); rises = subst (NotBelow 0) (sym (times_are 0 f)) (times_rise 0 0 f (omega arith)) }

-- "without leading zeros": a line is `0`, or its first digit is none.
abbrev pub NoLeadingZero : List ℕ → Type 0
NoLeadingZero l = (l ≡ 48 ∷ []) ⊎ (49 ≤ get_or l 0 0)

pub no_leading_zeros : (t : ℕ) (f : List ℕ) → All NoLeadingZero (lines_from t f)
no_leading_zeros t [] = tt
no_leading_zeros t (b ∷ f) =
    all_append NoLeadingZero (replicate (b / 1500) (digits (t * 1000))) (lines_from (suc t) f)
    (All_replicate NoLeadingZero (b / 1500) (digits (t * 1000)) (first t))
    (no_leading_zeros (suc t) f)
  where
    first : (t : ℕ) → NoLeadingZero (digits (t * 1000))
    first zero = inl (digits_one 0 (omega arith))
    first (suc t) = inr (digits_first (suc t * 1000) (omega arith))

-- It has at most 322,099,200 bytes: 11,184 lines of 8 bytes for each of 3,600 slots.
pub trace_fits : (f : List ℕ) → unwritable_refusal f ≡ 0 → length (trace_of f) ≤ 322099200
unfolding trace_of
trace_fits f e =
    let u = (write_iff f).0 e in
    omega (arith, bytes_few (lines_from 0 f) (lines_are 0 f (omega (arith, u.slots_in.high))), lines_few 0 f (all_map WholeLines (λ b. b ≤ 16777216) f (λ b l. l.high) u.each), u.slots_in.high)

-- "reading it restores the forecast".
pub reads_back : (f : List ℕ) → unwritable_refusal f ≡ 0 → forecast_of (length f) (trace_of f) ≡ f
reads_back f e =
    let u = (write_iff f).0 e in
    let m = written_means f u.slots_in.high in
    ext_get_or 0 (forecast_of (length f) (trace_of f)) f (forecast_slots (length f) (trace_of f)) (λ i h.
    let l : i < length f = omega (arith, forecast_slots (length f) (trace_of f)) in
    let q : i + 1 - 1 ≡ i = omega arith in
    let z : 0 + i ≡ i = omega arith in
    let c : get_or (forecast_of (length f) (trace_of f)) i 0 ≡ 1500 * how_many (in_slot (i + 1)) (map time (lines_from 0 f)) =
    rw q at (slot_bytes_are (length f) (trace_of f) (lines_from 0 f) m (i + 1) (omega arith) (omega arith)) in
    let a : how_many (in_slot (i + 1)) (times_from 0 f) ≡ get_or f i 0 / 1500 = rw z at (many_at i 0 f) in
    let b : how_many (in_slot (i + 1)) (map time (lines_from 0 f)) ≡ get_or f i 0 / 1500 = ap (how_many (in_slot (i + 1))) (times_are 0 f) ∙ a in
    omega (arith, c, b, (all_at WholeLines f i l u.each).multiple))

-- What is written is never refused.
pub never_refused : (f : List ℕ) → unwritable_refusal f ≡ 0 → trace_refusal (length f) (trace_of f) ≡ 0
never_refused f e =
    let u = (write_iff f).0 e in
    (read_iff (length f) (trace_of f)).1 (record {
      slots_in = u.slots_in;
      is_lines = record { lines = lines_from 0 f; means = written_means f u.slots_in.high };
      bytes_within = subst (All (Within 0 16777216)) (sym (reads_back f e)) (all_map WholeLines (Within 0 16777216) f (λ b l. record { low = omega arith; high = l.high }) u.each);
    })

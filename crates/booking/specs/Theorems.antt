-- Theorems. Document 02, request 11, sentence by sentence.
use Rattle.std.specs.Prelude.{ℕ, ◌+◌, ◌≤◌, ◌≡◌, refl, Bool, ◌&&◌, List, [], ◌∷◌, ◌↔◌, length, leb, eqb}
use Rattle.std.proofs.Common.{sym, ◌∙◌, arith}
use Rattle.theory_basics.specs.Tests.{All, all, all_to}
use Rattle.theory_basics.specs.lemmas.Tests.{all_iff, all_to_iff, eqb_iff, leb_iff, tests}
use Rattle.theory_basics.specs.Refusals.{◌or_else◌}
use Rattle.theory_basics.specs.lemmas.Refusals.{unless_as, and_as, or_else_iff}
use Rattle.job.specs.Job.{Job, Accepted, EqualChunks, Within, last_slot, with_forecast}
use Rattle.job.specs.Input.{JobInput, job_in, job_refusal}
use Rattle.fetch.specs.Rows.{Row, bytes_in_slot}
use Rattle.fetch.specs.Input.{Whole}
use Rattle.fetch.specs.Slices.{ListSlices, RowSlices, list_rows, row_slices, slices_refusal}
use Rattle.fetch.specs.Input
use Rattle.fetch.specs.Rules.{Keeps}
use Rattle.fetch.specs.Verdict.{verdict}
use Rattle.fetch.proofs.Theorems.{verdict_iff}
use Rattle.theory_plan.specs.Statement.{Best, IsPlan, MostPictures, marks_of}
use Rattle.theory_plan.proofs.Pictures.{most_pictures}
use Rattle.theory_plan.specs.Own.{own_list}
use Rattle.theory_plan.proofs.Theorems.{best, plan_carried}
use Rattle.theory_plan.specs.lemmas.Words.{accepted_sized}
use Rattle.booking.specs.Booking.{slot_has, taken_off, added_back, pass_refusal, slot_there, room_refusal, SlotsThere, Releasable, Bookable, Without, Run, start, booking, Balanced}
use Rattle.booking.specs.Booking
use Rattle.checker.specs.Checked.{check_refusal}
use Rattle.booking.specs.Answer.{book_refusal, on_forecast, release_refusal, rows_refusal}
use Rattle.booking.specs.lemmas.Slots.{length_taken, length_added, taken_at, added_at, slots_equal, all_slots, bookable_within}
use Rattle.booking.specs.lemmas.Runs.{kept, run_in_range, slots_there, without_bytes, without_all, equal_on}
use Rattle.job.specs.Theorems.{input_iff, input_accepted}

-- ---- the refusals

-- "19, booking a list whose verdict isn't 0": none exactly for a list that keeps rules 1 to 7.
pub nineteen_iff : (j : Job) (marks : List ℕ) (rows : List Row) → (pass_refusal j marks rows ≡ 0) ↔ Keeps j marks rows
unfolding pass_refusal
nineteen_iff j marks rows =
    let v = verdict_iff j marks rows in
    let e = eqb_iff (verdict j marks rows) 0 in
    unless_as 19 (eqb (verdict j marks rows) 0) (omega arith) (λ t. v.0 (e.0 t), λ k. e.1 (v.1 k))

-- "20, releasing a row for a slot that isn't there or beyond 16,777,216 bytes in a slot": none
-- exactly for a list that can be released.
pub twenty_iff : (f : List ℕ) (rows : List Row) → (room_refusal f rows ≡ 0) ↔ Releasable f rows
unfolding room_refusal
twenty_iff f rows =
    let inside : Row → Bool = λ x. slot_there (length f) x.slot in
    let full : ℕ → Bool = λ t. leb (slot_has f t + bytes_in_slot rows t) 16777216 in
    let a = all_iff inside (λ (x : Row). (1 ≤ x.slot) × (x.slot ≤ length f)) (λ x. (λ t. simp tests at t, λ r. simp tests r)) rows in
    let r = unless_as 20 (all inside rows && all_to (length f) full) (omega arith) (and_as (all inside rows) (all_to (length f) full) a (all_to_iff (length f) full)) in (
      λ e. let u = r.0 e in record { there = u.0; room = λ t g h. (leb_iff (slot_has f t + bytes_in_slot rows t) 16777216).0 (u.1 t g h) },
      λ o. r.1 (o.there, λ t g h. (leb_iff (slot_has f t + bytes_in_slot rows t) 16777216).1 (o.room t g h)),
    )

-- ---- one list

-- "Releasing what was booked restores the forecast exactly."
pub release_restores : (f : List ℕ) (rows : List Row) → Bookable f rows → added_back (taken_off f rows) rows ≡ f
release_restores f rows b =
    let l = length_taken f rows in
    let k = length_added (taken_off f rows) rows in
    slots_equal (added_back (taken_off f rows) rows) f (k ∙ l) (λ t g h.
    omega (arith, added_at (taken_off f rows) rows t g (omega arith), taken_at f rows t g (omega arith), bookable_within f rows b t g (omega arith)))

-- ---- two lists

-- "Two lists that both can be booked in either sequence leave equal forecasts." It is so of any two
-- lists.
pub either_sequence : (f : List ℕ) (a b : List Row) → taken_off (taken_off f a) b ≡ taken_off (taken_off f b) a
either_sequence f a b =
    let la = length_taken f a in
    let lb = length_taken f b in
    let lab = length_taken (taken_off f a) b in
    let lba = length_taken (taken_off f b) a in
    slots_equal (taken_off (taken_off f a) b) (taken_off (taken_off f b) a) (omega arith) (λ t g h.
    omega (
      arith,
      taken_at (taken_off f a) b t g (omega arith),
      taken_at (taken_off f b) a t g (omega arith),
      taken_at f a t g (omega arith),
      taken_at f b t g (omega arith),
    ))

-- ---- runs

-- "After any run of bookings, and releases of lists still booked, the booked and unspent bytes sum
-- to the forecast before the first booking, slot by slot".
pub balanced : {first f : List ℕ} {booked : List (List Row)} → Run first f booked → Balanced first f booked
balanced run = (kept run).balance

-- With every list released, the forecast is the first one.
pub all_released : {first f : List ℕ} → Run first f [] → f ≡ first
all_released {first = first} {f = f} run =
    let r = balanced run in
    slots_equal f first r.slots (λ t g h. omega (arith, r.sums t g (omega (arith, r.slots))))

-- A list still booked is never refused by 20.
pub still_booked_releasable :
    {first f : List ℕ} {booked left : List (List Row)} (rows : List Row) → All (Within 0 16777216) first → Run first f booked →
    Without rows booked left → room_refusal f rows ≡ 0
still_booked_releasable {first = first} {f = f} rows a run w =
    let r = balanced run in
    (twenty_iff f rows).1 (record {
      there = slots_there first f (sym r.slots) rows (without_all (SlotsThere first) rows w (kept run).there).0;
      room = λ t g h.
          omega (arith, r.sums t g (omega (arith, r.slots)), without_bytes rows w t, all_slots (Within 0 16777216) first a t g (omega (arith, r.slots)));
    })

-- A list that passes can be booked on its job's forecast, and so can the plan's own list.
pub passing_bookable : (j : Job) → Accepted j → (marks : List ℕ) (rows : List Row) → Keeps j marks rows → Bookable j.forecast rows
passing_bookable j ok marks rows keeps = record { job = j; accepted = ok; its_forecast = refl; marks = marks; passes = keeps }

pub plan_bookable : (j : Job) → Accepted j → (p : ℕ → ℕ) → IsPlan j p → Bookable j.forecast (own_list j p)
plan_bookable j ok p d = passing_bookable j ok (marks_of j p) (own_list j p) (plan_carried j (accepted_sized j ok) p d).0

-- ---- "The second film has the same last due slot and is planned on what the first left, and being
-- best means best on that remainder."

-- After any run: a film with the last due slot of the forecast is an accepted job on what is left,
pub remainder_accepted :
    {first f : List ℕ} {booked : List (List Row)} (film : Job) → All (Within 0 16777216) first → Run first f booked → Accepted film →
    last_slot film ≡ length first → Accepted (with_forecast film f)
remainder_accepted film a run ok e =
    record {
      chunks_in = ok.chunks_in;
      span_in = ok.span_in;
      delay_in = ok.delay_in;
      limit_in = ok.limit_in;
      last_in = ok.last_in;
      layers_in = ok.layers_in;
      sizes_in_lem = ok.sizes_in_lem;
      overrides_named = ok.overrides_named;
      overrides_rise = ok.overrides_rise;
      overrides_in_lem = ok.overrides_in_lem;
      forecast_in_lem = run_in_range a run;
      slots_in = omega (arith, (balanced run).slots);
    }

-- and of equal chunks, demand 3 holds of its plan there.
pub remainder_best :
    {first f : List ℕ} {booked : List (List Row)} (film : Job) → All (Within 0 16777216) first → Run first f booked → Accepted film →
    last_slot film ≡ length first → EqualChunks film → (p : ℕ → ℕ) → IsPlan (with_forecast film f) p →
    Best (with_forecast film f) p (own_list (with_forecast film f) p)
remainder_best {f = f} film a run ok e equal p d =
    best (with_forecast film f) (remainder_accepted film a run ok e) (equal_on film f equal) p d

-- Of an uneven one, whose limit holds it all, request 9's claim does.
pub remainder_most :
    {first f : List ℕ} {booked : List (List Row)} (film : Job) → All (Within 0 16777216) first → Run first f booked → Accepted film →
    last_slot film ≡ length first → (p : ℕ → ℕ) → IsPlan (with_forecast film f) p → MostPictures (with_forecast film f) p
remainder_most {f = f} film a run ok e p d = most_pictures (with_forecast film f) (remainder_accepted film a run ok e) p d

-- The main film's list booked on its own forecast, and the second film planned on what it left.
module _ (main second : Job) (marks : List ℕ) (rows : List Row) (main-ok : Accepted main) (keeps : Keeps main marks rows) where
  abbrev left : List ℕ
  left = taken_off main.forecast rows

  one_booked : Run main.forecast left (rows ∷ [])
  one_booked = booking start rows (passing_bookable main main-ok marks rows keeps)

  module _ (second-ok : Accepted second) (same-last : last_slot second ≡ last_slot main) where
    same_slots : last_slot second ≡ length main.forecast
    same_slots = omega (arith, main-ok.slots_in)

    pub second_film_accepted : Accepted (with_forecast second left)
    second_film_accepted = remainder_accepted second main-ok.forecast_in_lem one_booked second-ok same_slots

    pub second_film_best : EqualChunks second → (p : ℕ → ℕ) → IsPlan (with_forecast second left) p → Best (with_forecast second left) p (own_list (with_forecast second left) p)
    second_film_best equal p d = remainder_best second main-ok.forecast_in_lem one_booked second-ok same_slots equal p d

    pub second_film_most : (p : ℕ → ℕ) → IsPlan (with_forecast second left) p → MostPictures (with_forecast second left) p
    second_film_most p d = remainder_most second main-ok.forecast_in_lem one_booked second-ok same_slots p d

-- ---- the calls

module _ (h : JobInput) (s : ListSlices) (fine : book_refusal h s ≡ 0) where
  abbrev rows : List Row
  rows = list_rows s

  abbrev its_rows : RowSlices
  its_rows = row_slices s.slots s.chunks s.layers s.bytes

  parts : (check_refusal h s ≡ 0) × (pass_refusal (job_in h) s.marks rows ≡ 0)
  parts = (or_else_iff (check_refusal h s) (pass_refusal (job_in h) s.marks rows)).0 fine

  input : (job_refusal h ≡ 0) × (slices_refusal h.programme.chunks s ≡ 0)
  input = (or_else_iff (job_refusal h) (slices_refusal h.programme.chunks s)).0 parts.0

  -- A list that `book` does not refuse is handed whole, for an accepted job, and can be booked on
  -- its forecast,
  pub booked_accepted : Accepted (job_in h)
  booked_accepted = input_accepted h input.0

  pub booked_whole : Whole h.programme.chunks s.marks s.slots s.chunks s.layers s.bytes
  booked_whole = (Input.whole_iff h.programme.chunks s.marks s.slots s.chunks s.layers s.bytes).0 input.1

  pub booked_bookable : Bookable h.forecast rows
  booked_bookable = passing_bookable (job_in h) booked_accepted s.marks rows ((nineteen_iff (job_in h) s.marks rows).0 parts.1)

  -- and `release` does not refuse it on what `book` has left.
  pub booked_released : release_refusal (on_forecast h (taken_off h.forecast rows)) its_rows ≡ 0
  booked_released =
      let left : List ℕ = taken_off h.forecast rows in
      let run : Run h.forecast left (rows ∷ []) = booking start rows booked_bookable in
      let high = booked_accepted.forecast_in_lem in
      let w = booked_whole in
      (or_else_iff (job_refusal (on_forecast h left)) (rows_refusal its_rows or_else room_refusal left rows)).1 (
        (input_iff (on_forecast h left)).1 (((input_iff h).0 input.0).0, remainder_accepted (job_in h) high run booked_accepted (sym booked_accepted.slots_in)),
        (or_else_iff (rows_refusal its_rows) (room_refusal left rows)).1 (
          (Input.whole_iff 0 [] s.slots s.chunks s.layers s.bytes).1 (record { byte_each = refl; chunk_each = w.chunk_each; layer_each = w.layer_each; bytes_each = w.bytes_each }),
          still_booked_releasable rows high run Booking.here,
        ),
      )

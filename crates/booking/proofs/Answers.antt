-- Laws on what the two calls answer: refusals in turn, and the forecast that is handed back.
-- Assumes nothing.
use Prim.Native.Nat.{ℕ, ◌+◌, ◌≤◌, ◌<◌}
use mathlib.Core.Path.{◌≡◌, refl, sym, ◌∙◌}
use mathlib.Core.Bool.{Bool, true, false, cond, ◌&&◌}
use mathlib.Core.List.{List, []}
use native.Mathlib.Omega.{arith}
use lib.ListN.{length}
use lib.Dec.{eqb, leb}
use Rattle.std.proofs.Common.{Ok, Err}
use Rattle.theory_basics.specs.Tests.{All, all, all_to}
use Rattle.theory_basics.specs.Refusals.{unless, ◌or_else◌}
use Rattle.theory_basics.specs.lemmas.Refusals.{or_else_none}
use Rattle.job.specs.Job.{Within}
use Rattle.job.specs.Input.{JobInput, job_in, job_refusal}
use Rattle.fetch.specs.Rows.{Row, bytes_in_slot}
use Rattle.fetch.specs.Slices.{ListSlices, RowSlices, list_rows, rows_in}
use Rattle.fetch.specs.Input.{Whole}
use Rattle.fetch.specs.Input
use Rattle.fetch.specs.Verdict.{verdict}
use Rattle.checker.specs.Checked.{check_refusal, checked}
use Rattle.booking.specs.Booking.{slot_has, slot_there, taken_off, added_back, pass_refusal, room_refusal, Releasable}
use Rattle.booking.specs.Answer.{BookPromise, ReleasePromise, book_refusal, release_refusal, rows_refusal}
use Rattle.booking.specs.Theorems.{twenty_iff, booked_bookable, booked_whole}
use Rattle.booking.specs.lemmas.Slots.{added_at, bookable_within, bookable_there, length_added}
use Rattle.booking.specs.lemmas.Runs.{slots_there}
use Rattle.booking.specs.lemmas.Passes.{Added, Covered, bare}
use Rattle.booking.proofs.Rows.{added_bare, bare_covered, bare_releasable, taken_again, taken_bare}
use Rattle.job.specs.Theorems.{input_accepted}

-- ---- booking

-- What `take_off` asks.
abbrev pub TakeOff : List ℕ → List ℕ → List ℕ → ℕ → Type 0
TakeOff f slots bytes n = (n ≤ length slots) × (n ≤ length bytes) × Covered f (bare slots bytes n)

module _ (h : JobInput) (s : ListSlices) where
  -- A verdict of 0 is no refusal.
  pub book_none : (v : ℕ) → Ok v ≡ checked h s → 0 ≡ unless 19 (eqb v 0) → book_refusal h s ≡ 0
  unfolding pass_refusal
  book_none v e z = by (eqb (check_refusal h s) 0) (check_refusal h s) (verdict (job_in h) s.marks (list_rows s)) e
    where
      by : (b : Bool) (a w : ℕ) → Ok v ≡ cond b (Ok w) (Err a) → cond b (unless 19 (eqb w 0)) a ≡ 0
      by true a w i = let q : v ≡ w = cc in rw (← q) (sym z)
      by false a w i = cc

  module _ (none : book_refusal h s ≡ 0) where
    pub book_asks : TakeOff h.forecast s.slots s.bytes (length s.slots)
    book_asks =
        let b = booked_bookable h s none in
        let rows = list_rows s in (
          omega arith,
          omega (arith, (booked_whole h s none).bytes_each),
          bare_covered s.slots s.chunks s.layers s.bytes h.forecast (record { there = bookable_there h.forecast rows b; covered = bookable_within h.forecast rows b }),
        )

    pub book_done : (after : List ℕ) → after ≡ taken_off h.forecast (bare s.slots s.bytes (length s.slots)) → BookPromise h s 0 after
    book_done after x = record { answered = sym none; left = rw none (x ∙ sym (taken_bare s.slots s.chunks s.layers s.bytes h.forecast)) }

-- ---- releasing

-- A list that cannot be released is refused by 20.
twenty : (f : List ℕ) (rows : List Row) → (Releasable f rows → ⊥) → room_refusal f rows ≡ 20
unfolding room_refusal
twenty f rows never =
    by (all (λ (x : Row). slot_there (length f) x.slot) rows && all_to (length f) (λ t. leb (slot_has f t + bytes_in_slot rows t) 16777216)) (λ e. never ((twenty_iff f rows).0 e))
  where
    by : (b : Bool) → (unless 20 b ≡ 0 → ⊥) → unless 20 b ≡ 20
    by true g = absurd (g refl)
    by false g = refl

-- What `release` does to rows that no refusal before 20 meets.
module _ (h : JobInput) (s : RowSlices) (job-fine : 0 ≡ job_refusal h) (list-fine : 0 ≡ rows_refusal s) where
  abbrev rows : List Row
  rows = rows_in s

  past : release_refusal h s ≡ room_refusal h.forecast rows
  past = or_else_none (job_refusal h) (rows_refusal s or_else room_refusal h.forecast rows) (sym job-fine) ∙ or_else_none (rows_refusal s) (room_refusal h.forecast rows) (sym list-fine)

  whole : Whole 0 [] s.slots s.chunks s.layers s.bytes
  whole = (Input.whole_iff 0 [] s.slots s.chunks s.layers s.bytes).0 (sym list-fine)

  pub release_asks : (length s.slots ≡ length s.bytes) × All (Within 0 16777216) h.forecast
  release_asks = (whole.bytes_each, (input_accepted h (sym job-fine)).forecast_in_lem)

  module _ (r : ℕ) (mid : List ℕ) (a : Added h.forecast s.slots s.bytes (length s.slots) r mid) where
    -- The rows that were added can be taken off again.
    pub release_undo : TakeOff mid s.slots s.bytes r
    release_undo =
        let f : List ℕ = h.forecast in
        let some : List Row = bare s.slots s.bytes r in
        let long = length_added f some in
        rw a.says (
          a.inside,
          omega (arith, a.inside, whole.bytes_each),
          record {
            there = slots_there f (added_back f some) (sym long) some a.fits.there;
            covered = λ t g i. omega (arith, added_at f some t g (omega arith));
          },
        )

    pub release_twenty : r < length s.slots → (after : List ℕ) → after ≡ taken_off mid (bare s.slots s.bytes r) → ReleasePromise h s 20 after
    release_twenty less after x =
        let back : after ≡ h.forecast = x ∙ rw a.says (taken_again h.forecast (bare s.slots s.bytes r)) in
        let why : release_refusal h s ≡ 20 = past ∙ twenty h.forecast rows (λ o. a.stops less ((bare_releasable s.slots s.chunks s.layers s.bytes h.forecast).1 o)) in
        rw back (record { answered = sym why; left = rw why })

    pub release_done : length s.slots ≤ r → ReleasePromise h s 0 mid
    release_done all-added =
        let all-of-them : r ≡ length s.slots = omega (arith, a.inside) in
        let fits = (bare_releasable s.slots s.chunks s.layers s.bytes h.forecast).0 (rw all-of-them at a.fits) in
        let none : release_refusal h s ≡ 0 = past ∙ (twenty_iff h.forecast rows).1 fits in
        record { answered = sym none; left = rw none (a.says ∙ rw all-of-them (sym (added_bare s.slots s.chunks s.layers s.bytes h.forecast))) }

-- Theorems. "Releasing what was booked restores the forecast exactly" (document 02, request 11), of
-- the two calls: at once after the booking, and after any run of further bookings and releases with
-- the list still booked.
use Rattle.std.specs.Prelude.{ℕ, ◌≡◌, refl, List, [], ◌∷◌, length}
use Rattle.std.proofs.Common.{sym, ◌∙◌, arith, eq-eqb}
use Rattle.theory_basics.specs.Tests.{All}
use Rattle.theory_basics.specs.Refusals.{◌or_else◌}
use Rattle.theory_basics.specs.lemmas.Refusals.{or_else_iff}
use Rattle.job.specs.Job.{Within}
use Rattle.job.specs.Input.{JobInput, job_in, job_refusal}
use Rattle.fetch.specs.Rows.{Row}
use Rattle.fetch.specs.Slices.{ListSlices, RowSlices, list_rows, row_slices, slices_refusal}
use Rattle.fetch.specs.Input
use Rattle.checker.specs.Checked.{check_refusal}
use Rattle.booking.specs.Booking.{Run, Without, added_back, booking, pass_refusal, releasing, room_refusal, start, taken_off}
use Rattle.booking.specs.Booking
use Rattle.booking.specs.Answer.{BookPromise, ReleasePromise, book_refusal, on_forecast, release_refusal, rows_refusal}
use Rattle.booking.specs.Theorems.{balanced, booked_accepted, booked_bookable, booked_whole, remainder_accepted, still_booked_releasable}
use Rattle.booking.specs.lemmas.Slots.{slots_equal}
use Rattle.job.specs.Theorems.{input_iff}

-- The lists booked and not released say the forecast: two runs from one forecast that end with the
-- same lists booked leave the same bytes in each slot.
pub booked_lists_say : {first f g : List ℕ} {booked : List (List Row)} → Run first f booked → Run first g booked → f ≡ g
booked_lists_say {f = f} {g = g} a b =
    let r = balanced a in
    let q = balanced b in
    slots_equal f g (omega (arith, r.slots, q.slots)) (λ t l h.
    omega (arith, r.sums t l (omega (arith, r.slots)), q.sums t l (omega (arith, r.slots))))

-- What releasing a list gives that stands among the booked ones: it is done, the others stay
-- booked, and the forecast is exactly the one that they alone leave: that before the list was
-- booked, where they are the lists booked then.
pub record Restored (first : List ℕ) (others : List (List Row)) (r : ℕ) (after : List ℕ) : Type 0 where
  pub done : r ≡ 0
  pub still_booked : Run first after others
  pub exactly : (f : List ℕ) → Run first f others → after ≡ f

module _ (h : JobInput) (s : ListSlices) where
  abbrev rows : List Row
  rows = list_rows s

  -- The list's rows alone, as `release` is handed them.
  abbrev alone : RowSlices
  alone = row_slices s.slots s.chunks s.layers s.bytes

  module _ (fine : book_refusal h s ≡ 0) where
    whole_sizes : job_refusal h ≡ 0
    whole_sizes =
        ((or_else_iff (job_refusal h) (slices_refusal h.programme.chunks s)).0
        ((or_else_iff (check_refusal h s) (pass_refusal (job_in h) s.marks rows)).0 fine).0).0

    -- `release` refuses no list still booked that `book` took, whatever has been booked and
    -- released since, or before.
    pub never_refused :
        {first f : List ℕ} {booked others : List (List Row)} → All (Within 0 16777216) first → length first ≡ length h.forecast →
        Run first f booked → Without rows booked others → release_refusal (on_forecast h f) alone ≡ 0
    never_refused {first = first} {f = f} high same run w =
        let ok = booked_accepted h s fine in
        let full = booked_whole h s fine in
        (or_else_iff (job_refusal (on_forecast h f)) (rows_refusal alone or_else room_refusal f rows)).1 (
          (input_iff (on_forecast h f)).1 (((input_iff h).0 whole_sizes).0, remainder_accepted (job_in h) high run ok (omega (arith, ok.slots_in))),
          (or_else_iff (rows_refusal alone) (room_refusal f rows)).1 (
            (Input.whole_iff 0 [] s.slots s.chunks s.layers s.bytes).1
                (record { byte_each = refl; chunk_each = full.chunk_each; layer_each = full.layer_each; bytes_each = full.bytes_each }),
            still_booked_releasable rows high run w,
          ),
        )

  -- The list is booked, `book` having answered no refusal; then, after any run in which it is still
  -- booked, `release` restores.
  pub release_in_run :
      {first f left after : List ℕ} {booked others : List (List Row)} {r : ℕ} → BookPromise h s 0 left →
      All (Within 0 16777216) first → length first ≡ length h.forecast → Run first f booked → Without rows booked others →
      ReleasePromise (on_forecast h f) alone r after → Restored first others r after
  release_in_run {first = first} {f = f} {after = after} {others = others} {r = r} b high same run w g =
      let fine = sym b.answered in
      let n = release_refusal (on_forecast h f) alone in
      let none : n ≡ 0 = never_refused fine high same run w in
      let is : after ≡ added_back f rows = g.left ∙ rw (eq-eqb n 0 none) refl in
      let now : Run first after others = rw is (releasing run rows w) in
      record { done = g.answered ∙ none; still_booked = now; exactly = λ k o. booked_lists_say now o }

  -- "Releasing what was booked restores the forecast exactly": at once, the forecast before.
  pub release_after_book :
      {left after : List ℕ} {r : ℕ} → BookPromise h s 0 left →
      ReleasePromise (on_forecast h left) alone r after → (r ≡ 0) × (after ≡ h.forecast)
  release_after_book {left = left} b g =
      let n = book_refusal h s in
      let fine : n ≡ 0 = sym b.answered in
      let is : left ≡ taken_off h.forecast rows = b.left ∙ rw (eq-eqb n 0 fine) refl in
      let run : Run h.forecast left (rows ∷ []) = rw is (booking start rows (booked_bookable h s fine)) in
      let x = release_in_run b (booked_accepted h s fine).forecast_in_lem refl run Booking.here g in
      (x.done, x.exactly h.forecast start)

  -- And so after further bookings and releases that leave, beside the list, what was booked before
  -- it: the forecast that it was booked on.
  pub release_later :
      {first f left after : List ℕ} {before booked : List (List Row)} {r : ℕ} → BookPromise h s 0 left →
      All (Within 0 16777216) first → Run first h.forecast before → Run first f booked → Without rows booked before →
      ReleasePromise (on_forecast h f) alone r after → (r ≡ 0) × (after ≡ h.forecast)
  release_later b high was run w g =
      let x = release_in_run b high (sym (balanced was).slots) run w g in
      (x.done, x.exactly h.forecast was)

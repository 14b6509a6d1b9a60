-- Meaning. Two films on one link: document 02, request 11. A forecast is a list of bytes, slot 1 in
-- front; booking and releasing change each slot by the bytes that the rows have in it.
use Rattle.std.specs.Prelude.{ℕ, ◌+◌, ◌-◌, ◌≤◌, ◌≡◌, Bool, ◌&&◌, List, [], ◌∷◌, ◌++◌, length, get_or, leb, eqb}
use Rattle.theory_basics.specs.Lists.{up_to}
use Rattle.theory_basics.specs.Tests.{All, all, all_to}
use Rattle.theory_basics.specs.Refusals.{unless}
use Rattle.job.specs.Job.{Job, Accepted}
use Rattle.fetch.specs.Rows.{Row, bytes_in_slot}
use Rattle.fetch.specs.Rules.{Keeps}
use Rattle.fetch.specs.Verdict.{verdict}

-- ---- a forecast afterwards

-- What slot t of a forecast has; slots are counted from 1.
abbrev pub slot_has : List ℕ → ℕ → ℕ
slot_has f t = get_or f (t - 1) 0

-- Each slot's bytes, changed by those that the rows have in it.
abbrev pub slot_by_slot : (ℕ → ℕ → ℕ) → List ℕ → List Row → List ℕ
slot_by_slot change f rows = up_to (λ k. change (get_or f k 0) (bytes_in_slot rows (k + 1))) (length f)

-- "Booking a fetch list takes a passing list off its job's forecast and leaves the unspent bytes of
-- each slot."
unfoldable pub taken_off : List ℕ → List Row → List ℕ
taken_off f rows = slot_by_slot (λ (has spent : ℕ). has - spent) f rows

-- "Releasing adds a list's bytes back."
unfoldable pub added_back : List ℕ → List Row → List ℕ
added_back f rows = slot_by_slot (λ (has spent : ℕ). has + spent) f rows

-- ---- refusals 19 and 20

-- "19, booking a list whose verdict isn't 0": by the marks handed with it.
unfoldable pub pass_refusal : Job → List ℕ → List Row → ℕ
pass_refusal j marks rows = unless 19 (eqb (verdict j marks rows) 0)

-- The slot is one of the forecast's n.
abbrev pub slot_there : ℕ → ℕ → Bool
slot_there n t = leb 1 t && leb t n

-- "20, releasing a row for a slot that isn't there or beyond 16,777,216 bytes in a slot."
unfoldable pub room_refusal : List ℕ → List Row → ℕ
room_refusal f rows =
    unless 20 (all (λ (x : Row). slot_there (length f) x.slot) rows && all_to (length f) (λ t. leb (slot_has f t + bytes_in_slot rows t) 16777216))

-- What 20 asks: every row's slot is there,
abbrev pub SlotsThere : List ℕ → List Row → Type 0
SlotsThere f rows = All (λ (x : Row). (1 ≤ x.slot) × (x.slot ≤ length f)) rows

-- and no slot comes to more than 16,777,216 bytes.
pub record Releasable (f : List ℕ) (rows : List Row) : Type 0 where
  pub there : SlotsThere f rows
  pub room : (t : ℕ) → 1 ≤ t → t ≤ length f → slot_has f t + bytes_in_slot rows t ≤ 16777216

-- ---- runs of bookings and releases

-- The list can be booked on the forecast: with some marks it passes, for some accepted job that has
-- this forecast.
pub record Bookable (f : List ℕ) (rows : List Row) : Type 0 where
  pub job : Job
  pub accepted : Accepted job
  pub its_forecast : job.forecast ≡ f
  pub marks : List ℕ
  pub passes : Keeps job marks rows

-- One of the lists is x, and the others are left.
pub data Without (x : List Row) : List (List Row) → List (List Row) → Type 0 where
  here : {l : List (List Row)} → Without x (x ∷ l) l
  there : {y : List Row} {l m : List (List Row)} → Without x l m → Without x (y ∷ l) (y ∷ m)

-- "any run of bookings, and releases of lists still booked": from the first forecast to the one
-- now, with the lists booked and not released.
pub data Run (first : List ℕ) : List ℕ → List (List Row) → Type 0 where
  start : Run first first []
  booking : {f : List ℕ} {booked : List (List Row)} → Run first f booked → (rows : List Row) → Bookable f rows → Run first (taken_off f rows) (rows ∷ booked)
  releasing :
      {f : List ℕ} {booked left : List (List Row)} → Run first f booked → (rows : List Row) → Without rows booked left →
      Run first (added_back f rows) left

-- "where booked means the rows of lists booked and not released".
abbrev pub rows_booked : List (List Row) → List Row
rows_booked [] = []
rows_booked (rows ∷ booked) = rows ++ rows_booked booked

-- "the booked and unspent bytes sum to the forecast before the first booking, slot by slot".
pub record Balanced (first f : List ℕ) (booked : List (List Row)) : Type 0 where
  pub slots : length f ≡ length first
  pub sums : (t : ℕ) → 1 ≤ t → t ≤ length first → bytes_in_slot (rows_booked booked) t + slot_has f t ≡ slot_has first t

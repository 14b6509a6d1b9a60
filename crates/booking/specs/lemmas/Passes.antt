-- Lemmas. What the code's parts hand on. Its passes over the rows see of a row only its slot and
-- its bytes.
use Rattle.std.specs.Prelude.{ℕ, ◌≤◌, ◌<◌, ◌≡◌, List, [], length}
use Rattle.theory_basics.specs.Lists.{up_to}
use Rattle.fetch.specs.Rows.{Row, bytes_in_slot, row_at}
use Rattle.booking.specs.Booking.{slot_has, added_back, SlotsThere, Releasable}

-- The first n rows, by their slots and bytes alone.
abbrev pub bare : List ℕ → List ℕ → ℕ → List Row
bare slots bytes n = up_to (row_at slots [] [] bytes) n

-- The forecast has the rows' bytes in each slot.
pub record Covered (f : List ℕ) (rows : List Row) : Type 0 where
  pub there : SlotsThere f rows
  pub covered : (t : ℕ) → 1 ≤ t → t ≤ length f → bytes_in_slot rows t ≤ slot_has f t

-- The first r of n rows are added back, and if they are not all, all of them cannot be.
pub record Added (f slots bytes : List ℕ) (n r : ℕ) (after : List ℕ) : Type 0 where
  pub inside : r ≤ n
  pub fits : Releasable f (bare slots bytes r)
  pub says : after ≡ added_back f (bare slots bytes r)
  pub stops : r < n → Releasable f (bare slots bytes n) → ⊥

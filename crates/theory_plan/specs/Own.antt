-- Meaning. The plan's own list: document 01, "How the plan decides": "The plan's own list takes the
-- carried bytes by chunk, then layer. Each slot takes as many next bytes as B(slot) and rule 6
-- allow. One row per slot, chunk and layer." A choice (Statement) says of each chunk how many
-- layers it carries, from the base up.
use Rattle.std.specs.Prelude.{ℕ, zero, suc, ◌-◌, ◌<◌, ◌≡◌, Bool, cond, ◌&&◌, List, [], ◌∷◌, ◌++◌, ◌⊎◌, leb, ltb}
use Rattle.theory_basics.specs.Lists.{up_to}
use Rattle.theory_basics.specs.Tests.{All}
use Rattle.job.specs.Job.{Job, chunks, size, forecast, held_most, last_slot}
use Rattle.fetch.specs.Rows.{Row, held_count}

-- ---- "the carried bytes by chunk, then layer"

-- Bytes of one layer of one chunk that are still to be fetched.
pub record Piece : Type 0 where
  pub chunk : ℕ
  pub layer : ℕ
  pub bytes : ℕ

-- Layer n of chunk i, whole.
abbrev pub whole_layer : Job → ℕ → ℕ → Piece
whole_layer j i n = record { chunk = i; layer = n; bytes = size j i n }

-- The carried bytes of the chunks 1 to i.
abbrev pub carried_to : Job → (ℕ → ℕ) → ℕ → List Piece
carried_to j choice zero = []
carried_to j choice (suc i) = carried_to j choice i ++ up_to (whole_layer j (suc i)) (choice (suc i))

-- ---- "each slot takes as many next bytes as B(slot) and rule 6 allow"

-- The row of b bytes of piece p in slot t, and what is left of p without them.
abbrev pub row_of : ℕ → Piece → ℕ → Row
row_of t p b = record { slot = t; chunk = p.chunk; layer = p.layer; bytes = b }

abbrev pub without : Piece → ℕ → Piece
without p b = record { chunk = p.chunk; layer = p.layer; bytes = p.bytes - b }

-- Rule 6 allows a byte of p in slot t: with it beside the rows made so far, at most H chunks are
-- held at the slot's end.
abbrev pub allowed : Job → List Row → ℕ → Piece → Bool
allowed j rows t p = leb (held_count j (rows ++ (row_of t p 1 ∷ [])) t) (held_most j)

-- The rows made so far and what is still to be fetched.
pub record Fetched : Type 0 where
  pub rows : List Row
  pub left : List Piece

-- Slot t, with c bytes of its forecast unspent: it takes the next bytes, in one row for each piece,
-- and ends if its forecast is spent, nothing is left, or rule 6 does not allow the next byte.
abbrev pub slot_takes : Job → ℕ → ℕ → List Row → List Piece → Fetched
slot_takes j t c rows [] = record { rows = rows; left = [] }
slot_takes j t c rows (p ∷ ps) =
    cond
    (allowed j rows t p && ltb 0 c)
    (cond
    (leb p.bytes c)
    (slot_takes j t (c - p.bytes) (rows ++ (row_of t p p.bytes ∷ [])) ps)
    (record { rows = rows ++ (row_of t p c ∷ []); left = without p c ∷ ps }))
    (record { rows = rows; left = p ∷ ps })

-- The slots 1 to t, one after the other.
abbrev pub fetched_by : Job → (ℕ → ℕ) → ℕ → Fetched
fetched_by j choice zero = record { rows = []; left = carried_to j choice (chunks j) }
fetched_by j choice (suc t) =
    let f = fetched_by j choice t in slot_takes j (suc t) (forecast j (suc t)) f.rows f.left

-- The own list of a choice.
unfoldable pub own_list : Job → (ℕ → ℕ) → List Row
own_list j choice = (fetched_by j choice (last_slot j)).rows

-- ---- "one row per slot, chunk and layer"; the planner hands the rows "by slot, chunk, layer"

-- Row x stands before row y by slot, chunk, layer.
abbrev pub RowBefore : Row → Row → Type 0
RowBefore x y =
    (x.slot < y.slot) ⊎ ((x.slot ≡ y.slot) × ((x.chunk < y.chunk) ⊎ ((x.chunk ≡ y.chunk) × (x.layer < y.layer))))

-- Each row stands before all rows after it, so no two are of the same slot, chunk and layer.
abbrev pub Ascending : List Row → Type 0
Ascending [] = Unit {0}
Ascending (x ∷ xs) = All (RowBefore x) xs × Ascending xs

-- Lemmas. What the checker's private functions say: rule 2 of the second call by tables.
use Rattle.std.specs.Prelude.{ℕ, ◌+◌, ◌*◌, ◌-◌, ◌≤◌, ◌<◌, ◌≡◌, Bool, false, not, ◌&&◌, ◌||◌, List, length, get_or, ltb, eqb}
use Rattle.theory_basics.specs.Tests.{all_below}
use Rattle.core_sizes.specs.Table.{table_at}
use Rattle.fetch.specs.Rows.{Row, row_at}
use Rattle.fetch.specs.Slices.{RowSlices}
use Rattle.fetch.specs.VerdictFrom.{layer_before}
use Rattle.checker.specs.declared.sums.Sums.{Sums}

-- ---- rule 2 of the second call

-- A sum s of a layer of z bytes is 0, z, or less where its rows are all before.
abbrev pub allowed_sum : ℕ → ℕ → Bool → Bool
allowed_sum s z before = eqb s 0 || (eqb s z || (ltb s z && before))

-- So of layer n of chunk i, by the table of sums and a test of its rows.
abbrev pub allowed_by : (ℕ → ℕ → ℕ) → List ℕ → (ℕ → ℕ → Bool) → ℕ → ℕ → Bool
allowed_by size layersum before i n = allowed_sum (get_or layersum (4 * (i - 1) + n) 0) (size i n) (before i n)

-- So of every layer of chunk i.
abbrev pub allowed_layers : Sums → (ℕ → ℕ → Bool) → ℕ → Bool
allowed_layers s before i = all_below s.depth (allowed_by (table_at s.table.now) s.layers.now before i)

-- A table has no flag for a layer whose rows are all before.
abbrev pub early : List Bool → ℕ → ℕ → Bool
early late i n = not (get_or late (4 * (i - 1) + n) false)

pub record MarkLatePost (from : ℕ) (rows : List Row) (late : List Bool) : Type 0 where
  pub is : (i n : ℕ) → 1 ≤ i → i ≤ 500 → n < 4 → early late i n ≡ layer_before from rows i n

-- The row has a place in the tables of chunks and layers.
pub record Placed (x : Row) : Type 0 where
  pub chunk_low : 1 ≤ x.chunk
  pub chunk_high : x.chunk ≤ 500
  pub layer_in : x.layer < 4

-- So have all rows, and each has a chunk and a layer.
pub record InTables (r : RowSlices) : Type 0 where
  pub placed : (k : ℕ) → k < length r.slots → Placed (row_at r.slots r.chunks r.layers r.bytes k)
  pub chunk_each : length r.slots ≡ length r.chunks
  pub layer_each : length r.slots ≡ length r.layers

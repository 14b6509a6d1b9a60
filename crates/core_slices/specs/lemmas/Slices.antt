-- Lemmas. What a call that plans hands over: marks, counts and rows, and the slices at whose start
-- they stand, the rows by column.
use Rattle.std.specs.Prelude.{ℕ, ◌≡◌, Bool, ◌&&◌, List, map, leb, length}
use Rattle.theory_basics.specs.Lent.{over}
use Rattle.fetch.specs.Rows.{Row, row_bytes, row_chunk, row_layer, row_slot}

pub record Result : Type 0 where
  pub marks : List ℕ
  pub counts : List ℕ
  pub rows : List Row

-- n rows and these counts, and the five slices before and after.
pub record Stands (x : Result) (n : ℕ) (counts marks slots cs ls bytes marks' slots' cs' ls' bytes' : List ℕ) : Type 0 where
  pub rows_are : n ≡ length x.rows
  pub counts_are : counts ≡ x.counts
  pub marks_are : marks' ≡ over x.marks marks
  pub slots_are : slots' ≡ over (map row_slot x.rows) slots
  pub chunks_are : cs' ≡ over (map row_chunk x.rows) cs
  pub layers_are : ls' ≡ over (map row_layer x.rows) ls
  pub bytes_are : bytes' ≡ over (map row_bytes x.rows) bytes

-- The four columns have room for n rows.
abbrev pub rows_hold : ℕ → (slots cs ls bytes : List ℕ) → Bool
rows_hold n slots cs ls bytes = leb n (length slots) && (leb n (length cs) && (leb n (length ls) && leb n (length bytes)))

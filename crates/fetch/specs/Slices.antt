-- Meaning. A fetch list in slices, as calls are handed it, lent room for it, or hand it over: the
-- marks, one byte a chunk, and the rows field by field.
use Rattle.std.specs.Prelude.{ℕ, Bool, ◌&&◌, List, length, leb}
use Rattle.fetch.specs.Input.{list_refusal}
use Rattle.fetch.specs.Rows.{Row, rows_of}

-- ---- rows alone

pub record RowSlices : Type 0 where
  pub slots : List ℕ
  pub chunks : List ℕ
  pub layers : List ℕ
  pub bytes : List ℕ

abbrev pub row_slices : (slots chunks layers bytes : List ℕ) → RowSlices
row_slices slots chunks layers bytes = record { slots = slots; chunks = chunks; layers = layers; bytes = bytes }

-- The rows that they are.
abbrev pub rows_in : RowSlices → List Row
rows_in s = rows_of s.slots s.chunks s.layers s.bytes

-- ---- marks and rows

pub record ListSlices : Type 0 where
  pub marks : List ℕ
  pub slots : List ℕ
  pub chunks : List ℕ
  pub layers : List ℕ
  pub bytes : List ℕ

abbrev pub slices_of : (marks slots chunks layers bytes : List ℕ) → ListSlices
slices_of marks slots chunks layers bytes = record { marks = marks; slots = slots; chunks = chunks; layers = layers; bytes = bytes }

-- The rows among them.
abbrev pub list_rows : ListSlices → List Row
list_rows s = rows_of s.slots s.chunks s.layers s.bytes

-- Refusal 8 of a list for so many chunks.
abbrev pub slices_refusal : ℕ → ListSlices → ℕ
slices_refusal count s = list_refusal count s.marks s.slots s.chunks s.layers s.bytes

-- The slices hold so many marks and so many rows.
abbrev pub room : ListSlices → ℕ → ℕ → Bool
room lent marks rows =
    leb marks (length lent.marks)
    && (leb rows (length lent.slots) && (leb rows (length lent.chunks) && (leb rows (length lent.layers) && leb rows (length lent.bytes))))

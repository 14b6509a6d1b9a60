-- Lemmas. What the functions of this crate hand each other: tables that say which layers of which
-- chunks are carried, the rows, marks and counts that they tell, in slices, and whether these hold
-- them whole. The plan's tables and those of a plan made afresh alike.
use Rattle.std.specs.Prelude.{ℕ, ◌+◌, ◌≤◌, ◌≡◌, Bool, cond, List, map, length, get_or, drop}
use Rattle.theory_basics.specs.Lent.{over}
use Rattle.theory_basics.specs.Lists.{up_to}
use Rattle.fetch.specs.Counts.{mark_count}
use Rattle.fetch.specs.Rows.{Row, row_slot, row_chunk, row_layer, row_bytes}
use Rattle.job.specs.Job.{Job, Accepted, chunks, size}
use Rattle.theory_plan.specs.Own.{own_list}
use Rattle.theory_plan.specs.Statement.{Choice, counts_of, marks_of}
use Rattle.theory_plan.specs.lemmas.Choice.{Fits}
use Rattle.core_decide.specs.lemmas.Decision.{Decides}
use Rattle.core_decide.specs.lemmas.Marks.{mark_or}
use Rattle.core_fill.specs.declared.Position.{Position}
use Rattle.core_fill.specs.lemmas.Filling.{onward}
use Rattle.core_fill.specs.lemmas.Left.{PutAllPre, queue_in}
use Rattle.core_slices.specs.lemmas.Slices.{Result, rows_hold, Stands}
use Rattle.core_output.specs.declared.Filled.{Filled}
use Rattle.core_output.specs.declared.Output.{Output}
use Rattle.theory_plan.specs.Bases.{Asc}

-- ---- what tables tell

-- A mark for each chunk: the one that stands with it from place first on, or what is whole of it.
abbrev pub marks_in : (count first : ℕ) (ids mark whole : List ℕ) → List ℕ
marks_in count first ids mark whole = up_to (λ i. mark_or (get_or whole i 0) (i + 1) (drop first ids) (drop first mark)) count

-- The rows from slot start on: the pieces of the chunks, one after the other.
abbrev pub rows_in : ℕ → List ℕ → Bool → (ℕ → ℕ → ℕ) → ℕ → (ids ready mark : List ℕ) → List Row
rows_in start part afresh own first ids ready mark = onward start part start (get_or part 0 0) (queue_in afresh own (drop first ids) (drop first ready) (drop first mark))

abbrev pub told : (count start : ℕ) → List ℕ → Bool → (ℕ → ℕ → ℕ) → ℕ → (ids ready mark whole : List ℕ) → Result
told count start part afresh own first ids ready mark whole =
    record { marks = marks_in count first ids mark whole; counts = up_to (λ n. mark_count n (marks_in count first ids mark whole)) 4; rows = rows_in start part afresh own first ids ready mark }

-- Where the fill begins.
abbrev pub begins : ℕ → List ℕ → Position
begins start part = record { slot = start; left = get_or part 0 0; rows = 0 }

-- What is asked of them: rows that fill any slices of 5,599, and room for the marks.
pub record WritePre (count start : ℕ) (part : List ℕ) (afresh : Bool) (own : ℕ → ℕ → ℕ) (first : ℕ) (ids ready mark whole marks : List ℕ) : Type 0 where
  pub some_slot : 1 ≤ length part
  pub fills :
      (ss cs ls bs : List ℕ) → 5599 ≤ length ss → 5599 ≤ length cs → 5599 ≤ length ls → 5599 ≤ length bs →
      PutAllPre afresh start part own ids ready mark first (begins start part) ss cs ls bs
  pub few_rows : length (rows_in start part afresh own first ids ready mark) ≤ 5599
  pub within : first ≤ 500
  pub few : count ≤ 500
  pub ascending : Asc 1 count (drop first ids)
  pub long : (length ids ≡ 500) × (length mark ≡ 500) × (length whole ≡ 500)
  pub marks_fit : count ≤ length marks

pub record FillPre (count start : ℕ) (part : List ℕ) (afresh : Bool) (own : ℕ → ℕ → ℕ) (first : ℕ) (ids ready mark whole marks slots cs layers bytes : List ℕ) : Type 0 where
  pub from : WritePre count start part afresh own first ids ready mark whole marks
  pub slots_fit : 5599 ≤ length slots
  pub chunks_fit : 5599 ≤ length cs
  pub layers_fit : 5599 ≤ length layers
  pub bytes_fit : 5599 ≤ length bytes

-- A result stands in the slices.
abbrev pub FillPost : Result → (marks slots cs layers bytes : List ℕ) → Filled → (marks' slots' cs' layers' bytes' : List ℕ) → Type 0
FillPost x marks slots cs layers bytes r marks' slots' cs' layers' bytes' =
    Stands x r.rows r.counts marks slots cs layers bytes marks' slots' cs' layers' bytes'

-- The result where there is room for it whole, else what stood there.
abbrev pub over_if : Bool → List ℕ → List ℕ → List ℕ
over_if whole result old = cond whole (over result old) old

pub record WritePost (x : Result) (marks slots cs layers bytes : List ℕ) (r : Output) (marks' slots' cs' layers' bytes' : List ℕ) : Type 0 where
  pub whole : r.whole ≡ rows_hold (length x.rows) slots cs layers bytes
  pub rows : r.rows ≡ length x.rows
  pub counts : r.counts ≡ x.counts
  pub marks_are : marks' ≡ over_if r.whole x.marks marks
  pub slots_are : slots' ≡ over_if r.whole (map row_slot x.rows) slots
  pub chunks_are : cs' ≡ over_if r.whole (map row_chunk x.rows) cs
  pub layers_are : layers' ≡ over_if r.whole (map row_layer x.rows) layers
  pub bytes_are : bytes' ≡ over_if r.whole (map row_bytes x.rows) bytes

-- ---- of a choice

-- The numbers handed are a job's, and the tables say a choice for it that fits.
pub record Decided (count : ℕ) (forecast : List ℕ) (own : ℕ → ℕ → ℕ) (first : ℕ) (ids ready mark : List ℕ) (j : Job) (x : ℕ → ℕ) : Type 0 where
  pub accepted : Accepted j
  pub counted : count ≡ chunks j
  pub forecast_is : forecast ≡ j.forecast
  pub sizes_are : own ≡ size j
  pub choice : Choice j x
  pub fits : Fits j x
  pub tables : Decides j x first ids ready mark

-- What is handed over of it: its marks, its counts and its own list.
abbrev pub own_result : Job → (ℕ → ℕ) → Result
own_result j x = record { marks = marks_of j x; counts = counts_of j x; rows = own_list j x }

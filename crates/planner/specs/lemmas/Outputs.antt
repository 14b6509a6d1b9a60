-- Lemmas. What a call that plans hands over, by its refusal.
use Rattle.std.specs.Prelude.{ℕ, ◌≡◌, cond, List, map, length, Result as Answer, Ok, Err}
use Rattle.theory_basics.specs.Lent.{lent_after}
use Rattle.theory_basics.specs.Refusals.{unless}
use Rattle.fetch.specs.Rows.{Row, row_slot, row_chunk, row_layer, row_bytes}
use Rattle.core_slices.specs.lemmas.Slices.{Result, rows_hold}
use Rattle.refusals.specs.declared.Refusal.{Refusal}
use Rattle.refusals.specs.Numbers.{answered, by_number}
use Rattle.core_output.specs.declared.Output.{Output}
use Rattle.planner.specs.declared.Planned.{Planned}

-- What a call that plans hands over by its refusal, 0 for none, and what it leaves in the lent
-- slices.
pub record Outputs (refused : ℕ) (x : Result) (marks slots cs layers bytes : List ℕ) (r : Answer Planned Refusal) (marks' slots' cs' layers' bytes' : List ℕ) : Type 0 where
  pub answer : by_number r ≡ answered refused (record { rows = length x.rows; counts = x.counts })
  pub marks_are : marks' ≡ lent_after refused x.marks marks
  pub slots_are : slots' ≡ lent_after refused (map row_slot x.rows) slots
  pub chunks_are : cs' ≡ lent_after refused (map row_chunk x.rows) cs
  pub layers_are : layers' ≡ lent_after refused (map row_layer x.rows) layers
  pub bytes_are : bytes' ≡ lent_after refused (map row_bytes x.rows) bytes

-- 11, by the rows alone.
abbrev pub short_refusal : List Row → (slots cs layers bytes : List ℕ) → ℕ
short_refusal rows slots cs layers bytes = unless 11 (rows_hold (length rows) slots cs layers bytes)

-- What is laid, or 11.
abbrev pub laid : Output → Answer Planned ℕ
laid made = cond made.whole (Ok (record { rows = made.rows; counts = made.counts })) (Err 11)

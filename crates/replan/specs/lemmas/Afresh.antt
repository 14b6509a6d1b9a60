-- Lemmas. What the fetched rows leave, in tables, and what is made afresh over them.
use Rattle.std.specs.Prelude.{ℕ, List}
use Rattle.job.specs.Input.{JobInput}
use Rattle.job.specs.Job.{Job}
use Rattle.core_sizes.specs.Table.{table_at}
use Rattle.fetch.specs.Rows.{Row}
use Rattle.theory_plan.specs.Statement.{counts_of, marks_of}
use Rattle.core_slices.specs.lemmas.Slices.{Result}
use Rattle.theory_replan.specs.Own.{own_rest}
use Rattle.core_replan_decide.specs.lemmas.Decision.{Tabled}
use Rattle.core_replan_decide.specs.lemmas.Tables.{Small}
use Rattle.replan.specs.Answer.{ReplanInput, fetched, job_on}

-- What the fetched rows leave of each layer, which chunks they begin, and the marks of the layers
-- whole in them.
pub record Gathered (h : JobInput) (o : ReplanInput) (left begun whole : List ℕ) : Type 0 where
  pub tabled : Tabled (job_on h o) (fetched o) (table_at left) begun whole
  pub small : Small (table_at left)

-- What is made: the marks and counts of the plan, and its rows from start on.
abbrev pub made_afresh : Job → ℕ → List Row → (ℕ → ℕ) → Result
made_afresh j start fetched plan = record { marks = marks_of j plan; counts = counts_of j plan; rows = own_rest j start fetched plan }

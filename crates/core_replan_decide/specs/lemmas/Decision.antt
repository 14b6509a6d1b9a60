-- Lemmas. The decision made afresh at slot start, over tables by chunk: what the fetched rows leave
-- of each layer, which chunks they begin, and the marks of the layers whole in them. For every job
-- with these tables: the plan of theory_replan, Statement.
use Rattle.std.specs.Prelude.{ℕ, suc, ◌-◌, ◌≤◌, ◌≡◌, List, ◌++◌, map, eqb, length, take, drop}
use Rattle.job.specs.Job.{Accepted, chunks, due, held_most, Job, job_of, Layer, Override, size}
use Rattle.job.specs.declared.Programme.{Programme}
use Rattle.fetch.specs.Rows.{bytes_of_layer, Row}
use Rattle.theory_plan.specs.lemmas.Parts.{ForecastPart}
use Rattle.theory_plan.specs.lemmas.Level.{level}
use Rattle.theory_plan.specs.lemmas.Queue.{releases}
use Rattle.theory_plan.specs.lemmas.Trials.{level_mark}
use Rattle.theory_plan.specs.lemmas.Words.{carries}
use Rattle.theory_replan.specs.Statement.{Acceptable, IsReplan}
use Rattle.theory_replan.specs.lemmas.Criterion.{busy_from}
use Rattle.core_replan_decide.specs.lemmas.Tables.{Fine, of, Small}
use Rattle.theory_plan.specs.Bases.{Asc}

-- The tables are those of the fetched rows.
pub record Tabled (j : Job) (fetched : List Row) (left : ℕ → ℕ → ℕ) (begun whole : List ℕ) : Type 0 where
  pub left_is : (i n : ℕ) → Layer j i n → left i n ≡ size j i n - bytes_of_layer fetched i n
  pub begun_is : (i : ℕ) → 1 ≤ i → i ≤ chunks j → eqb (of begun i) 1 ≡ carries fetched i
  pub whole_is : (i : ℕ) → 1 ≤ i → i ≤ chunks j → of whole i ≡ level_mark (level j fetched i)

-- A job of which the part of the forecast from a slot on is handed; earlier are the slots before.
abbrev pub job_from : Programme → List ℕ → List Override → List ℕ → List ℕ → Job
job_from p sizes overrides earlier part = job_of p sizes overrides (earlier ++ part)

pub record DecidePre (p : Programme) (layers start : ℕ) (part : List ℕ) (left : ℕ → ℕ → ℕ) (begun whole ids ready mark : List ℕ) : Type 0 where
  pub fine : Fine p
  pub some : 1 ≤ layers
  pub few_layers : layers ≤ 4
  pub small : Small left
  pub part_in : ForecastPart start part
  pub long : (length begun ≡ 500) × (length whole ≡ 500) × (length ids ≡ 500) × (length ready ≡ 500) × (length mark ≡ 500)

-- The chunks begun or kept that are due from start on, their releases, and the marks of the plan.
pub record Decided (j : Job) (start : ℕ) (fetched : List Row) (plan : ℕ → ℕ) (first : ℕ) (ids ready mark : List ℕ) : Type 0 where
  pub chunks_are : drop first ids ≡ busy_from j start fetched plan
  pub releases_are : drop first ready ≡ take (500 - first) (releases (due j) (held_most j) (busy_from j start fetched plan))
  pub marks : drop first mark ≡ map (λ k. level_mark (plan k)) (busy_from j start fetched plan)

-- So for each job with these tables and each plan made afresh of it.
pub record DecidePost (p : Programme) (layers start : ℕ) (part : List ℕ) (left : ℕ → ℕ → ℕ) (begun whole : List ℕ) (first : ℕ) (ids ready mark : List ℕ) : Type 0 where
  pub within : first ≤ 500
  pub ascending : Asc 1 p.chunks (drop first ids)
  pub decided :
      (sizes : List ℕ) (overrides : List Override) (earlier : List ℕ) (fetched : List Row) (plan : ℕ → ℕ) →
      let j = job_from p sizes overrides earlier part in
      layers ≡ length sizes → start ≡ suc (length earlier) → Accepted j → Acceptable j start fetched → Tabled j fetched left begun whole →
      IsReplan j start fetched plan → Decided j start fetched plan first ids ready mark
  pub long : (length ids ≡ 500) × (length ready ≡ 500) × (length mark ≡ 500)

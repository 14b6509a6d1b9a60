-- Meaning. How long must the film wait: document 02, request 5. "From a job without s and a
-- forecast of up to 3,600 slots, find the smallest s for which the plan skips no base layer." What
-- a plan is stands in theory_plan, Statement.
use Rattle.std.specs.Prelude.{ℕ, ◌≤◌, ◌<◌, List, length, take}
use Rattle.theory_basics.specs.Tests.{All}
use Rattle.job.specs.declared.Programme.{Programme}
use Rattle.job.specs.Job.{Job, Named, Override, Rising, Within, chunks, job_of, last_due}
use Rattle.fetch.specs.Rows.{Row, Carried}
use Rattle.fetch.specs.Rules.{Passes, PlayingOrder}
use Rattle.theory_plan.specs.Statement.{IsPlan}
pub use Rattle.theory_plan.specs.Statement.{NoSkip}

-- A job without s, and a forecast of any length.
pub record Film : Type 0 where
  pub chunks : ℕ
  pub span : ℕ
  pub limit : ℕ
  pub sizes : List ℕ
  pub overrides : List Override
  pub forecast : List ℕ

abbrev pub film_of : (chunks span limit : ℕ) → List ℕ → List Override → List ℕ → Film
film_of chunks span limit sizes overrides forecast =
    record { chunks = chunks; span = span; limit = limit; sizes = sizes; overrides = overrides; forecast = forecast }

-- ---- one s

abbrev pub programme_at : Film → ℕ → Programme
programme_at w s = record { chunks = w.chunks; span = w.span; delay = s; limit = w.limit }

-- "The job for a tried s uses the first d(C) slots",
abbrev pub job_at : Film → ℕ → Job
job_at w s = job_of (programme_at w s) w.sizes w.overrides (take (last_due (programme_at w s)) w.forecast)

-- "and s is tried only while the forecast reaches d(C)". A start delay is at least 1.
pub record Tried (w : Film) (s : ℕ) : Type 0 where
  pub low : 1 ≤ s
  pub reaches : last_due (programme_at w s) ≤ length w.forecast

-- s works: it is tried, and the plan of its job skips no base layer.
pub record Works (w : Film) (s : ℕ) : Type 0 where
  pub tried : Tried w s
  pub plan : ℕ → ℕ
  pub is_plan : IsPlan (job_at w s) plan
  pub no_skip : NoSkip (job_at w s) plan

-- ---- the answer

-- "The smallest s": "no smaller s works, whatever larger ones do."
pub record ShortestWait (w : Film) (s : ℕ) : Type 0 where
  pub works : Works w s
  pub least : (r : ℕ) → r < s → Works w r → ⊥

-- No s within the forecast works, or the forecast is too short for s = 1.
abbrev pub NoneWorks : Film → Type 0
NoneWorks w = (s : ℕ) → Works w s → ⊥

-- ---- what is asked of the input

-- C, L and the limit as of a job, s and d(C) left out; layers, sizes and SZs as of a job, whatever
-- s is; 1 to 3,600 slots, each of 0 to 16,777,216 bytes.
pub record FilmInRange (w : Film) : Type 0 where
  pub chunks_in : Within 1 500 w.chunks
  pub span_in : Within 1 60 w.span
  pub limit_in : Within 0 65535 w.limit
  pub layers_in : Within 1 4 (length w.sizes)
  pub sizes_in : All (Within 1 16777216) w.sizes
  pub overrides_named : All (Named (programme_at w 1) w.sizes) w.overrides
  pub overrides_rise : Rising w.overrides
  pub overrides_in : All (λ (o : Override). Within 1 16777216 o.bytes) w.overrides
  pub slots_in : Within 1 3600 (length w.forecast)
  pub forecast_in : All (Within 0 16777216) w.forecast

-- ---- the same said of lists, for the theorems

-- The list carries every base.
abbrev pub EveryBase : Job → List Row → Type 0
EveryBase j rows = (i : ℕ) → 1 ≤ i → i ≤ chunks j → Carried j rows i 0

-- Some passing list, in whatever order it fetches, carries every base.
pub record SomeList (j : Job) : Type 0 where
  pub rows : List Row
  pub passes : Passes j rows
  pub every : EveryBase j rows

-- Some passing list in playing order does.
pub record SomeOrdered (j : Job) : Type 0 where
  pub rows : List Row
  pub passes : Passes j rows
  pub in_order : PlayingOrder j rows
  pub every : EveryBase j rows

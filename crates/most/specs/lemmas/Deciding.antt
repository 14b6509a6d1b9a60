-- Lemmas. What the functions of most hand each other: a set of bases with a bound in tables, and
-- the plan over the set.
use Rattle.std.specs.Prelude.{ℕ, ◌+◌, ◌*◌, ◌≤◌, ◌≡◌, true, List, length, drop, Ok}
use Rattle.job.specs.declared.Programme.{Programme}
use Rattle.job.specs.Job.{Accepted, Job, chunks, layers, size}
use Rattle.job.specs.Input.{JobInput, job_in, job_refusal}
use Rattle.fetch.specs.Slices.{ListSlices}
use Rattle.theory_plan.specs.Plan.{kept, plan}
use Rattle.core_decide.specs.lemmas.Decision.{DecidePre, Decides}
use Rattle.theory_search.specs.Search.{plan_over}
use Rattle.theory_most.specs.Statement.{Most, NoneAboveInOrder, Set, bound, bound_any}
use Rattle.theory_most.specs.lemmas.InTables.{EachJob, Says, SomeJob}
use Rattle.core_covering.specs.lemmas.Tables.{ForwardFor}
use Rattle.core_passes.specs.declared.Sought.{Sought}
use Rattle.most.specs.declared.Decision.{Decision}
use Rattle.most.specs.declared.MostPlan.{MostPlan}
use Rattle.most.specs.Promise.{MostOutput, lent_room}

-- ---- a set of bases and a bound, in tables

-- The set stands at the end of ids, is no smaller than the plan's, and no list in playing order has
-- more bases than the bound.
pub record FoundIn (j : Job) (r : Sought) (ids : List ℕ) : Type 0 where
  pub set_in : Set j (chunks j) (drop r.first ids)
  pub no_fewer : length (kept j (plan j)) ≤ length (drop r.first ids)
  pub none_above : NoneAboveInOrder j r.bound
  pub no_higher : r.bound ≤ bound j

pub record FindForwardPost (count held : ℕ) (ends opens bases : List ℕ) (r : Sought) (ids' : List ℕ) : Type 0 where
  pub each : (j : Job) → ForwardFor j count held ends opens bases → FoundIn j r ids'
  pub within : r.first ≤ 500

-- Room in the work slice for C + 1 rows of needs.
abbrev pub DecideRoom : Programme → List ℕ → Type 0
DecideRoom p work = (p.chunks + 1) * 501 ≤ length work

pub record FindPre (p : Programme) (sizes : ℕ → ℕ → ℕ) (left work : List ℕ) : Type 0 where
  pub job : SomeJob p (λ j. Says j sizes left)
  pub room : DecideRoom p work

pub record FindPost (p : Programme) (sizes : ℕ → ℕ → ℕ) (left work : List ℕ) (r : Sought) (work' ids' : List ℕ) : Type 0 where
  pub each : EachJob p (λ j. Says j sizes left → FoundIn j r ids')
  pub within : r.first ≤ 500
  pub work_long : length work' ≡ length work

-- ---- the plan over the set

-- An accepted job, whose sizes a table says, tables for what is decided of it, and a work slice.
pub record DecideMostPre (j : Job) (own : ℕ → ℕ → ℕ) (work ids ready mark : List ℕ) : Type 0 where
  pub accepted : Accepted j
  pub sizes_are : own ≡ size j
  pub from : DecidePre j.programme (layers j) own 1 j.forecast ids ready mark
  pub room : DecideRoom j.programme work

-- The set stands at the end of ids.
pub record DecidesMost (j : Job) (r : Decision) (ids ready mark : List ℕ) : Type 0 where
  pub most : Most j (drop r.first ids) r.bound
  pub any_is : r.bound_any ≡ bound_any j
  pub tables : Decides j (plan_over j (drop r.first ids)) r.first ids ready mark

pub record DecidePost (j : Job) (work : List ℕ) (r : Decision) (work' ids ready mark : List ℕ) : Type 0 where
  pub decides : DecidesMost j r ids ready mark
  pub work_long : length work' ≡ length work

-- ---- the answer

pub record WriteMostPre (h : JobInput) (work : List ℕ) (lent : ListSlices) : Type 0 where
  pub accepted : job_refusal h ≡ 0
  pub room : lent_room (job_in h) lent work ≡ true

-- Some set and bound that hold, and the output for them.
pub record WriteMostPost (h : JobInput) (lent : ListSlices) (work : List ℕ) (r : MostPlan) (lent' : ListSlices) (work' : List ℕ) : Type 0 where
  pub set : List ℕ
  pub bound : ℕ
  pub most : Most (job_in h) set bound
  pub output : MostOutput h set bound lent work (Ok r) lent' work'

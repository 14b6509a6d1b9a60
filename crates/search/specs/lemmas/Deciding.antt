-- Lemmas. What the functions of search hand each other: the shortfall of a set, and the set found
-- with its releases and marks, in tables.
use Rattle.std.specs.Prelude.{ℕ, ◌≤◌, ◌≡◌, List}
use Rattle.job.specs.declared.Programme.{Programme}
use Rattle.job.specs.Job.{Accepted, Job, layers, size}
use Rattle.core_moore_hodgson.specs.lemmas.Tables.{Fit}
use Rattle.core_decide.specs.lemmas.Decision.{DecidePre, Decides}
use Rattle.theory_search.specs.Search.{found}
use Rattle.search.specs.declared.Decision.{Decision}
use Rattle.search.specs.Answer.{plan_found}

-- The set begins at place first.
pub record ShortfallPre (p : Programme) (size : ℕ → ℕ → ℕ) (after : List ℕ) (first : ℕ) : Type 0 where
  pub fit : Fit p size after
  pub within : first ≤ 500

-- An accepted job, whose sizes a table says, and tables for what is decided of it.
pub record DecideFoundPre (j : Job) (own : ℕ → ℕ → ℕ) (ids ready mark : List ℕ) : Type 0 where
  pub accepted : Accepted j
  pub sizes_are : own ≡ size j
  pub from : DecidePre j.programme (layers j) own 1 j.forecast ids ready mark

-- What is found of a job, and the plan over it in the tables.
pub record DecidesFound (j : Job) (budget : ℕ) (r : Decision) (ids ready mark : List ℕ) : Type 0 where
  pub steps : r.steps ≡ (found j budget).steps
  pub ended : r.ended ≡ (found j budget).ended
  pub shortfall : r.shortfall ≡ (found j budget).shortfall
  pub tables : Decides j (plan_found j budget) r.first ids ready mark

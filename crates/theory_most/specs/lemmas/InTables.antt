-- Lemmas. A job in tables, as the functions of the core crates are handed it. A function that is
-- handed tables asks for some job that they are of, and answers for each job that they are of.
use Rattle.std.specs.Prelude.{ℕ, ◌+◌, ◌*◌, ◌≤◌, ◌≡◌, List, length, get_or}
use Rattle.job.specs.declared.Programme.{Programme}
use Rattle.job.specs.Job.{Accepted, Job, Override, chunks, job_of, size}
use Rattle.theory_plan.specs.Plan.{after}
use Rattle.theory_plan.specs.lemmas.Parts.{at}
use Rattle.theory_most.specs.Statement.{least}

-- The tables say an accepted job: its sizes, and what is forecast after each slot.
pub record Says (j : Job) (sizes : ℕ → ℕ → ℕ) (left : List ℕ) : Type 0 where
  pub accepted : Accepted j
  pub sizes_are : sizes ≡ size j
  pub left_is : at left ≡ after j
  pub long : length left ≡ 3601

-- Of every job with this programme.
abbrev pub EachJob : Programme → (Job → Type 0) → Type 0
EachJob p P = (sizes : List ℕ) (overrides : List Override) (forecast : List ℕ) → P (job_of p sizes overrides forecast)

-- Some job with this programme.
pub record SomeJob (p : Programme) (P : Job → Type 0) : Type 0 where
  pub sizes : List ℕ
  pub overrides : List Override
  pub forecast : List ℕ
  pub holds : P (job_of p sizes overrides forecast)

-- The rows behind chunk i and behind every later chunk stand in a work slice, 501 numbers to a row.
abbrev pub RowsFrom : Job → ℕ → List ℕ → Type 0
RowsFrom j i work = (k c : ℕ) → i ≤ k → k ≤ chunks j → c ≤ chunks j → get_or work (k * 501 + c) 0 ≡ least j k c

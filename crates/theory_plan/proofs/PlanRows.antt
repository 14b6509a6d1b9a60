-- Theorem. How many rows the plan's own list has. It stands by itself, so that the edit of the bound
-- in Theorems is refused there.
use Rattle.std.specs.Prelude.{◌≤◌, length}
use Rattle.job.specs.Job.{Accepted, Job}
use Rattle.theory_plan.specs.Own.{own_list}
use Rattle.theory_plan.specs.Plan.{plan}
use Rattle.theory_plan.proofs.Theorems.{own_list_rows, plan_exists}

pub plan_rows_few : (j : Job) → Accepted j → length (own_list j (plan j)) ≤ 5599
plan_rows_few j a = own_list_rows j a (plan j) (plan_exists j a).choice

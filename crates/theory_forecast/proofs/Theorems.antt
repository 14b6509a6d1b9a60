-- Theorems. What Statement states, of every list that keeps the rules and so of the plan.
use Rattle.std.specs.Prelude.{ℕ, ◌≤◌, ◌≡◌, List}
use Rattle.std.proofs.Common.{arith}
use Rattle.job.specs.Job.{Job, Accepted, last_slot}
use Rattle.fetch.specs.Rows.{Row, bytes_in_slot}
use Rattle.fetch.specs.Rules.{Keeps}
use Rattle.theory_plan.specs.Own.{own_list}
use Rattle.theory_plan.specs.Plan.{plan}
use Rattle.theory_plan.specs.Statement.{IsPlan, marks_of}
use Rattle.theory_plan.proofs.Theorems.{plan_carried, plan_exists}
use Rattle.theory_plan.specs.lemmas.Words.{accepted_sized}
use Rattle.planner.specs.Answer.{plan_rows}
use Rattle.meter.specs.declared.Meter.{Meter}
use Rattle.std.specs.Prelude.{Ok}
use Rattle.meter.specs.Meter.{samples_of}
use Rattle.meter.specs.Forecast.{answer_of, bytes_of}
use Rattle.meter.proofs.Means.{not_above_less}
use Rattle.meter.proofs.Promises.{answer_says}
use Rattle.theory_forecast.specs.Statement.{EverySlot, NoSlotAbove}

-- A meter that answers the forecast f, samples of 0 included, and a job whose every slot has it.
module _ (m : Meter) (f : ℕ) (answers : answer_of m ≡ Ok f) (j : Job) (every : EverySlot j f) where
  -- Whatever list keeps the rules, no slot's rows sum to more than the exact mean.
  pub list_not_above : (marks : List ℕ) (rows : List Row) → Keeps j marks rows → NoSlotAbove j (bytes_of (samples_of m)) rows
  list_not_above marks rows keeps =
      let bytes = bytes_of (samples_of m) in
      let says = answer_says m f answers in
      let most : (t : ℕ) → 1 ≤ t → t ≤ last_slot j → bytes_in_slot rows t ≤ f = λ t g h. omega (arith, keeps.within t g h, every t g h) in
      λ t g h. not_above_less bytes (bytes_in_slot rows t) f (most t g h) says.never_more

  -- So of the own list of every plan of an accepted job,
  pub plan_not_above : Accepted j → (p : ℕ → ℕ) → IsPlan j p → NoSlotAbove j (bytes_of (samples_of m)) (own_list j p)
  plan_not_above ok p d = list_not_above (marks_of j p) (own_list j p) (plan_carried j (accepted_sized j ok) p d).0

  -- and of the rows that the planner hands over.
  pub fetched_not_above : Accepted j → NoSlotAbove j (bytes_of (samples_of m)) (plan_rows j)
  fetched_not_above ok = plan_not_above ok (plan j) (plan_exists j ok)

-- Meaning, then its theorems. What the report call answers, and the lent buffer afterwards:
-- document 01, "Direct calls without files check 5, 6, 7", with document 02's 18 before 7, then 11:
-- "A lent buffer is shorter than the whole result, after all input refusals. In a longer one the
-- bytes past the result stay unchanged."
use Rattle.std.specs.Prelude.{ℕ, ◌≤◌, ◌≡◌, List, length, leb, Result}
use Rattle.std.proofs.Common.{ap}
use Rattle.theory_basics.specs.Lent.{lent_after}
use Rattle.theory_basics.specs.Refusals.{unless, ◌or_else◌}
use Rattle.refusals.specs.declared.Refusal.{Refusal}
use Rattle.refusals.specs.Numbers.{answered, by_number}
use Rattle.job.specs.Job.{Job, Accepted}
use Rattle.job.specs.Input.{JobInput, job_in, job_refusal}
use Rattle.theory_plan.specs.Own.{own_list}
use Rattle.theory_plan.specs.Plan.{plan}
use Rattle.theory_plan.specs.Statement.{IsPlan}
use Rattle.theory_plan.proofs.Theorems.{plan_carried, plan_exists, plan_rows_unique}
use Rattle.theory_plan.specs.lemmas.Words.{accepted_sized}
use Rattle.report.specs.Report.{report_of}
use Rattle.report.specs.Theorems.{report_fits}

-- The report of a job is that of its plan's own list.
unfoldable pub plan_report : Job → List ℕ
plan_report j = report_of j (own_list j (plan j))

-- 11 exactly if the buffer is shorter than the text.
abbrev pub room_refusal : List ℕ → List ℕ → ℕ
room_refusal t out = unless 11 (leb (length t) (length out))

-- The answer and the buffer afterwards for a text at hand.
pub record Answered (t old : List ℕ) (r : Result ℕ Refusal) (new : List ℕ) : Type 0 where
  pub result : by_number r ≡ answered (room_refusal t old) (length t)
  pub buffer : new ≡ lent_after (room_refusal t old) t old

-- The refusal of the call: 5, 6, 18, 7 by the job, then 11.
abbrev pub report_refusal : JobInput → List ℕ → ℕ
report_refusal h out = job_refusal h or_else room_refusal (plan_report (job_in h)) out

-- What `report` promises of a job as handed and the buffer that it is lent, with its answer and the
-- buffer afterwards.
pub record ReportPromise (h : JobInput) (old : List ℕ) (r : Result ℕ Refusal) (new : List ℕ) : Type 0 where
  -- The number of bytes, or a refusal's number.
  pub result : by_number r ≡ answered (report_refusal h old) (length (plan_report (job_in h)))
  -- The report; "in a longer one the bytes past the result stay unchanged", and on a refusal all.
  pub buffer : new ≡ lent_after (report_refusal h old) (plan_report (job_in h)) old

-- Whichever plan of an accepted job is taken, this is its report.
pub report_of_plan : (j : Job) (p : ℕ → ℕ) → Accepted j → IsPlan j p → plan_report j ≡ report_of j (own_list j p)
unfolding plan_report
report_of_plan j p a is = ap (report_of j) (plan_rows_unique j (plan j) p (plan_exists j a) is)

-- It has at most 7,633 bytes: the plan's own list keeps rules 1 to 7.
pub plan_report_fits : (j : Job) → Accepted j → length (plan_report j) ≤ 7633
unfolding plan_report
plan_report_fits j a =
    let k = (plan_carried j (accepted_sized j a) (plan j) (plan_exists j a)).0 in
    report_fits j (own_list j (plan j)) a k.in_range_lem k.within

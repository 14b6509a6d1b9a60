-- Meaning. What job and plan files say, for callers who have whole files: the refusal in document
-- 01's order, the job, its plan as it goes on file, and the verdict on a plan file.
use Rattle.std.specs.Prelude.{ℕ, List}
use Rattle.theory_basics.specs.Refusals.{◌or_else◌}
use Rattle.records.specs.File.{file_refusal}
use Rattle.job.specs.Job.{Job, chunks}
use Rattle.jobrecords.specs.Refusal.{one_sequence, refusal_of, job_of_file}
use Rattle.fetch.specs.Verdict.{verdict}
use Rattle.planfile.specs.PlanFile.{format, Plan, plan_in}
use Rattle.theory_plan.specs.Plan.{plan}
use Rattle.theory_plan.specs.Statement.{marks_of}
use Rattle.planner.specs.Answer.{plan_rows}

-- The refusal of a job file, and the job that it says: the programs but `film_convert` read it in
-- one sequence.
abbrev pub job_file_refusal : List ℕ → ℕ
job_file_refusal file = refusal_of one_sequence file

abbrev pub job_said : List ℕ → Job
job_said file = job_of_file one_sequence file

-- "its plan is the marks, rows and counts that the planner .. hands over": what of it goes on file.
abbrev pub plan_of_job : Job → Plan
plan_of_job j = record { marks = marks_of j (plan j); rows = plan_rows j }

-- "reads the files `job`, then `plan`": the job file's refusal, then the plan file's. "C comes from
-- the job."
abbrev pub files_refusal : (job plan : List ℕ) → ℕ
files_refusal job plan = job_file_refusal job or_else file_refusal (format (chunks (job_said job))) plan

-- The verdict on the marks and rows of the plan file.
abbrev pub verdict_of_plan : Job → Plan → ℕ
verdict_of_plan j plan = verdict j plan.marks plan.rows

abbrev pub verdict_of_files : (job plan : List ℕ) → ℕ
verdict_of_files job plan = verdict_of_plan (job_said job) (plan_in (chunks (job_said job)) plan)

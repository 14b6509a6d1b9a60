-- Meaning. What callers who have files are answered, and the lent buffer afterwards: as by the
-- library's own calls the result or a refusal, "11. A lent buffer is shorter than the whole result,
-- after all input refusals. In a longer one the bytes past the result stay unchanged."
use Rattle.std.specs.Prelude.{ℕ, ◌≡◌, List, length, leb, Result}
use Rattle.theory_basics.specs.Lent.{lent_after}
use Rattle.theory_basics.specs.Refusals.{unless, ◌or_else◌}
use Rattle.job.specs.Job.{chunks}
use Rattle.job.specs.Input.{JobInput, job_in, job_refusal}
use Rattle.records.specs.File.{file_refusal}
use Rattle.jobrecords.specs.Refusal.{mixed, refusal_of, job_of_file}
use Rattle.jobfile.specs.Writer.{job_file}
use Rattle.planfile.specs.PlanFile.{format, plan_in, file_of}
use Rattle.report.specs.Answer.{plan_report}
use Rattle.theory_reasons.specs.Lines.{plan_text}
use Rattle.refusals.specs.declared.Refusal.{Refusal}
use Rattle.refusals.specs.Numbers.{answered, by_number}
use Rattle.whole_files.specs.Files.{job_file_refusal, job_said, plan_of_job, files_refusal, verdict_of_plan, verdict_of_files}

-- The refusal that comes from the input, then 11.
abbrev pub with_room : ℕ → (text old : List ℕ) → ℕ
with_room refused text old = refused or_else unless 11 (leb (length text) (length old))

-- What a call promises of a text and the buffer that it is lent, with its answer and the buffer
-- afterwards.
pub record TextPromise (refused : ℕ) (text old : List ℕ) (r : Result ℕ Refusal) (new : List ℕ) : Type 0 where
  -- The number of bytes, or a refusal's number: that of the files, then 11.
  pub answer : by_number r ≡ answered (with_room refused text old) (length text)
  -- "In a longer one the bytes past the result stay unchanged"; on a refusal all of them.
  pub buffer : new ≡ lent_after (with_room refused text old) text old

-- The plan file, the report and the reasons of the job of a file; the job of a mixed file in one
-- sequence.
abbrev pub PlanFilePromise : (job old : List ℕ) → Result ℕ Refusal → (new : List ℕ) → Type 0
PlanFilePromise job old r new = TextPromise (job_file_refusal job) (file_of (plan_of_job (job_said job))) old r new

abbrev pub ReportFilePromise : (job old : List ℕ) → Result ℕ Refusal → (new : List ℕ) → Type 0
ReportFilePromise job old r new = TextPromise (job_file_refusal job) (plan_report (job_said job)) old r new

abbrev pub ReasonsFilePromise : (job old : List ℕ) → Result ℕ Refusal → (new : List ℕ) → Type 0
ReasonsFilePromise job old r new = TextPromise (job_file_refusal job) (plan_text (job_said job)) old r new

abbrev pub ConvertFilePromise : (job old : List ℕ) → Result ℕ Refusal → (new : List ℕ) → Type 0
ConvertFilePromise job old r new = TextPromise (refusal_of mixed job) (job_file (job_of_file mixed job)) old r new

-- The verdict on a plan file, or the refusal of either file.
abbrev pub verdict_answer : (job plan : List ℕ) → Result ℕ ℕ
verdict_answer job plan = answered (files_refusal job plan) (verdict_of_files job plan)

-- ---- the same for a job as a direct call hands it over

abbrev pub PlanOfJob : JobInput → (old : List ℕ) → Result ℕ Refusal → (new : List ℕ) → Type 0
PlanOfJob h old r new = TextPromise (job_refusal h) (file_of (plan_of_job (job_in h))) old r new

abbrev pub verdict_on_file : JobInput → (plan : List ℕ) → Result ℕ ℕ
verdict_on_file h plan =
    answered
    (job_refusal h or_else file_refusal (format (chunks (job_in h))) plan)
    (verdict_of_plan (job_in h) (plan_in (chunks (job_in h)) plan))

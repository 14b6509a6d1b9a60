-- Meaning. The programs' work for callers in C or Rust who have files: whole files in, the number
-- of bytes of the plan file, the report, the reasons or the job file out, and these in front of
-- what the lent slice held; of two files the verdict. Refusals, texts and their order are those of
-- crate whole_files: what comes from the files, then 11.
use Rattle.std.specs.Prelude.{ℕ, ◌≡◌, List, length}
use Rattle.theory_basics.specs.Lent.{lent_after}
use Rattle.jobrecords.specs.Refusal.{job_of_file, mixed, refusal_of}
use Rattle.jobfile.specs.Writer.{job_file}
use Rattle.planfile.specs.PlanFile.{file_of}
use Rattle.report.specs.Answer.{plan_report}
use Rattle.theory_reasons.specs.Lines.{plan_text}
use Rattle.whole_files.specs.Calls.{with_room}
use Rattle.whole_files.specs.Files.{files_refusal, job_file_refusal, job_said, plan_of_job, verdict_of_files}
use Rattle.core_ffi.specs.Convention.{answered}

-- What a call answers that hands over a text.
pub record TextReturned (refused : ℕ) (text old : List ℕ) (r : ℕ) (new : List ℕ) : Type 0 where
  -- How many bytes the text has, or the refusal's number by the convention.
  pub number : r ≡ answered (with_room refused text old) (length text)
  -- The text, then what the slice held; on a refusal that alone.
  pub buffer : new ≡ lent_after (with_room refused text old) text old

abbrev pub PlanFileReturned : (job old : List ℕ) (r : ℕ) (new : List ℕ) → Type 0
PlanFileReturned job old r new = TextReturned (job_file_refusal job) (file_of (plan_of_job (job_said job))) old r new

abbrev pub ReportFileReturned : (job old : List ℕ) (r : ℕ) (new : List ℕ) → Type 0
ReportFileReturned job old r new = TextReturned (job_file_refusal job) (plan_report (job_said job)) old r new

abbrev pub ReasonsFileReturned : (job old : List ℕ) (r : ℕ) (new : List ℕ) → Type 0
ReasonsFileReturned job old r new = TextReturned (job_file_refusal job) (plan_text (job_said job)) old r new

abbrev pub ConvertFileReturned : (job old : List ℕ) (r : ℕ) (new : List ℕ) → Type 0
ConvertFileReturned job old r new = TextReturned (refusal_of mixed job) (job_file (job_of_file mixed job)) old r new

abbrev pub verdict_files_answer : (job plan : List ℕ) → ℕ
verdict_files_answer job plan = answered (files_refusal job plan) (verdict_of_files job plan)

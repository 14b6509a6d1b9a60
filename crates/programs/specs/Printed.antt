-- Meaning. What each program prints, byte by byte, for the files that it reads: document 01, "One
-- reads a job on standard input and writes the plan file to standard output; one reads the files
-- `job`, then `plan`, and prints `verdict n`; one prints a report. On a refusal each prints only
-- `refused n`. Printed lines end in a line feed. A file that can't be opened is read as empty";
-- request 14's reasons and request 6's program for mixed files likewise. A file is a list of bytes
-- of any length; one of none stands for a file that can't be opened.
use Rattle.std.specs.Prelude.{ℕ, cond, List, [], ◌∷◌, eqb}
use Rattle.theory_basics.specs.Text.{ascii, digits, line}
use Rattle.jobrecords.specs.Refusal.{mixed, refusal_of, job_of_file}
use Rattle.jobfile.specs.Writer.{job_file}
use Rattle.planfile.specs.PlanFile.{file_of}
use Rattle.report.specs.Answer.{plan_report}
use Rattle.theory_reasons.specs.Lines.{plan_text}
use Rattle.whole_files.specs.Files.{files_refusal, job_file_refusal, job_said, plan_of_job, verdict_of_files}

-- ---- the two short lines

-- `refused n` and a line feed.
abbrev pub refused_text : ℕ → List ℕ
refused_text n = line (ascii "refused") (digits n ∷ [])

-- `verdict n` and a line feed.
abbrev pub verdict_text : ℕ → List ℕ
verdict_text n = line (ascii "verdict") (digits n ∷ [])

-- "On a refusal each prints only `refused n`": the refusal's line, or with none, 0, the text.
abbrev pub printed : ℕ → List ℕ → List ℕ
printed refused text = cond (eqb refused 0) text (refused_text refused)

-- ---- a job file

-- `film_plan`: the plan file of the job.
abbrev pub plan_printed : (job : List ℕ) → List ℕ
plan_printed job = printed (job_file_refusal job) (file_of (plan_of_job (job_said job)))

-- `film_report`: the report of the job's plan.
abbrev pub report_printed : (job : List ℕ) → List ℕ
report_printed job = printed (job_file_refusal job) (plan_report (job_said job))

-- `film_reasons`: the reason under each layer that the job's plan lacks.
abbrev pub reasons_printed : (job : List ℕ) → List ℕ
reasons_printed job = printed (job_file_refusal job) (plan_text (job_said job))

-- `film_convert`: the job of a mixed file, "turned into the new form".
abbrev pub convert_printed : (job : List ℕ) → List ℕ
convert_printed job = printed (refusal_of mixed job) (job_file (job_of_file mixed job))

-- ---- a job file and a plan file

-- `film_verdict`: the verdict's line.
abbrev pub verdict_printed : (job plan : List ℕ) → List ℕ
verdict_printed job plan = printed (files_refusal job plan) (verdict_text (verdict_of_files job plan))

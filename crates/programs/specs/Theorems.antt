-- Theorems. What a reader of document 01 expects of the programs together: the plan file that is
-- printed reads back as the plan and passes, and a refused job file gives one number in every
-- program that reads it in one sequence. Then what `film_convert` prints: document 02, "The mixed
-- files of document 01 can be turned into the new form by a small program that still reads both."
-- Assumes nothing.
use Rattle.std.specs.Prelude.{ℕ, ◌≤◌, ◌≡◌, List, [], length}
use Rattle.std.proofs.Common.{sym, ap, ◌∙◌, arith, eq-eqb, ne_eqb}
use Rattle.theory_basics.specs.lemmas.Refusals.{or_else_none, or_else_some}
use Rattle.records.specs.Fields.{Bytes}
use Rattle.records.specs.File.{file_refusal}
use Rattle.job.specs.Job.{Accepted, chunks}
use Rattle.fetch.proofs.Theorems.{verdict_iff}
use Rattle.jobrecords.specs.Refusal.{one_sequence, mixed, refusal_of, job_of_file}
use Rattle.jobrecords.specs.Theorems.{file_accepted, also_mixed}
use Rattle.jobfile.specs.Writer.{job_file}
use Rattle.jobfile.specs.Theorems.{file_short, never_refused, reads_back, single_file}
use Rattle.planfile.specs.PlanFile.{file_of, format, plan_in}
use Rattle.planfile.specs.Theorems.{plan_reads_back}
use Rattle.theory_plan.specs.Plan.{plan}
use Rattle.theory_plan.specs.Statement.{marks_of}
use Rattle.theory_plan.proofs.Theorems.{plan_keeps}
use Rattle.planner.specs.Answer.{plan_rows}
use Rattle.whole_files.specs.Files.{files_refusal, job_file_refusal, job_said, plan_of_job, verdict_of_files, verdict_of_plan}
use Rattle.programs.specs.Printed.{convert_printed, plan_printed, reasons_printed, refused_text, report_printed, verdict_printed, verdict_text}
use Rattle.whole_files.specs.lemmas.Plans.{plan_file_fits, plan_in_width, plan_marks_long}

-- ---- the plan file that is printed

-- A job file that is not refused says an accepted job.
pub said_accepted : (job : List ℕ) → job_file_refusal job ≡ 0 → Accepted (job_said job)
said_accepted job e = file_accepted one_sequence job e

-- "Job and plan files read back as the job and plan written": what `plan` prints for a job is a
-- plan file that is not refused and says the plan's marks and rows; and `verdict` prints verdict 0
-- for it.
pub record PlanPasses (job : List ℕ) : Type 0 where
  pub printed_file : plan_printed job ≡ file_of (plan_of_job (job_said job))
  pub not_refused : file_refusal (format (chunks (job_said job))) (plan_printed job) ≡ 0
  pub says : plan_in (chunks (job_said job)) (plan_printed job) ≡ plan_of_job (job_said job)
  pub verdict_is : verdict_printed job (plan_printed job) ≡ verdict_text 0

pub plan_passes : (job : List ℕ) → job_file_refusal job ≡ 0 → PlanPasses job
plan_passes job e =
    let j = job_said job in
    let a = said_accepted job e in
    let file : plan_printed job ≡ file_of (plan_of_job j) = rw (eq-eqb (job_file_refusal job) 0 e) in
    let back = plan_reads_back j (plan_of_job j) (plan_in_width j a) (plan_marks_long j a) (omega (arith, plan_file_fits j a)) in
    let taken = ap (file_refusal (format (chunks j))) file ∙ back.not_refused in
    let same = ap (plan_in (chunks j)) file ∙ back.says in
    let none : files_refusal job (plan_printed job) ≡ 0 = or_else_none (job_file_refusal job) (file_refusal (format (chunks j)) (plan_printed job)) e ∙ taken in
    let zero_is : verdict_of_files job (plan_printed job) ≡ 0 = ap (verdict_of_plan j) same ∙ (verdict_iff j (marks_of j (plan j)) (plan_rows j)).1 (plan_keeps j a) in
    record {
      printed_file = file;
      not_refused = taken;
      says = same;
      verdict_is = verdict_printed_lem job (plan_printed job) none ∙ ap verdict_text zero_is;
    }
  where
    verdict_printed_lem : (job plan : List ℕ) → files_refusal job plan ≡ 0 → verdict_printed job plan ≡ verdict_text (verdict_of_files job plan)
    verdict_printed_lem job plan e = rw (eq-eqb (files_refusal job plan) 0 e)

-- ---- a refused job file

-- "On a refusal each prints only `refused n`": with one number in all four, `verdict` whatever its
-- plan file is.
pub record RefusedAlike (job : List ℕ) (n : ℕ) : Type 0 where
  pub by_plan : plan_printed job ≡ refused_text n
  pub by_verdict : (plan : List ℕ) → verdict_printed job plan ≡ refused_text n
  pub by_report : report_printed job ≡ refused_text n
  pub by_reasons : reasons_printed job ≡ refused_text n

pub refused_alike : (job : List ℕ) (n : ℕ) → job_file_refusal job ≡ n → (n ≡ 0 → ⊥) → RefusedAlike job n
refused_alike job n e z =
    let q = ne_eqb n 0 z in
    let first : (plan : List ℕ) → files_refusal job plan ≡ n =
    λ plan. or_else_some (job_file_refusal job) (file_refusal (format (chunks (job_said job))) plan) (λ o. z (sym e ∙ o)) ∙ e in
    record {
      by_plan = rw (e, q);
      by_verdict = λ plan. rw (first plan, q);
      by_report = rw (e, q);
      by_reasons = rw (e, q);
    }

-- A refused plan file of a job that is not refused.
pub plan_file_refused : (job plan : List ℕ) (n : ℕ) → job_file_refusal job ≡ 0 → file_refusal (format (chunks (job_said job))) plan ≡ n → (n ≡ 0 → ⊥) → verdict_printed job plan ≡ refused_text n
plan_file_refused job plan n e f z =
    let r : files_refusal job plan ≡ n = or_else_none (job_file_refusal job) (file_refusal (format (chunks (job_said job))) plan) e ∙ f in
    rw (r, ne_eqb n 0 z)

-- ---- what `film_convert` prints

-- For a mixed file that is not refused: a file in one sequence that says the same job, of at most
-- 46,800 bytes.
pub record Converts (job : List ℕ) : Type 0 where
  pub printed_file : convert_printed job ≡ job_file (job_of_file mixed job)
  pub taken : refusal_of one_sequence (convert_printed job) ≡ 0
  pub same : job_of_file one_sequence (convert_printed job) ≡ job_of_file mixed job
  pub short : length (convert_printed job) ≤ 46800

pub converts : (job : List ℕ) → refusal_of mixed job ≡ 0 → Converts job
converts job e =
    let a = file_accepted mixed job e in
    let j = job_of_file mixed job in
    let file : convert_printed job ≡ job_file j = rw (eq-eqb (refusal_of mixed job) 0 e) in
    record {
      printed_file = file;
      taken = ap (refusal_of one_sequence) file ∙ never_refused j a;
      same = ap (job_of_file one_sequence) file ∙ reads_back j a;
      short = omega (arith, ap length file, file_short j a);
    }

-- The program reads both: a file in one sequence without SZ is not refused, and is printed as it
-- is, byte for byte. "The program of request 6 stays as it is": to it an SZ is an unknown mark
-- (jobrecords, `unknown_mark`).
pub record Stays (job : List ℕ) : Type 0 where
  pub read : refusal_of mixed job ≡ 0
  pub unchanged : convert_printed job ≡ job

pub stays : (job : List ℕ) → Bytes job → refusal_of one_sequence job ≡ 0 → (job_of_file one_sequence job).overrides ≡ [] → Stays job
stays job b e none =
    let m = also_mixed job e none in
    record { read = m.taken; unchanged = (converts job m.taken).printed_file ∙ ap job_file m.same ∙ single_file job b e }

-- Theorems. How large the largest results are: the constants of include/film_planner.h, by call.
-- Each bound holds wherever the input is not refused, whatever room is lent, so a caller who lends
-- so much never meets 11; and each is below 2^32, so that "no result can be mistaken for" a refusal
-- (Convention, never-mistaken).
use Rattle.std.specs.Prelude.{ℕ, ◌≤◌, ◌≡◌, Bool, List, [], length}
use Rattle.std.proofs.Common.{arith}
use Rattle.theory_basics.specs.Refusals.{◌or_else◌}
use Rattle.theory_basics.specs.lemmas.Refusals.{or_else_iff}
use Rattle.records.specs.File.{file_refusal}
use Rattle.job.specs.Input.{JobInput, job_in, job_refusal}
use Rattle.job.specs.Theorems.{input_accepted}
use Rattle.job.specs.Job.{Accepted, Job, layers}
use Rattle.job.specs.Uneven.{overrides_few}
use Rattle.fetch.specs.Input.{list_refusal}
use Rattle.fetch.specs.Slices.{ListSlices}
use Rattle.jobrecords.specs.Refusal.{job_of_file, mixed, refusal_of}
use Rattle.jobrecords.specs.Theorems.{file_accepted}
use Rattle.jobfile.specs.Theorems.{file_short}
use Rattle.jobfile.specs.Writer.{job_file}
use Rattle.planfile.specs.Calls.{plan_of, write_refusal}
use Rattle.planfile.specs.PlanFile.{file_of, format, plan_in}
use Rattle.planfile.specs.lemmas.Back.{accepts}
use Rattle.planfile.specs.lemmas.Few.{rows_inside}
use Rattle.theory_plan.specs.Plan.{plan}
use Rattle.theory_plan.specs.Statement.{marks_of}
use Rattle.theory_plan.proofs.Theorems.{own_list_rows, plan_exists, marks_long}
use Rattle.planner.specs.Answer.{plan_rows}
use Rattle.theory_replan.proofs.Desk.{replans}
use Rattle.theory_replan.specs.Refusal.{replan_refusal}
use Rattle.replan.specs.Answer.{ReplanInput, fetched, input_refusal, rows_on}
use Rattle.theory_search.specs.Search.{found, plan_over}
use Rattle.theory_search.proofs.Theorems.{over_exists}
use Rattle.search.specs.Answer.{plan_found, rows_found}
use Rattle.most.specs.Promise.{rows_over}
use Rattle.theory_reasons.specs.Lines.{plan_text}
use Rattle.theory_reasons.proofs.Theorems.{text_fits}
use Rattle.report.specs.Answer.{plan_report_fits, plan_report}
use Rattle.trace.specs.Theorems.{read_iff}
use Rattle.trace.specs.Trace.{trace_refusal}
use Rattle.meter.specs.Forecast.{bytes_of, forecast_of, meter_forecast_refusal as meter_refusal}
use Rattle.meter.specs.Meter.{samples_of}
use Rattle.meter.proofs.Promises.{forecast_iff, forecast_says}
use Rattle.whole_files.specs.Files.{job_file_refusal, job_said, plan_of_job}
use Rattle.programs.specs.Theorems.{said_accepted}
use Rattle.whole_files.specs.lemmas.Plans.{plan_file_fits}
use Rattle.core_ffi.specs.Meters.{Storage, cells_refusal, mean_refusal, meter_in}
pub use Rattle.core_ffi.specs.lemmas.Largest.{verdict_few, verdict_from_few}
pub use Rattle.fetch.specs.Words.{word_few}
pub use Rattle.trace.specs.Theorems.{trace_fits}
pub use Rattle.wait.specs.Theorems.{wait_few}

-- ---- files

-- FILM_SLOTS, FILM_LAYERS and FILM_SZS.
pub record JobSmall (j : Job) : Type 0 where
  pub slots : length j.forecast ≤ 3600
  pub layers_few : layers j ≤ 4
  pub overrides : length j.overrides ≤ 1996

pub job_read : (sequenced : Bool) (file : List ℕ) → refusal_of sequenced file ≡ 0 → JobSmall (job_of_file sequenced file)
job_read sequenced file e =
    let a = file_accepted sequenced file e in
    record { slots = omega (arith, a.slots_in, a.last_in); layers_few = a.layers_in.high; overrides = overrides_few (job_of_file sequenced file) a }

-- FILM_JOB_FILE.
pub job_written : (h : JobInput) → job_refusal h ≡ 0 → length (job_file (job_in h)) ≤ 46800
job_written h e = file_short (job_in h) (input_accepted h e)

-- FILM_FILE_ROWS: a plan file that is not refused, of a job of so many chunks.
pub rows_read : (count : ℕ) (file : List ℕ) → file_refusal (format count) file ≡ 0 → length (plan_in count file).rows ≤ 5957
rows_read count file e = omega (arith, rows_inside count file e)

-- FILM_FILE: a longer file is 9, before 11.
pub plan_written : (h : JobInput) (s : ListSlices) (out : List ℕ) → write_refusal h s out ≡ 0 → length (file_of (plan_of s)) ≤ 65536
plan_written h s out e = (accepts h s out e).fits

-- Whole files: FILM_PLAN_FILE, FILM_REPORT, FILM_REASONS; and FILM_JOB_FILE for a mixed one.
pub record FilesSmall (job : List ℕ) : Type 0 where
  pub plan_file : length (file_of (plan_of_job (job_said job))) ≤ 64091
  pub report_text : length (plan_report (job_said job)) ≤ 7633
  pub reasons_text : length (plan_text (job_said job)) ≤ 94000

pub files_small : (job : List ℕ) → job_file_refusal job ≡ 0 → FilesSmall job
files_small job e =
    let a = said_accepted job e in
    record {
      plan_file = plan_file_fits (job_said job) a;
      report_text = plan_report_fits (job_said job) a;
      reasons_text = text_fits (job_said job) a;
    }

pub converted_small : (job : List ℕ) → refusal_of mixed job ≡ 0 → length (job_file (job_of_file mixed job)) ≤ 46800
converted_small job e = file_short (job_of_file mixed job) (file_accepted mixed job e)

-- ---- plans

-- FILM_MARKS.
pub marks_few : (j : Job) (choice : ℕ → ℕ) → Accepted j → length (marks_of j choice) ≤ 500
marks_few j choice a = omega (arith, marks_long j choice, a.chunks_in.high)

-- FILM_ROWS.
pub rows_planned : (h : JobInput) → job_refusal h ≡ 0 → length (plan_rows (job_in h)) ≤ 5599
rows_planned h e =
    let a = input_accepted h e in
    own_list_rows (job_in h) a (plan (job_in h)) (plan_exists (job_in h) a).choice

pub rows_afresh : (h : JobInput) (o : ReplanInput) → input_refusal h o ≡ 0 → length (rows_on h o) ≤ 5599
rows_afresh h o e =
    let rows : ℕ = list_refusal 0 [] o.slots o.chunks o.layers o.bytes in
    let rest : ℕ = replan_refusal (job_in h) o.from (fetched o) o.onward in
    let asked = (or_else_iff (job_refusal h) (rows or_else rest)).0 e in
    (replans (job_in h) (input_accepted h asked.0) o.from (fetched o) o.onward ((or_else_iff rows rest).0 asked.1).1).few_rows

pub rows_found_lem : (h : JobInput) (budget : ℕ) → job_refusal h ≡ 0 → length (rows_found (job_in h) budget) ≤ 5599
rows_found_lem h budget e =
    let j = job_in h in
    let a = input_accepted h e in
    own_list_rows j a (plan_found j budget) (over_exists j a (found j budget).kept).choice

pub rows_over_lem : (h : JobInput) (set : List ℕ) → job_refusal h ≡ 0 → length (rows_over (job_in h) set) ≤ 5599
rows_over_lem h set e =
    let j = job_in h in
    let a = input_accepted h e in
    own_list_rows j a (plan_over j set) (over_exists j a set).choice

-- ---- text

-- FILM_REPORT and FILM_REASONS.
pub report_written : (h : JobInput) → job_refusal h ≡ 0 → length (plan_report (job_in h)) ≤ 7633
report_written h e = plan_report_fits (job_in h) (input_accepted h e)

pub reasons_written : (h : JobInput) → job_refusal h ≡ 0 → length (plan_text (job_in h)) ≤ 94000
reasons_written h e = text_fits (job_in h) (input_accepted h e)

-- FILM_SLOTS again; FILM_TRACE is `trace_fits`.
pub trace_read : (trace : List ℕ) (slots : ℕ) → trace_refusal slots trace ≡ 0 → slots ≤ 3600
trace_read trace slots e = ((read_iff slots trace).0 e).slots_in.high

-- ---- the meter: a sample's bytes at most

pub forecast_made : (s : Storage) → mean_refusal s ≡ 0 → forecast_of (bytes_of (samples_of (meter_in s))) ≤ 16777216
forecast_made s e =
    let l = samples_of (meter_in s) in
    let o = (forecast_iff l).0 ((or_else_iff (cells_refusal s) (meter_refusal l)).0 e).1 in
    (forecast_says l o.0 o.1).high

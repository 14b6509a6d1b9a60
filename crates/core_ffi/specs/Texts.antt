-- Meaning. The report, the reasons, link traces and the shortest wait for callers in C or Rust:
-- each answers how many bytes, slots or slots of delay there are; texts and forecasts go to the
-- start of the lent slice. Refusals and texts are the library's own.
use Rattle.std.specs.Prelude.{ℕ, ◌≡◌, List, length}
use Rattle.theory_basics.specs.Lent.{lent_after}
use Rattle.job.specs.Input.{JobInput, job_in}
use Rattle.report.specs.Answer.{plan_report, report_refusal}
use Rattle.theory_reasons.specs.Lines.{plan_text}
use Rattle.reasons.specs.Answer.{refusal}
use Rattle.trace.specs.Answer.{trace_read_refusal, write_refusal}
use Rattle.trace.specs.Trace.{forecast_of, trace_of}
use Rattle.wait.specs.Answer.{WaitInput, film_in, shortest, wait_refusal}
use Rattle.core_ffi.specs.Convention.{answered}

-- `film_report`.
pub record ReportReturned (h : JobInput) (out : List ℕ) (r : ℕ) (out' : List ℕ) : Type 0 where
  -- The number of bytes, or the refusal.
  pub number : r ≡ answered (report_refusal h out) (length (plan_report (job_in h)))
  -- The report, in front of what the slice held; on a refusal that alone.
  pub after : out' ≡ lent_after (report_refusal h out) (plan_report (job_in h)) out

-- `film_reasons`.
pub record ReasonsReturned (h : JobInput) (out : List ℕ) (r : ℕ) (out' : List ℕ) : Type 0 where
  -- The number of bytes, or the refusal.
  pub number : r ≡ answered (refusal h out) (length (plan_text (job_in h)))
  -- The lines, in front of what the slice held; on a refusal that alone.
  pub after : out' ≡ lent_after (refusal h out) (plan_text (job_in h)) out

-- `film_read_trace`.
pub record TraceReadReturned (trace : List ℕ) (slots : ℕ) (forecast : List ℕ) (r : ℕ) (forecast' : List ℕ) : Type 0 where
  -- The number of slots, or the refusal.
  pub number : r ≡ answered (trace_read_refusal trace slots (length forecast)) slots
  -- The trace's forecast, in front of what the slice held; on a refusal that alone.
  pub after : forecast' ≡ lent_after (trace_read_refusal trace slots (length forecast)) (forecast_of slots trace) forecast

-- `film_write_trace`.
pub record TraceWriteReturned (forecast out : List ℕ) (r : ℕ) (out' : List ℕ) : Type 0 where
  -- The number of bytes, or the refusal.
  pub number : r ≡ answered (write_refusal forecast (length out)) (length (trace_of forecast))
  -- The trace, in front of what the slice held; on a refusal that alone.
  pub after : out' ≡ lent_after (write_refusal forecast (length out)) (trace_of forecast) out

-- `film_wait`: the shortest delay, or the refusal.
abbrev pub wait_answer : WaitInput → ℕ
wait_answer h = answered (wait_refusal h) (shortest (film_in h))

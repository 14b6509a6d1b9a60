-- Meaning. What the two calls answer, and the lent slice afterwards: the refusals of Trace, then
-- document 01's 11, "A lent buffer is shorter than the whole result, after all input refusals. In a
-- longer one the bytes past the result stay unchanged."
use Rattle.std.specs.Prelude.{ℕ, ◌≡◌, List, length, leb, Result}
use Rattle.theory_basics.specs.Lent.{lent_after}
use Rattle.refusals.specs.declared.Refusal.{Refusal}
use Rattle.refusals.specs.Numbers.{answered, by_number}
use Rattle.theory_basics.specs.Refusals.{unless, ◌or_else◌}
use Rattle.trace.specs.Trace.{forecast_of, trace_refusal, unwritable_refusal, trace_of}

-- 7, 14, 15, then 11: fewer places lent than slots are asked for.
abbrev pub trace_read_refusal : List ℕ → ℕ → ℕ → ℕ
trace_read_refusal trace slots room = trace_refusal slots trace or_else unless 11 (leb slots room)

-- What `read_trace` promises of a trace and the forecast that it is lent, with its answer and the
-- forecast afterwards.
pub record TraceReadPromise (trace : List ℕ) (slots : ℕ) (old : List ℕ) (r : Result ℕ Refusal) (new : List ℕ) : Type 0 where
  -- The number of slots, or a refusal's number.
  pub answer : by_number r ≡ answered (trace_read_refusal trace slots (length old)) slots
  -- "Read such a trace for a stated number of slots"; what is past them stays unchanged, and on a
  -- refusal all of it.
  pub buffer : new ≡ lent_after (trace_read_refusal trace slots (length old)) (forecast_of slots trace) old

-- 7, 15, then 11: a lent buffer shorter than the trace.
abbrev pub write_refusal : List ℕ → ℕ → ℕ
write_refusal forecast room = unwritable_refusal forecast or_else unless 11 (leb (length (trace_of forecast)) room)

-- What `write_trace` promises of a forecast and the buffer that it is lent, with its answer and the
-- buffer afterwards.
pub record TraceWritePromise (forecast old : List ℕ) (r : Result ℕ Refusal) (new : List ℕ) : Type 0 where
  -- The number of bytes, or a refusal's number.
  pub answer : by_number r ≡ answered (write_refusal forecast (length old)) (length (trace_of forecast))
  -- "the trace with each slot's lines at its first millisecond"; what is past it stays unchanged,
  -- and on a refusal all of it.
  pub buffer : new ≡ lent_after (write_refusal forecast (length old)) (trace_of forecast) old

-- Meaning. What the checker's two calls answer: document 01, "Direct calls without files check 5,
-- 6, 7, then 8", with 18 "after 6 and before 7", and 21 of the second call after them; else the
-- verdict.
use Rattle.std.specs.Prelude.{ℕ, Result}
use Rattle.theory_basics.specs.Refusals.{◌or_else◌}
use Rattle.refusals.specs.Numbers.{answered}
use Rattle.job.specs.Job.{chunks}
use Rattle.job.specs.Input.{JobInput, job_in, job_refusal}
use Rattle.fetch.specs.Slices.{ListSlices, list_rows, slices_refusal}
use Rattle.fetch.specs.Verdict.{verdict}
use Rattle.fetch.specs.VerdictFrom.{slot_refusal, verdict_from}

-- The refusal of a job handed with marks and rows: 5, 6, 18, 7, then 8.
abbrev pub check_refusal : JobInput → ListSlices → ℕ
check_refusal h s = job_refusal h or_else slices_refusal (chunks (job_in h)) s

-- The answer for a job, marks and rows as handed.
abbrev pub checked : JobInput → ListSlices → Result ℕ ℕ
checked h s = answered (check_refusal h s) (verdict (job_in h) s.marks (list_rows s))

-- The second call's: "21, p not from 1 to d(C), in either call", after the job's own and 8.
abbrev pub check_from_refusal : JobInput → ℕ → ListSlices → ℕ
check_from_refusal h from s = check_refusal h s or_else slot_refusal h.programme from

abbrev pub checked_from : JobInput → ℕ → ListSlices → Result ℕ ℕ
checked_from h from s = answered (check_from_refusal h from s) (verdict_from (job_in h) from s.marks (list_rows s))

-- Meaning. The two calls: the refusal of each in document 01's order, its answer, and the lent
-- slices afterwards. "A plan reader checks the job it is handed by 5, 6, 7 before its file";
-- "Direct calls without files check 5, 6, 7, then 8 .. and a writer then 9"; 18 "after 6 and before
-- 7"; "11. A lent buffer is shorter than the whole result, after all input refusals".
use Rattle.std.specs.Prelude.{ℕ, ◌≡◌, List, map, length, leb, Result}
use Rattle.theory_basics.specs.Lent.{lent_after}
use Rattle.theory_basics.specs.Refusals.{unless, ◌or_else◌}
use Rattle.refusals.specs.Numbers.{answered}
use Rattle.records.specs.File.{file_refusal}
use Rattle.job.specs.Job.{chunks}
use Rattle.job.specs.Input.{JobInput, job_in, job_refusal}
use Rattle.fetch.specs.Slices.{ListSlices, list_rows, slices_refusal, room}
use Rattle.planfile.specs.PlanFile.{format, Plan, plan_in, file_of}

-- ---- reading

-- The handed job's 5, 6, 18, 7, then the file's refusal, then 11.
unfoldable pub plan_read_refusal : JobInput → List ℕ → ListSlices → ℕ
plan_read_refusal h file lent =
    job_refusal h
    or_else file_refusal (format (chunks (job_in h))) file
    or_else unless 11 (room lent (chunks (job_in h)) (length (plan_in (chunks (job_in h)) file).rows))

-- The number of rows, or the refusal.
abbrev pub read_answer : JobInput → List ℕ → ListSlices → Result ℕ ℕ
read_answer h file lent = answered (plan_read_refusal h file lent) (length (plan_in (chunks (job_in h)) file).rows)

-- The plan's marks and rows at the front of the lent slices.
abbrev pub read_lent : JobInput → List ℕ → ListSlices → ListSlices
read_lent h file lent =
    let plan = plan_in (chunks (job_in h)) file in
    let refused = plan_read_refusal h file lent in
    record {
      marks = lent_after refused plan.marks lent.marks;
      slots = lent_after refused (map (λ x. x.slot) plan.rows) lent.slots;
      chunks = lent_after refused (map (λ x. x.chunk) plan.rows) lent.chunks;
      layers = lent_after refused (map (λ x. x.layer) plan.rows) lent.layers;
      bytes = lent_after refused (map (λ x. x.bytes) plan.rows) lent.bytes;
    }

-- What `read_plan` promises of a job as handed, a file and the slices that it is lent, with its
-- answer and the slices afterwards.
pub record PlanReadPromise (h : JobInput) (file : List ℕ) (lent : ListSlices) (r : Result ℕ ℕ) (lent' : ListSlices) : Type 0 where
  -- The number of rows, or a refusal's number: "A plan reader checks the job it is handed by 5, 6,
  -- 7 before its file", with 18 before 7, then 11.
  pub answer : r ≡ read_answer h file lent
  -- "In a longer one the bytes past the result stay unchanged"; on a refusal all of them.
  pub after : lent' ≡ read_lent h file lent

-- ---- writing

-- The plan that five slices hand over.
abbrev pub plan_of : ListSlices → Plan
plan_of s = record { marks = s.marks; rows = list_rows s }

-- After the job's: 8, then 9 for a file above 65,536 bytes, then 11.
unfoldable pub write_rest : ℕ → ListSlices → List ℕ → ℕ
write_rest count s out =
    slices_refusal count s
    or_else unless 9 (leb (length (file_of (plan_of s))) 65536)
    or_else unless 11 (leb (length (file_of (plan_of s))) (length out))

-- The handed job's 5, 6, 18, 7 before them.
unfoldable pub write_refusal : JobInput → ListSlices → List ℕ → ℕ
write_refusal h s out = job_refusal h or_else write_rest (chunks (job_in h)) s out

-- The number of bytes, or the refusal.
abbrev pub written_by : ℕ → ListSlices → Result ℕ ℕ
written_by refused s = answered refused (length (file_of (plan_of s)))

abbrev pub write_answer : JobInput → ListSlices → List ℕ → Result ℕ ℕ
write_answer h s out = written_by (write_refusal h s out) s

-- The plan's file at the front of the lent buffer.
abbrev pub write_lent : JobInput → ListSlices → List ℕ → List ℕ
write_lent h s out = lent_after (write_refusal h s out) (file_of (plan_of s)) out

-- What `write_plan` promises of a job and a list as handed and the buffer that it is lent, with its
-- answer and the buffer afterwards.
pub record PlanWritePromise (h : JobInput) (s : ListSlices) (out : List ℕ) (r : Result ℕ ℕ) (out' : List ℕ) : Type 0 where
  -- The number of bytes, or a refusal's number: "Direct calls without files check 5, 6, 7, then 8
  -- .. and a writer then 9", with 18 before 7, then 11.
  pub answer : r ≡ write_answer h s out
  -- The file; what is past it stays unchanged, and on a refusal all of it.
  pub after : out' ≡ write_lent h s out

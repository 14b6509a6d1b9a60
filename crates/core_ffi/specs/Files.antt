-- Meaning. Job and plan files for callers in C or Rust. Beside the buffers of the library's own
-- readers of job files (jobrecords, Reader) these are lent four numbers for the programme and two
-- for how many layers and SZs the job has; the answer is its number of slots. A reader of plan
-- files answers the number of rows, a writer that of bytes.
use Rattle.std.specs.Prelude.{ℕ, ◌≡◌, Bool, ◌&&◌, List, [], ◌∷◌, length, leb}
use Rattle.theory_basics.specs.Lent.{lent_after}
use Rattle.theory_basics.specs.Refusals.{◌or_else◌, unless}
use Rattle.job.specs.Input.{JobInput, job_in}
use Rattle.job.specs.Job.{Job, chunks, layers}
use Rattle.fetch.specs.Slices.{ListSlices}
use Rattle.jobfile.specs.Writer.{file_written, job_file, write_refusal as jobWriteRefusal}
use Rattle.planfile.specs.Calls.{plan_of, plan_read_refusal, read_lent, write_lent, write_refusal as planWriteRefusal}
use Rattle.planfile.specs.PlanFile.{file_of, plan_in}
use Rattle.jobrecords.specs.Refusal.{job_of_file}
use Rattle.jobrecords.specs.Reader.{Buffers, lent_by, job_read_refusal}
use Rattle.core_ffi.specs.Convention.{answered}

-- C, L, s and the limit.
abbrev pub programme_of : Job → List ℕ
programme_of j = j.programme.chunks ∷ j.programme.span ∷ j.programme.delay ∷ j.programme.limit ∷ []

-- How many layers, and how many SZs.
abbrev pub lengths_of : Job → List ℕ
lengths_of j = layers j ∷ length j.overrides ∷ []

-- What a reader of job files is lent.
pub record JobRoom : Type 0 where
  pub job : Buffers
  pub programme : List ℕ
  pub lengths : List ℕ

abbrev pub job_room : Buffers → (programme lengths : List ℕ) → JobRoom
job_room job programme lengths = record { job = job; programme = programme; lengths = lengths }

-- 11 also for the programme and these two.
abbrev pub job_return_refusal : Bool → List ℕ → JobRoom → ℕ
job_return_refusal sequenced file lent =
    job_read_refusal sequenced file lent.job or_else unless 11 (leb 4 (length lent.programme) && leb 2 (length lent.lengths))

-- What `film_read_job` and `film_read_mixed_job` promise of a file and what they are lent, with the
-- answer and what is lent afterwards.
pub record JobReadReturned (sequenced : Bool) (file : List ℕ) (lent : JobRoom) (r : ℕ) (lent' : JobRoom) : Type 0 where
  -- The number of slots, or the refusal.
  pub number : r ≡ answered (job_return_refusal sequenced file lent) (length (job_of_file sequenced file).forecast)
  -- Sizes, SZs and forecast; what is past them stays unchanged, and on a refusal all.
  pub buffers_are : lent'.job ≡ lent_by (job_return_refusal sequenced file lent) (job_of_file sequenced file) lent.job
  -- C, L, s and the limit.
  pub programme_is : lent'.programme ≡ lent_after (job_return_refusal sequenced file lent) (programme_of (job_of_file sequenced file)) lent.programme
  -- How many layers, and how many SZs.
  pub lengths_are : lent'.lengths ≡ lent_after (job_return_refusal sequenced file lent) (lengths_of (job_of_file sequenced file)) lent.lengths

-- ---- the other three: refusals, files and lent slices are the library's own

-- `film_write_job`.
pub record JobWriteReturned (h : JobInput) (out : List ℕ) (r : ℕ) (out' : List ℕ) : Type 0 where
  -- The number of bytes, or the refusal.
  pub number : r ≡ answered (jobWriteRefusal h (length out)) (length (job_file (job_in h)))
  -- The job's file, in front of what the slice held; on a refusal that alone.
  pub after : out' ≡ file_written h out

-- `film_read_plan`.
pub record PlanReadReturned (h : JobInput) (file : List ℕ) (lent : ListSlices) (r : ℕ) (lent' : ListSlices) : Type 0 where
  -- The number of rows, or the refusal.
  pub number : r ≡ answered (plan_read_refusal h file lent) (length (plan_in (chunks (job_in h)) file).rows)
  -- The marks and rows of the file, each in front of what its slice held; on a refusal that alone.
  pub after : lent' ≡ read_lent h file lent

-- `film_write_plan`.
pub record PlanWriteReturned (h : JobInput) (s : ListSlices) (out : List ℕ) (r : ℕ) (out' : List ℕ) : Type 0 where
  -- The number of bytes, or the refusal.
  pub number : r ≡ answered (planWriteRefusal h s out) (length (file_of (plan_of s)))
  -- The plan's file, in front of what the slice held; on a refusal that alone.
  pub after : out' ≡ write_lent h s out

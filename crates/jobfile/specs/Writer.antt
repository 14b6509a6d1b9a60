-- Meaning. The job file that the writer puts, its answer and the lent buffer afterwards: document
-- 01, "The job writer puts PG, the LYs, then one BW per longest run", document 02, "`SZ` records
-- stand between the `LY` and the `BW` ones", and the refusals of direct calls, "5, 6, 7, .. and a
-- writer then 9", with 18 after 6, then 11.
use Rattle.std.specs.Prelude.{ℕ, suc, ◌≤◌, ◌≡◌, cond, List, [], ◌∷◌, ◌++◌, map, length, leb, eqb, Result}
use Rattle.theory_basics.specs.Lent.{lent_after}
use Rattle.theory_basics.specs.Tests.{All}
use Rattle.theory_basics.specs.Refusals.{unless, ◌or_else◌}
use Rattle.records.specs.File.{encode_all}
use Rattle.job.specs.Job.{Job, Override}
use Rattle.job.specs.Input.{JobInput, job_in, job_refusal}
use Rattle.jobrecords.specs.declared.Record.{Record}
use Rattle.jobrecords.specs.declared.Record.TheVariants.{Pg, Ly, Sz, Bw, En}
use Rattle.refusals.specs.Numbers.{answered}
use Rattle.jobrecords.specs.Records.{encode}

-- A run of equal slots.
pub record Run : Type 0 where
  pub count : ℕ
  pub bytes : ℕ

-- A slot in front of some runs: it goes into the first if that has its bytes, else it begins a run.
abbrev pub in_front : ℕ → List Run → List Run
in_front x [] = record { count = 1; bytes = x } ∷ []
in_front x (r ∷ rs) = cond (eqb x r.bytes) (record { count = suc r.count; bytes = x } ∷ rs) (record { count = 1; bytes = x } ∷ r ∷ rs)

-- The longest runs of a forecast.
abbrev pub runs : List ℕ → List Run
runs [] = []
runs (x ∷ xs) = in_front x (runs xs)

-- Neighbouring runs differ in their bytes.
abbrev pub Differ : List Run → Type 0
Differ [] = Unit {0}
Differ (r ∷ []) = Unit {0}
Differ (r ∷ (q ∷ rs)) = (r.bytes ≡ q.bytes → ⊥) × Differ (q ∷ rs)

-- No run is empty and none can be longer.
pub record Longest (rs : List Run) : Type 0 where
  pub some : All (λ (r : Run). 1 ≤ r.count) rs
  pub differ : Differ rs

abbrev pub layer_record : ℕ → Record
layer_record size = Ly size

abbrev pub override_record : Override → Record
override_record o = Sz o.chunk o.layer o.bytes

abbrev pub run_record : Run → Record
run_record r = Bw r.count r.bytes

-- The LYs, the SZs, one BW per longest run.
abbrev pub body_of : List ℕ → List Override → List ℕ → List Record
body_of sizes overrides forecast = map layer_record sizes ++ (map override_record overrides ++ map run_record (runs forecast))

-- All records of the job but EN: PG, LYs, SZs, BWs.
abbrev pub records_of : Job → List Record
records_of j = Pg j.programme ∷ body_of j.sizes j.overrides j.forecast

-- The file of a job: its records, then EN.
unfoldable pub job_file : Job → List ℕ
job_file j = encode_all encode (records_of j) ++ encode En

-- 9: a file above 65,536 bytes.
abbrev pub long_refusal : Job → ℕ
long_refusal j = unless 9 (leb (length (job_file j)) 65536)

-- 11: a buffer shorter than the file.
abbrev pub short_refusal : Job → ℕ → ℕ
short_refusal j room = unless 11 (leb (length (job_file j)) room)

-- The refusal of a job as handed, to be written into a buffer of so many bytes: 5, 6, 18, 7, 9, 11.
abbrev pub write_refusal : JobInput → ℕ → ℕ
write_refusal h room = job_refusal h or_else long_refusal (job_in h) or_else short_refusal (job_in h) room

-- The answer, and the buffer afterwards.
unfoldable pub write_answer : JobInput → ℕ → Result ℕ ℕ
write_answer h room = answered (write_refusal h room) (length (job_file (job_in h)))

unfoldable pub file_written : JobInput → List ℕ → List ℕ
file_written h out = lent_after (write_refusal h (length out)) (job_file (job_in h)) out

-- What `write_job` promises of a job as handed and the buffer that it is lent, with its answer and
-- the buffer afterwards.
pub record JobWritePromise (h : JobInput) (out : List ℕ) (r : Result ℕ ℕ) (out' : List ℕ) : Type 0 where
  -- The number of bytes, or a refusal's number: "Direct calls without files check 5, 6, 7, .. and a
  -- writer then 9", with 18 before 7, then 11.
  pub answer : r ≡ write_answer h (length out)
  -- "The job writer puts PG, the LYs, then one BW per longest run"; what is past the file stays
  -- unchanged, and on a refusal all of it.
  pub after : out' ≡ file_written h out

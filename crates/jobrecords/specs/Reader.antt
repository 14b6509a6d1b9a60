-- Meaning. What the record reader and the reader of a job file of either form answer, and the lent
-- buffers afterwards: document 01, "reader answers an enum, record with next cursor or refusal" and
-- "11. A lent buffer is shorter than the whole result, after all input refusals. In a longer one
-- the bytes past the result stay unchanged".
use Rattle.std.specs.Prelude.{ℕ, ◌+◌, ◌≡◌, Bool, ◌&&◌, List, length, drop, leb, Result, Ok, Err}
use Rattle.theory_basics.specs.Lent.{lent_after}
use Rattle.records.specs.File.{Front, got, none}
use Rattle.theory_basics.specs.Refusals.{unless, ◌or_else◌}
use Rattle.job.specs.Job.{Job, layers}
use Rattle.job.specs.Input.{override_chunks, override_layers, override_bytes}
use Rattle.refusals.specs.Numbers.{answered}
use Rattle.jobrecords.specs.declared.ReadJob.{ReadJob}
use Rattle.jobrecords.specs.declared.Record.{Record}
use Rattle.jobrecords.specs.Records.{front}
use Rattle.jobrecords.specs.Refusal.{refusal_of, job_of_file}

-- What stands in front of the bytes from a place on, with the place after it.
abbrev pub read_front : ℕ → Front Record → Result (Record × ℕ) ℕ
read_front at (got r n) = Ok (r, at + n)
read_front at (none n) = Err n

abbrev pub read_at : Bool → List ℕ → ℕ → Result (Record × ℕ) ℕ
read_at sequenced s at = read_front at (front sequenced (drop at s))

-- The lent buffers: for the sizes, for the chunks, layers and sizes of the SZs, and for the
-- forecast.
pub record Buffers : Type 0 where
  pub sizes : List ℕ
  pub size_chunks : List ℕ
  pub size_layers : List ℕ
  pub size_bytes : List ℕ
  pub forecast : List ℕ

abbrev pub buffers : (sizes size_chunks size_layers size_bytes forecast : List ℕ) → Buffers
buffers sizes cs ls bs forecast = record { sizes = sizes; size_chunks = cs; size_layers = ls; size_bytes = bs; forecast = forecast }

-- 11: a buffer shorter than what the job has for it.
abbrev pub room_refusal : Job → Buffers → ℕ
room_refusal j lent =
    unless 11
    (leb (layers j) (length lent.sizes)
    && (leb (length j.overrides) (length lent.size_chunks)
    && (leb (length j.overrides) (length lent.size_layers)
    && (leb (length j.overrides) (length lent.size_bytes)
    && leb (length j.forecast) (length lent.forecast)))))

-- The answer with a job.
abbrev pub job_answer : Job → ReadJob
job_answer j = record { programme = j.programme; layers = layers j; overrides = length j.overrides; slots = length j.forecast }

-- The buffers after a job was read into them, or after a refusal.
abbrev pub lent_by : ℕ → Job → Buffers → Buffers
lent_by refused j lent =
    record {
      sizes = lent_after refused j.sizes lent.sizes;
      size_chunks = lent_after refused (override_chunks j.overrides) lent.size_chunks;
      size_layers = lent_after refused (override_layers j.overrides) lent.size_layers;
      size_bytes = lent_after refused (override_bytes j.overrides) lent.size_bytes;
      forecast = lent_after refused j.forecast lent.forecast;
    }

module _ (sequenced : Bool) (s : List ℕ) (lent : Buffers) where
  -- The refusal of a file read into some buffers: 11 after all input refusals.
  abbrev pub job_read_refusal : ℕ
  job_read_refusal = refusal_of sequenced s or_else room_refusal (job_of_file sequenced s) lent

  -- The answer.
  unfoldable pub read_answer : Result ReadJob ℕ
  read_answer = answered job_read_refusal (job_answer (job_of_file sequenced s))

  -- The lent buffers afterwards.
  unfoldable pub lent_read : Buffers
  lent_read = lent_by job_read_refusal (job_of_file sequenced s) lent

-- What `read_job` promises of a file and the buffers that it is lent, with its answer and the
-- buffers afterwards.
pub record JobReadPromise (sequenced : Bool) (file : List ℕ) (lent : Buffers) (r : Result ReadJob ℕ) (lent' : Buffers) : Type 0 where
  -- The job, or a refusal's number: those of the file first, and "11. A lent buffer is shorter than
  -- the whole result, after all input refusals".
  pub answer : r ≡ read_answer sequenced file lent
  -- "In a longer one the bytes past the result stay unchanged"; on a refusal all of them.
  pub after : lent' ≡ lent_read sequenced file lent

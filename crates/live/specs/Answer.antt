-- Meaning. What the call hands over: the asks of slot p (theory_live, Statement), by chunk, layer
-- and bytes, each in a slice of its own, or a refusal's number.
use Rattle.std.specs.Prelude.{ℕ, suc, ◌≤◌, ◌<◌, ◌≡◌, Bool, ◌&&◌, List, [], ◌++◌, map, length, leb, Result}
use Rattle.theory_basics.specs.Lent.{lent_after}
use Rattle.theory_basics.specs.Refusals.{◌or_else◌, unless}
use Rattle.job.specs.Input.{JobInput, job_in, job_refusal}
use Rattle.job.specs.Job.{forecast, last_slot}
use Rattle.fetch.specs.Input.{list_refusal}
use Rattle.fetch.specs.Rows.{Row}
use Rattle.fetch.specs.Slices.{RowSlices, rows_in}
use Rattle.theory_plan.specs.Own.{Piece}
use Rattle.theory_replan.specs.Statement.{Acceptable, joined}
use Rattle.theory_live.specs.Refusal.{live_refusal}
use Rattle.theory_live.specs.Statement.{asks, piece_bytes, piece_chunk, piece_layer, taken_of}
use Rattle.refusals.specs.declared.Refusal.{Refusal}
use Rattle.refusals.specs.Numbers.{answered, by_number}

-- ---- what is handed and lent

-- The job, the slot p, the rows fetched before it, and a rate in bytes a slot. The job's forecast
-- before p says what those slots could carry; from p on it is not used.
pub record LiveInput : Type 0 where
  pub job : JobInput
  pub slot : ℕ
  pub rows : RowSlices
  pub rate : ℕ

abbrev pub live_input : JobInput → ℕ → RowSlices → ℕ → LiveInput
live_input job slot rows rate = record { job = job; slot = slot; rows = rows; rate = rate }

-- Lent for the pieces: three slices.
pub record PieceSlices : Type 0 where
  pub chunks : List ℕ
  pub layers : List ℕ
  pub bytes : List ℕ

abbrev pub piece_slices : (chunks layers bytes : List ℕ) → PieceSlices
piece_slices chunks layers bytes = record { chunks = chunks; layers = layers; bytes = bytes }

-- ---- the result

abbrev pub fetched : LiveInput → List Row
fetched i = rows_in i.rows

-- The asks of the slot at the rate.
abbrev pub pieces : LiveInput → List Piece
pieces i = asks (job_in i.job) i.slot (fetched i) i.rate

-- ---- the refusals

-- 5, 6, 18, 7 by the job; 8 for a row not handed whole, of rows alone; then 21 and 22.
abbrev pub input_refusal : LiveInput → ℕ
input_refusal i =
    job_refusal i.job
    or_else list_refusal 0 [] i.rows.slots i.rows.chunks i.rows.layers i.rows.bytes
    or_else live_refusal (job_in i.job) i.slot (fetched i)

-- 11: "A lent buffer is shorter than the whole result".
abbrev pub holds : List Piece → PieceSlices → Bool
holds ps l =
    let n = length ps in
    leb n (length l.chunks) && (leb n (length l.layers) && leb n (length l.bytes))

abbrev pub refusal : LiveInput → PieceSlices → ℕ
refusal i l = input_refusal i or_else unless 11 (holds (pieces i) l)

-- ---- what is handed over

-- What is answered, and what stands in the lent slices.
pub record LiveOutput (refused : ℕ) (ps : List Piece) (l : PieceSlices) (r : Result ℕ Refusal) (l' : PieceSlices) : Type 0 where
  -- How many pieces, or the refusal's number.
  pub answer : by_number r ≡ answered refused (length ps)
  -- The pieces, a slice for each of their three numbers, then the old contents; on a refusal these
  -- alone.
  pub chunks_are : l'.chunks ≡ lent_after refused (map piece_chunk ps) l.chunks
  pub layers_are : l'.layers ≡ lent_after refused (map piece_layer ps) l.layers
  pub bytes_are : l'.bytes ≡ lent_after refused (map piece_bytes ps) l.bytes

-- The promise of the call.
pub record LivePromise (i : LiveInput) (l : PieceSlices) (r : Result ℕ Refusal) (l' : PieceSlices) : Type 0 where
  -- The asks, or the refusal.
  pub output : LiveOutput (refusal i l) (pieces i) l r l'
  -- "At most 2,000 pieces."
  pub few : input_refusal i ≡ 0 → length (pieces i) ≤ 2000
  -- "Safe whatever comes": for every slot p before d(C), every x, and every forecast from p on with
  -- at least x in slot p, the rows fetched and the first x bytes of the asks as rows of slot p keep
  -- what planning afresh asks of handed rows at p + 1.
  pub safe :
      input_refusal i ≡ 0 → i.slot < last_slot (job_in i.job) → (onward : List ℕ) (x : ℕ) →
      x ≤ forecast (joined (job_in i.job) i.slot onward) i.slot →
      Acceptable (joined (job_in i.job) i.slot onward) (suc i.slot)
      (fetched i ++ taken_of i.slot x (pieces i))

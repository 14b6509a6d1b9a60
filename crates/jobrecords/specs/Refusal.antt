-- Meaning. The refusals of a job file, a definition a number: 4 to 7 of document 01, 17 and 18 of
-- document 02, record by record and at EN. 9, 1, 2 and 3 are those of any file of records. Order:
-- 4, "17 .. after 4 and before ranges", then 5 to 7; at EN 3, 4, 6, "18 .. found at `EN` .. after 6
-- and before 7", 7. Both forms of a job file are here: document 02's, in one sequence, and document
-- 01's mixed ones, which know no SZ and of which 17 is not asked.
use Rattle.std.specs.Prelude.{ℕ, ◌+◌, Bool, true, false, not, ◌&&◌, ◌||◌, List, [], ◌∷◌, length, leb, eqb}
use Rattle.theory_basics.specs.Refusals.{unless, ◌or_else◌}
use Rattle.records.specs.File.{Format, split, file_refusal}
use Rattle.job.specs.Job.{Job}
use Rattle.job.specs.Refusal.{within, fields_refusal, last_due_refusal, overrides_refusal, slots_refusal}
use Rattle.jobrecords.specs.declared.Record.{Record}
use Rattle.jobrecords.specs.declared.Record.TheVariants.{Pg, Ly, Sz, Bw, En}
use Rattle.jobrecords.specs.Records.{front, is_end}
use Rattle.jobrecords.specs.Says.{has_programme, programme_in, sizes_in, overrides_in, forecast_in, job_in}

-- ---- the two forms

-- Whether a file is to be in one sequence, "`PG`, all `LY`, all `BW`, `EN`" with the SZs "between
-- the `LY` and the `BW` ones", or may be mixed, "`PG` may stand anywhere before `EN`, and `LY` and
-- `BW` may mix".
abbrev pub one_sequence : Bool
one_sequence = true

abbrev pub mixed : Bool
mixed = false

-- ---- 4: a second PG

abbrev pub second_refusal : Bool → Record → ℕ
second_refusal has (Pg p) = unless 4 (not has)
second_refusal has (Ly size) = 0
second_refusal has (Sz chunk layer bytes) = 0
second_refusal has (Bw count bytes) = 0
second_refusal has En = 0

-- ---- 17: a record out of sequence or a run of the same bytes as the one before

-- The last of some records, and of none a given one.
abbrev pub last_after : Record → List Record → Record
last_after r [] = r
last_after r (q ∷ qs) = last_after q qs

-- The record before; EN, which never stands before another, if there is none.
abbrev pub previous : List Record → Record
previous before = last_after En before

-- The place of a record in the sequence PG, LY, SZ, BW; 0 where none stands before.
abbrev pub place : Record → ℕ
place (Pg p) = 1
place (Ly size) = 2
place (Sz chunk layer bytes) = 3
place (Bw count bytes) = 4
place En = 0

-- Whether a record is a run of those bytes.
abbrev pub is_run_of : ℕ → Record → Bool
is_run_of bytes (Pg p) = false
is_run_of bytes (Ly size) = false
is_run_of bytes (Sz chunk layer size) = false
is_run_of bytes (Bw count same) = eqb same bytes
is_run_of bytes En = false

-- Whether a record may stand after the record q before it: PG first and only first; LY after PG or
-- LY; SZ after these or an SZ; BW after any of them, but not after a run of the same bytes. EN is
-- never out of sequence: what is lacking there has its own number. Order has this a line a pair
-- (`Follows`, `follows_iff`).
abbrev pub follows : Record → Record → Bool
follows q (Pg p) = eqb (place q) 0
follows q (Ly size) = within 1 2 (place q)
follows q (Sz chunk layer bytes) = within 1 3 (place q)
follows q (Bw count bytes) = leb 1 (place q) && not (is_run_of bytes q)
follows q En = true

abbrev pub sequence_refusal : Bool → Record → Record → ℕ
sequence_refusal sequenced q r = unless 17 (not sequenced || follows q r)

-- ---- 5, 6, 7: the ranges

-- 6: a layer size out of range or a fifth layer, after so many layers.
abbrev pub layer_fault : ℕ → ℕ → ℕ
layer_fault layers size = unless 6 (within 1 16777216 size && leb (layers + 1) 4)

-- 7: a run of 0 slots, runs beyond 3,600 slots, or bytes out of range, after so many slots.
abbrev pub run_fault : ℕ → ℕ → ℕ → ℕ
run_fault slots count bytes = unless 7 (leb 1 count && (leb (slots + count) 3600 && within 0 16777216 bytes))

-- Of a record after so many layers and slots. An SZ's numbers are judged at EN.
abbrev pub range_fault : ℕ → ℕ → Record → ℕ
range_fault layers slots (Pg p) = fields_refusal p or_else last_due_refusal p
range_fault layers slots (Ly size) = layer_fault layers size
range_fault layers slots (Sz chunk layer bytes) = 0
range_fault layers slots (Bw count bytes) = run_fault slots count bytes
range_fault layers slots En = 0

-- ---- record by record

-- The refusal of a record after the records before it, 0 for none: 4, 17, then the ranges.
abbrev pub fault : Bool → List Record → Record → ℕ
fault sequenced before r =
    second_refusal (has_programme before) r
    or_else sequence_refusal sequenced (previous before) r
    or_else range_fault (length (sizes_in before)) (length (forecast_in before)) r

-- ---- at EN

-- 4: no PG.
abbrev pub missing_refusal : List Record → ℕ
missing_refusal rs = unless 4 (has_programme rs)

-- 6: no layer.
abbrev pub bare_refusal : List Record → ℕ
bare_refusal rs = unless 6 (leb 1 (length (sizes_in rs)))

-- 4, 6, 18 for an SZ's numbers, then 7 for a slot total other than d(C).
abbrev pub lacking : List Record → ℕ
lacking rs =
    missing_refusal rs
    or_else bare_refusal rs
    or_else overrides_refusal (programme_in rs) (sizes_in rs) (overrides_in rs)
    or_else slots_refusal (programme_in rs) (forecast_in rs)

-- ---- the whole file

-- A job file of either form, as a kind of file of records.
abbrev pub format : Bool → Format Record
format sequenced = record { front = front sequenced; is_end = is_end; fault = fault sequenced; lacking = lacking }

-- The refusal of a job file, 0 for none, and the job that its records say.
abbrev pub refusal_of : Bool → List ℕ → ℕ
refusal_of sequenced s = file_refusal (format sequenced) s

abbrev pub job_of_file : Bool → List ℕ → Job
job_of_file sequenced s = job_in (split (format sequenced) s).records

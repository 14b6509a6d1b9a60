-- Lemmas. What stands in room that holds any job and any list. Assumes nothing.
use Rattle.std.specs.Prelude.{ℕ, ◌≡◌, Bool, List, [], Result, Ok, Err, map, take}
use Rattle.refusals.specs.declared.Refusal.{Refusal}
use Rattle.refusals.specs.Numbers.{number_of}
use Rattle.job.specs.Input.{JobInput, job_input, job_in, job_refusal}
use Rattle.fetch.specs.Rows.{row_bytes, row_chunk, row_layer, row_slot}
use Rattle.fetch.specs.Slices.{ListSlices, slices_of}
use Rattle.jobrecords.specs.Refusal.{one_sequence, mixed, refusal_of, job_of_file}
use Rattle.jobrecords.specs.declared.ReadJob.{ReadJob}
use Rattle.planfile.specs.PlanFile.{Plan}
use Rattle.whole_files.specs.declared.rooms.JobRoom.{JobRoom}
use Rattle.whole_files.specs.declared.rooms.ListRoom.{ListRoom}
use Rattle.whole_files.specs.declared.rooms.MixedRoom.{MixedRoom}

-- ---- a job that was read

abbrev pub job_of : ReadJob → JobRoom → JobInput
job_of read room =
    job_input read.programme (take read.layers room.sizes)
    (take read.overrides room.chunks) (take read.overrides room.layers) (take read.overrides room.bytes)
    (take read.slots room.forecast)

-- It is what the file says, and is not refused.
pub record Taken (sequenced : Bool) (file : List ℕ) (h : JobInput) : Type 0 where
  pub none : refusal_of sequenced file ≡ 0
  pub accepted : job_refusal h ≡ 0
  pub same : job_in h ≡ job_of_file sequenced file

-- What is read of a file in one sequence: its job, or its refusal.
abbrev pub ReadsJob : List ℕ → Result ReadJob Refusal → JobRoom → Type 0
ReadsJob file (Ok read) room = Taken one_sequence file (job_of read room)
ReadsJob file (Err e) room = refusal_of one_sequence file ≡ number_of e

-- The same of a mixed file, which has no SZ.
abbrev pub mixed_of : ReadJob → MixedRoom → JobInput
mixed_of read room = job_input read.programme (take read.layers room.sizes) [] [] [] (take read.slots room.forecast)

abbrev pub ReadsMixed : List ℕ → Result ReadJob Refusal → MixedRoom → Type 0
ReadsMixed file (Ok read) room = Taken mixed file (mixed_of read room)
ReadsMixed file (Err e) room = refusal_of mixed file ≡ number_of e

-- ---- a list

abbrev pub list_of : ListRoom → (marks rows : ℕ) → ListSlices
list_of room marks rows =
    slices_of (take marks room.marks) (take rows room.slots) (take rows room.chunks) (take rows room.layers) (take rows room.bytes)

-- The slices of a plan.
abbrev pub slices_of_plan : Plan → ListSlices
slices_of_plan plan =
    slices_of plan.marks (map row_slot plan.rows) (map row_chunk plan.rows) (map row_layer plan.rows) (map row_bytes plan.rows)

-- The room holds a plan of so many marks, or what it is refused by is answered.
abbrev pub HoldsList : (refused : ℕ) → Plan → (marks : ℕ) → Result ℕ Refusal → ListRoom → Type 0
HoldsList refused plan marks (Ok rows) room = (refused ≡ 0) × (list_of room marks rows ≡ slices_of_plan plan)
HoldsList refused plan marks (Err e) room = refused ≡ number_of e

-- Theorems. Job files in one sequence: demand 2, "Job and plan files read back as the job and plan
-- written", and document 02, request 6, "Each job then has a single file". `file_refusal` and
-- `job_of_file` are what the reader's contract cites, `job_file` what the writer's does.
use Rattle.std.specs.Prelude.{ℕ, ◌≤◌, ◌≡◌, refl, List, ◌++◌, ◌↔◌, length, take, drop, Ok}
use Rattle.std.proofs.Common.{sym, ap, subst, ◌∙◌, arith, le-leb}
use Rattle.std.proofs.Math.Seq.{take-append_seam}
use Rattle.theory_basics.specs.Lent.{over}
use Rattle.theory_basics.specs.Refusals.{◌or_else◌}
use Rattle.theory_basics.specs.lemmas.Refusals.{or_else_iff, or_else_none}
use Rattle.records.specs.Fields.{Bytes}
use Rattle.records.specs.File.{split, encode_all}
use Rattle.records.specs.lemmas.Written.{split_written, refusal_written}
use Rattle.records.specs.lemmas.Exact.{split_exact, none_end}
use Rattle.job.specs.Job.{Job, Accepted}
use Rattle.job.specs.Input.{JobInput, job_in, job_refusal}
use Rattle.jobrecords.specs.declared.Record.{Record}
use Rattle.jobrecords.specs.declared.Record.TheVariants.{En}
use Rattle.jobrecords.specs.Records.{encode}
use Rattle.jobrecords.specs.Refusal.{one_sequence, format, refusal_of, job_of_file}
use Rattle.jobrecords.specs.Reader.{Buffers, buffers, room_refusal, job_answer, job_read_refusal, read_answer, lent_by, lent_read}
use Rattle.jobrecords.specs.Theorems.{file_accepted}
use Rattle.jobrecords.specs.lemmas.Clean.{taken}
use Rattle.jobrecords.specs.lemmas.Exact.{exact, file_bytes}
use Rattle.jobfile.specs.Writer.{runs, Longest, records_of, job_file, long_refusal, short_refusal, write_refusal, file_written}
use Rattle.jobfile.specs.lemmas.Runs.{longest_runs}
use Rattle.jobfile.specs.lemmas.FileLength.{short_file}
use Rattle.jobfile.specs.lemmas.Back.{end_back, records_back, records_clean, nothing_lacking, job_back}
use Rattle.jobfile.specs.lemmas.Shape.{records_of_lem}
use Rattle.jobfile.specs.lemmas.Slices.{overrides_handed, overrides_many}
use Rattle.job.specs.Theorems.{input_iff}

-- ---- "Job and plan files read back as the job and plan written."

-- The written file of an accepted job is never refused.
pub never_refused : (j : Job) → Accepted j → refusal_of one_sequence (job_file j) ≡ 0
unfolding job_file
never_refused j a =
    let short : length (job_file j) ≤ 65536 = omega (arith, short_file j a) in
    refusal_written (format one_sequence) encode En (end_back one_sequence) refl (records_of j) (records_back j a) ∙ rw (le-leb (length (job_file j)) 65536 short, records_clean j a) (nothing_lacking j a)

-- Reading what was written gives the same job.
pub reads_back : (j : Job) → Accepted j → job_of_file one_sequence (job_file j) ≡ j
unfolding job_file
reads_back j a = rw (split_written (format one_sequence) encode En (end_back one_sequence) refl (records_of j) (records_back j a)) (job_back j)

-- So the reader, lent enough room, answers with the job that was written, and its sizes, SZs and
-- forecast stand in the buffers.
pub record ReadAgain (j : Job) (lent : Buffers) : Type 0 where
  pub answer : read_answer one_sequence (job_file j) lent ≡ Ok (job_answer j)
  pub buffers_are : lent_read one_sequence (job_file j) lent ≡ lent_by 0 j lent

pub read_again : (j : Job) (lent : Buffers) → Accepted j → room_refusal j lent ≡ 0 → ReadAgain j lent
unfolding read_answer lent_read
read_again j lent a room =
    let back = reads_back j a in
    let none : job_read_refusal one_sequence (job_file j) lent ≡ 0 =
    or_else_none (refusal_of one_sequence (job_file j)) (room_refusal (job_of_file one_sequence (job_file j)) lent) (never_refused j a)
    ∙ ap (λ (i : Job). room_refusal i lent) back
    ∙ room in
    record { answer = rw none (ap (λ (i : Job). Ok (job_answer i)) back); buffers_are = rw none (ap (λ (i : Job). lent_by 0 i lent) back) }

-- The same of the calls: what `write_job` doesn't refuse, `read_job`, lent enough room, hands back
-- slice by slice, and what stood past it in each buffer stays.
abbrev pub slices_back : JobInput → Buffers → Buffers
slices_back h lent =
    buffers
    (over h.sizes lent.sizes)
    (over h.size_chunks lent.size_chunks)
    (over h.size_layers lent.size_layers)
    (over h.size_bytes lent.size_bytes)
    (over h.forecast lent.forecast)

-- Each buffer holds the slice that comes back in it.
pub record HoldsSlices (h : JobInput) (lent : Buffers) : Type 0 where
  pub sizes : length h.sizes ≤ length lent.sizes
  pub size_chunks : length h.size_chunks ≤ length lent.size_chunks
  pub size_layers : length h.size_layers ≤ length lent.size_layers
  pub size_bytes : length h.size_bytes ≤ length lent.size_bytes
  pub forecast : length h.forecast ≤ length lent.forecast

pub record SlicesBack (h : JobInput) (lent : Buffers) : Type 0 where
  pub answer :
      read_answer one_sequence (job_file (job_in h)) lent
      ≡ Ok (record { programme = h.programme; layers = length h.sizes; overrides = length h.size_chunks; slots = length h.forecast })
  pub lent_after : lent_read one_sequence (job_file (job_in h)) lent ≡ slices_back h lent

pub reads_what_was_written : (h : JobInput) (out : List ℕ) (lent : Buffers) → write_refusal h (length out) ≡ 0 → HoldsSlices h lent → SlicesBack h lent
reads_what_was_written h out lent e room =
    let j = job_in h in
    let ok = (input_iff h).0 ((or_else_iff (job_refusal h) (long_refusal j or_else short_refusal j (length out))).0 e).0 in
    let back = overrides_handed h.size_chunks h.size_layers h.size_bytes ok.0.layer_each ok.0.bytes_each in
    let n : length j.overrides ≡ length h.size_chunks = overrides_many h.size_chunks h.size_layers h.size_bytes ok.0.layer_each ok.0.bytes_each in
    let w = ok.0 in
    let holds : room_refusal j lent ≡ 0 =
    rw (
      n,
      le-leb (length h.sizes) (length lent.sizes) room.sizes,
      le-leb (length h.size_chunks) (length lent.size_chunks) room.size_chunks,
      le-leb (length h.size_chunks) (length lent.size_layers) (omega (arith, room.size_layers, w.layer_each)),
      le-leb (length h.size_chunks) (length lent.size_bytes) (omega (arith, room.size_bytes, w.bytes_each)),
      le-leb (length h.forecast) (length lent.forecast) room.forecast,
    ) in
    let r = read_again j lent ok.1 holds in
    record { answer = r.answer ∙ rw n; lent_after = r.buffers_are ∙ rw (back.0, back.1, back.2) }

-- And the file stands in front in the buffer lent to `write_job`.
pub written_in_front : (h : JobInput) (out : List ℕ) → write_refusal h (length out) ≡ 0 → take (length (job_file (job_in h))) (file_written h out) ≡ job_file (job_in h)
unfolding file_written
written_in_front h out e = rw e (take-append_seam (job_file (job_in h)) (drop (length (job_file (job_in h))) out))

-- Two accepted jobs with the same file are the same job.
pub same_file : (j k : Job) → Accepted j → Accepted k → job_file j ≡ job_file k → j ≡ k
same_file j k a b e = sym (reads_back j a) ∙ ap (job_of_file one_sequence) e ∙ reads_back k b

-- ---- "A file above 65,536 bytes, read or to be written": a job file never is, with every SZ.

pub file_short : (j : Job) → Accepted j → length (job_file j) ≤ 46800
file_short j a = short_file j a

pub never_long : (j : Job) → Accepted j → long_refusal j ≡ 0
never_long j a = rw (le-leb (length (job_file j)) 65536 (omega (arith, short_file j a)))

-- ---- "one BW per longest run"

pub runs_longest : (l : List ℕ) → Longest (runs l)
runs_longest l = longest_runs l

-- ---- "Each job then has a single file."

-- A string of bytes that is not refused is the file of the job that it says, byte for byte.
pub single_file : (s : List ℕ) → Bytes s → refusal_of one_sequence s ≡ 0 → job_file (job_of_file one_sequence s) ≡ s
unfolding job_file
single_file s b e =
    let form = format one_sequence in
    let t = taken one_sequence s e in
    ap (λ (rs : List Record). encode_all encode rs ++ encode En) (records_of_lem (split form s).records t.no_faults t.none_lacking (none_end form s))
    ∙ sym (split_exact form encode En (exact one_sequence) s b t.ends)

-- So two files that are not refused and say one job are one file.
pub same_job : (s t : List ℕ) → Bytes s → Bytes t → refusal_of one_sequence s ≡ 0 → refusal_of one_sequence t ≡ 0 → job_of_file one_sequence s ≡ job_of_file one_sequence t → s ≡ t
same_job s t b c d e f = sym (single_file s b d) ∙ ap job_file f ∙ single_file t c e

-- A written file is a string of bytes.
pub bytes_written : (j : Job) → Bytes (job_file j)
unfolding job_file
bytes_written j = file_bytes (records_of j)

-- A string of bytes is taken exactly if it is the file of an accepted job.
pub record FileOf (s : List ℕ) : Type 0 where
  pub job : Job
  pub accepted : Accepted job
  pub is : job_file job ≡ s

pub taken_iff : (s : List ℕ) → Bytes s → (refusal_of one_sequence s ≡ 0) ↔ FileOf s
taken_iff s b = (
  λ e. record { job = job_of_file one_sequence s; accepted = file_accepted one_sequence s e; is = single_file s b e },
  λ f. subst (λ (t : List ℕ). refusal_of one_sequence t ≡ 0) f.is (never_refused f.job f.accepted),
)

-- Laws on a job file that was read into buffers which hold any job: its refusal, or the job as
-- slices. Assumes nothing.
use Prim.Native.Nat.{ℕ, ◌≤◌, zero, suc}
use mathlib.Core.Path.{◌≡◌, refl, sym, ap, subst, ◌∙◌}
use mathlib.Core.Bool.{Bool}
use mathlib.Core.List.{List, []}
use native.Mathlib.Omega.{arith}
use lib.ListN.{length, length-map, take}
use borrow.Author.Tests.{le-leb}
use Rattle.job.specs.Job.{Accepted, Job, Override, layers}
use Rattle.job.specs.Input.{JobInput, WholeSizes, override_bytes, override_chunks, job_input, job_in, job_refusal, override_layers}
use Rattle.job.specs.Theorems.{input_iff, slices_back_lem}
use Rattle.job.specs.Uneven.{overrides_few}
use Rattle.jobrecords.specs.Refusal.{one_sequence, mixed, refusal_of, job_of_file}
use Rattle.jobrecords.specs.Reader.{Buffers, JobReadPromise, buffers, job_answer, lent_read, read_answer, job_read_refusal, room_refusal}
use Rattle.jobrecords.specs.Theorems.{file_accepted, no_overrides}
use Rattle.jobfile.specs.Theorems.{never_long}
use Rattle.jobfile.specs.Writer.{JobWritePromise, file_written, job_file, long_refusal, write_answer}
use Rattle.jobrecords.specs.declared.ReadJob.{ReadJob}
use Rattle.refusals.specs.declared.Refusal.{Refusal}
use Rattle.refusals.specs.Numbers.{by_number, number_of}
use Rattle.std.specs.Prelude.{Result, Ok, Err}
use Rattle.whole_files.specs.Calls.{TextPromise}
use Rattle.whole_files.specs.declared.rooms.JobRoom.{JobRoom}
use Rattle.whole_files.specs.declared.rooms.MixedRoom.{MixedRoom}
use Rattle.whole_files.specs.lemmas.Answers.{err_answered, ok_answered}
use Rattle.whole_files.specs.lemmas.Rooms.{ReadsJob, ReadsMixed, Taken}
use Rattle.whole_files.proofs.Fronts.{front}
use Rattle.whole_files.proofs.Writing.{never_second}

-- A job as the slices that hand it over.
abbrev as_handed : Job → JobInput
as_handed j = job_input j.programme j.sizes (override_chunks j.overrides) (override_layers j.overrides) (override_bytes j.overrides) j.forecast

-- The slices of an accepted job are not refused, and say it.
whole_sizes : (os : List Override) → WholeSizes (override_chunks os) (override_layers os) (override_bytes os)
whole_sizes os = record {
  layer_each = length-map os (λ (o : Override). o.layer) ∙ sym (length-map os (λ (o : Override). o.chunk));
  bytes_each = length-map os (λ (o : Override). o.bytes) ∙ sym (length-map os (λ (o : Override). o.chunk));
}

handed_back : (j : Job) → job_in (as_handed j) ≡ j
handed_back j = ap (λ (os : List Override). record { programme = j.programme; sizes = j.sizes; overrides = os; forecast = j.forecast }) (slices_back_lem j.overrides)

handed_accepted : (j : Job) → Accepted j → job_refusal (as_handed j) ≡ 0
handed_accepted j a = (input_iff (as_handed j)).1 (whole_sizes j.overrides, subst Accepted (sym (handed_back j)) a)

-- ---- a file that is read into buffers which hold its job

module _ (sequenced : Bool) (file : List ℕ) (lent : Buffers) (enough : refusal_of sequenced file ≡ 0 → room_refusal (job_of_file sequenced file) lent ≡ 0) where
  -- Its own refusal is the only one.
  file_alone : job_read_refusal sequenced file lent ≡ refusal_of sequenced file
  file_alone = never_second (refusal_of sequenced file) (room_refusal (job_of_file sequenced file) lent) enough

  refuses : (e : Refusal) (after : Buffers) → JobReadPromise sequenced file lent (Err (number_of e)) after → refusal_of sequenced file ≡ number_of e
  unfolding read_answer
  refuses e after made = sym file_alone ∙ (err_answered (job_read_refusal sequenced file lent) _ (job_answer (job_of_file sequenced file)) made.answer).0

  -- The job that was read stands in the fronts of the buffers.
  takes :
      (read : ReadJob) (after : Buffers) → JobReadPromise sequenced file lent (Ok read) after →
      Taken sequenced file
      (job_input read.programme (take read.layers after.sizes) (take read.overrides after.size_chunks) (take read.overrides after.size_layers)
      (take read.overrides after.size_bytes) (take read.slots after.forecast))
  unfolding read_answer lent_read
  takes read after made =
      let r : ℕ = job_read_refusal sequenced file lent in
      let j = job_of_file sequenced file in
      let known = ok_answered r read (job_answer j) made.answer in
      let none = known.0 in
      let is = known.1 in
      let own : refusal_of sequenced file ≡ 0 = sym file_alone ∙ none in
      let a = file_accepted sequenced file own in
      let ep : read.programme ≡ j.programme = ap (λ (x : ReadJob). x.programme) is in
      let eo : read.overrides ≡ length j.overrides = ap (λ (x : ReadJob). x.overrides) is in
      let ez = front r j.sizes _ after.sizes read.layers none (ap (λ (x : ReadJob). x.layers) is) (ap (λ (x : Buffers). x.sizes) made.after) in
      let ec =
      front r (override_chunks j.overrides) _ after.size_chunks read.overrides none (eo ∙ sym (length-map j.overrides (λ (x : Override). x.chunk))) (ap (λ (x : Buffers). x.size_chunks) made.after) in
      let em =
      front r (override_layers j.overrides) _ after.size_layers read.overrides none (eo ∙ sym (length-map j.overrides (λ (x : Override). x.layer))) (ap (λ (x : Buffers). x.size_layers) made.after) in
      let eb =
      front r (override_bytes j.overrides) _ after.size_bytes read.overrides none (eo ∙ sym (length-map j.overrides (λ (x : Override). x.bytes))) (ap (λ (x : Buffers). x.size_bytes) made.after) in
      let ef = front r j.forecast _ after.forecast read.slots none (ap (λ (x : ReadJob). x.slots) is) (ap (λ (x : Buffers). x.forecast) made.after) in
      let handed : JobInput =
      job_input read.programme (take read.layers after.sizes) (take read.overrides after.size_chunks) (take read.overrides after.size_layers)
      (take read.overrides after.size_bytes) (take read.slots after.forecast) in
      let same : handed ≡ as_handed j = rw (ep, ez, ec, em, eb, ef) in
      record {
        none = own;
        accepted = ap job_refusal same ∙ handed_accepted j a;
        same = ap (λ (h : JobInput). job_in h) same ∙ handed_back j;
      }

-- ---- room that holds any job

pub record Roomy (lent : Buffers) : Type 0 where
  pub sizes : 4 ≤ length lent.sizes
  pub chunks : 1996 ≤ length lent.size_chunks
  pub layers : 1996 ≤ length lent.size_layers
  pub bytes : 1996 ≤ length lent.size_bytes
  pub slots : 3600 ≤ length lent.forecast

holds_any : (j : Job) → Accepted j → (lent : Buffers) → Roomy lent → room_refusal j lent ≡ 0
holds_any j a lent h =
    let few = overrides_few j a in
    rw (
      le-leb (layers j) (length lent.sizes) (omega (arith, a.layers_in.high)),
      le-leb (length j.overrides) (length lent.size_chunks) (omega arith),
      le-leb (length j.overrides) (length lent.size_layers) (omega arith),
      le-leb (length j.overrides) (length lent.size_bytes) (omega arith),
      le-leb (length j.forecast) (length lent.forecast) (omega (arith, a.slots_in, a.last_in)),
    )

module _ (file : List ℕ) (lent : Buffers) (roomy : Roomy lent) where
  enough_one : refusal_of one_sequence file ≡ 0 → room_refusal (job_of_file one_sequence file) lent ≡ 0
  enough_one e = holds_any (job_of_file one_sequence file) (file_accepted one_sequence file e) lent roomy

  pub reads : (r : Result ReadJob Refusal) (room : JobRoom) →
      JobReadPromise one_sequence file lent (by_number r) (buffers room.sizes room.chunks room.layers room.bytes room.forecast) → ReadsJob file r room
  reads (Err e) room made = refuses one_sequence file lent enough_one e _ made
  reads (Ok read) room made = takes one_sequence file lent enough_one read _ made

-- A mixed file has no SZ, so no room is needed for them.
holds_mixed : (j : Job) → Accepted j → j.overrides ≡ [] → (zs fs : List ℕ) → 4 ≤ length zs → 3600 ≤ length fs → room_refusal j (buffers zs [] [] [] fs) ≡ 0
holds_mixed j a none zs fs z f =
    rw (
      le-leb (layers j) (length zs) (omega (arith, a.layers_in.high)),
      none,
      le-leb (length j.forecast) (length fs) (omega (arith, a.slots_in, a.last_in)),
    )

take_none : (n : ℕ) → take {A = ℕ} n [] ≡ []
take_none zero = refl
take_none (suc n) = refl

module _ (file zs fs : List ℕ) (sizes : 4 ≤ length zs) (slots : 3600 ≤ length fs) where
  enough_mixed : refusal_of mixed file ≡ 0 → room_refusal (job_of_file mixed file) (buffers zs [] [] [] fs) ≡ 0
  enough_mixed e = holds_mixed (job_of_file mixed file) (file_accepted mixed file e) (no_overrides file) zs fs sizes slots

  pub reads_mixed : (r : Result ReadJob Refusal) (room : MixedRoom) →
      JobReadPromise mixed file (buffers zs [] [] [] fs) (by_number r) (buffers room.sizes [] [] [] room.forecast) → ReadsMixed file r room
  reads_mixed (Err e) room made = refuses mixed file (buffers zs [] [] [] fs) enough_mixed e _ made
  reads_mixed (Ok read) room made =
      let t = takes mixed file (buffers zs [] [] [] fs) enough_mixed read _ made in
      subst
      (λ (none : List ℕ). Taken mixed file (job_input read.programme (take read.layers room.sizes) none none none (take read.slots room.forecast)))
      (take_none read.overrides) t

-- ---- what is written

-- What is written for the job handed on is written for the file.
pub of_file :
    (sequenced : Bool) (file : List ℕ) (h : JobInput) (f : Job → List ℕ) (old : List ℕ) (r : Result ℕ Refusal) (new : List ℕ) →
    Taken sequenced file h → TextPromise (job_refusal h) (f (job_in h)) old r new → TextPromise (refusal_of sequenced file) (f (job_of_file sequenced file)) old r new
of_file sequenced file h f old r new t w =
    subst
    (λ (n : ℕ). TextPromise n (f (job_of_file sequenced file)) old r new)
    (t.accepted ∙ sym t.none)
    (subst (λ (j : Job). TextPromise (job_refusal h) (f j) old r new) t.same w)

-- Of a job that was accepted the writer refuses nothing but a short buffer.
pub rewritten :
    (sequenced : Bool) (file : List ℕ) (h : JobInput) (old : List ℕ) (r : Result ℕ Refusal) (new : List ℕ) → Taken sequenced file h → JobWritePromise h old (by_number r) new →
    TextPromise (job_refusal h) (job_file (job_in h)) old r new
unfolding write_answer file_written
rewritten sequenced file h old r new t w =
    let z : long_refusal (job_in h) ≡ 0 = never_long (job_in h) ((input_iff h).0 t.accepted).1 in
    record { answer = rw z at w.answer; buffer = rw z at w.after }

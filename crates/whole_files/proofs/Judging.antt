-- Laws on a plan file that is read for a job and then judged. Assumes nothing.
use Prim.Native.Nat.{ℕ, ◌≤◌}
use mathlib.Core.Path.{◌≡◌, refl, ap, ◌∙◌}
use mathlib.Core.List.{List, map}
use mathlib.Core.Logic.{⊎_elim}
use native.Mathlib.Omega.{arith}
use lib.ListN.{length}
use lib.Dec.{T_not, eqb, eqb→eq, eqb_refl}
use borrow.Author.Tests.{eq-eqb, le-leb, ne_eqb}
use Rattle.theory_basics.specs.Refusals.{unless, ◌or_else◌}
use Rattle.theory_basics.specs.lemmas.Refusals.{or_else_iff}
use Rattle.theory_basics.specs.lemmas.Tests.{test}
use Rattle.records.specs.File.{file_refusal}
use Rattle.job.specs.Input.{JobInput, job_in, job_refusal}
use Rattle.job.specs.Theorems.{input_iff}
use Rattle.job.specs.Job.{chunks}
use Rattle.fetch.specs.Input as lists
use Rattle.fetch.specs.Slices.{ListSlices, slices_of, room}
use Rattle.fetch.specs.Rows.{row_bytes, row_chunk, row_layer, row_slot}
use Rattle.planfile.specs.Calls.{PlanReadPromise, plan_read_refusal}
use Rattle.planfile.specs.PlanFile.{format, plan_in}
use Rattle.planfile.specs.lemmas.Few.{rows_inside}
use Rattle.checker.specs.Checked.{checked}
use Rattle.std.specs.Prelude.{Result, Ok}
use Rattle.refusals.specs.declared.Refusal.{Refusal}
use Rattle.refusals.specs.Numbers.{by_number}
use Rattle.report.specs.lemmas.Again.{rows_again}
use Rattle.whole_files.specs.Calls.{verdict_on_file}
use Rattle.whole_files.specs.declared.rooms.ListRoom.{ListRoom}
use Rattle.whole_files.specs.lemmas.Rooms.{HoldsList, list_of}
use Rattle.whole_files.specs.lemmas.Marks.{marks_complete}
use Rattle.whole_files.proofs.Fronts.{PutInto, Roomy, holds_list, whole_plan}
use Rattle.whole_files.proofs.Writing.{never_second}

holds_any : (lent : ListSlices) (count n : ℕ) → Roomy lent → count ≤ 500 → n ≤ 5957 → unless 11 (room lent count n) ≡ 0
holds_any lent count n h m r =
    rw (
      le-leb count (length lent.marks) (omega arith),
      le-leb n (length lent.slots) (omega arith),
      le-leb n (length lent.chunks) (omega arith),
      le-leb n (length lent.layers) (omega arith),
      le-leb n (length lent.bytes) (omega arith),
    )

module _ (h : JobInput) (file : List ℕ) where
  -- The refusal of the job, then of the file.
  abbrev own : ℕ
  own = job_refusal h or_else file_refusal (format (chunks (job_in h))) file

  module _ (lent : ListSlices) (roomy : Roomy lent) where
    -- The slices hold any plan file of an accepted job, so 11 never follows.
    file_alone : plan_read_refusal h file lent ≡ own
    unfolding plan_read_refusal
    file_alone =
        let a : ℕ = job_refusal h in
        let count : ℕ = chunks (job_in h) in
        let f : ℕ = file_refusal (format count) file in
        let n : ℕ = length (plan_in count file).rows in
        let u : ℕ = unless 11 (room lent count n) in
        let never : a ≡ 0 → (f or_else u) ≡ f =
        λ z. never_second f u (λ e.
        let few : n ≤ 5957 = omega (arith, rows_inside count file e) in
        let small : count ≤ 500 = ((input_iff h).0 z).1.chunks_in.high in
        holds_any lent count n roomy small few) in
        ⊎_elim
        (λ t. let z = eqb→eq a 0 t in rw (eq-eqb a 0 z) (never z))
        (λ t. let z = ne_eqb a 0 (λ z. T_not (eqb a 0) t (rw z (eqb_refl 0))) in rw z)
        (test (eqb a 0))

    pub file_read : (r : Result ℕ Refusal) (room : ListRoom) →
        PlanReadPromise h file lent (by_number r) (slices_of room.marks room.slots room.chunks room.layers room.bytes) → HoldsList own (plan_in (chunks (job_in h)) file) (chunks (job_in h)) r room
    file_read r room p =
        let count : ℕ = chunks (job_in h) in
        let l = p.after in
        let put : PutInto (plan_read_refusal h file lent) (plan_in count file) lent room = record {
          marks_are = ap (λ (x : ListSlices). x.marks) l;
          slots_are = ap (λ (x : ListSlices). x.slots) l;
          chunks_are = ap (λ (x : ListSlices). x.chunks) l;
          layers_are = ap (λ (x : ListSlices). x.layers) l;
          bytes_are = ap (λ (x : ListSlices). x.bytes) l;
        } in
        holds_list own (plan_read_refusal h file lent) (plan_in count file) count lent r room file_alone
        (λ z. marks_complete count file ((or_else_iff (job_refusal h) (file_refusal (format count) file)).0 z).1) p.answer put

  -- The marks and rows of a plan file are judged.
  pub file_judged :
      (room : ListRoom) (rows : ℕ) (s : ListSlices) (r : Result ℕ ℕ) → HoldsList own (plan_in (chunks (job_in h)) file) (chunks (job_in h)) (Ok rows) room →
      s ≡ list_of room (chunks (job_in h)) rows → r ≡ checked h s → r ≡ verdict_on_file h file
  file_judged room rows s r held e v =
      let count : ℕ = chunks (job_in h) in
      let p = plan_in count file in
      let fine = (or_else_iff (job_refusal h) (file_refusal (format count) file)).0 held.0 in
      let whole = (lists.whole_iff count p.marks (map row_slot p.rows) (map row_chunk p.rows) (map row_layer p.rows) (map row_bytes p.rows)).1 (whole_plan count p (marks_complete count file fine.1)) in
      v ∙ ap (checked h) (e ∙ held.1) ∙ rw (fine.0, fine.1, whole, rows_again p.rows) refl

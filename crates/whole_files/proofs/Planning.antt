-- Laws on a job's plan that is made and then written: its refusal, or the plan's file. Assumes
-- nothing.
use Prim.Native.Nat.{ℕ}
use mathlib.Core.Path.{◌≡◌, sym, ap, subst, ◌∙◌}
use mathlib.Core.List.{List, map}
use native.Mathlib.Omega.{arith}
use lib.ListN.{length}
use borrow.Author.Tests.{le-leb}
use Rattle.theory_basics.specs.Refusals.{unless}
use Rattle.job.specs.Input.{JobInput, job_in, job_refusal}
use Rattle.job.specs.Theorems.{input_iff}
use Rattle.job.specs.Job.{Accepted, Job, chunks}
use Rattle.fetch.specs.Input as rows
use Rattle.fetch.specs.Slices.{ListSlices, slices_of}
use Rattle.fetch.specs.Rows.{row_bytes, row_chunk, row_layer, row_slot}
use Rattle.planfile.specs.Calls.{PlanWritePromise, plan_of, write_refusal, write_rest}
use Rattle.planfile.specs.PlanFile.{file_of}
use Rattle.theory_plan.specs.Plan.{plan}
use Rattle.theory_plan.specs.Statement.{marks_of}
use Rattle.theory_plan.proofs.PlanRows.{plan_rows_few}
use Rattle.std.specs.Prelude.{Result, Ok, Err}
use Rattle.refusals.specs.declared.Refusal.{Refusal}
use Rattle.refusals.specs.Numbers.{by_number, number_of}
use Rattle.planner.specs.Answer.{PlanOutput, holds, plan_numbers, plan_refusal, plan_rows}
use Rattle.planner.specs.declared.Planned.{Planned}
use Rattle.report.specs.lemmas.Again.{rows_again}
use Rattle.whole_files.specs.Calls.{PlanOfJob, with_room}
use Rattle.whole_files.specs.Files.{plan_of_job}
use Rattle.whole_files.specs.lemmas.Plans.{plan_file_fits, plan_marks_long}
use Rattle.whole_files.specs.declared.rooms.ListRoom.{ListRoom}
use Rattle.whole_files.specs.lemmas.Answers.{err_answered, ok_answered}
use Rattle.whole_files.specs.lemmas.Rooms.{HoldsList, list_of, slices_of_plan}
use Rattle.whole_files.proofs.Fronts.{PutInto, Roomy, fronts, whole_plan}
use Rattle.whole_files.proofs.Writing.{never_second}

holds_any : (j : Job) → Accepted j → (l : ListSlices) → Roomy l → unless 11 (holds j l) ≡ 0
holds_any j a l h =
    let few = plan_rows_few j a in
    rw (
      le-leb (chunks j) (length l.marks) (omega (arith, a.chunks_in.high)),
      le-leb (length (plan_rows j)) (length l.slots) (omega arith),
      le-leb (length (plan_rows j)) (length l.chunks) (omega arith),
      le-leb (length (plan_rows j)) (length l.layers) (omega arith),
      le-leb (length (plan_rows j)) (length l.bytes) (omega arith),
    )

module _ (h : JobInput) where
  accepted : job_refusal h ≡ 0 → Accepted (job_in h)
  accepted z = ((input_iff h).0 z).1

  module _ (lent : ListSlices) (roomy : Roomy lent) where
    -- The slices hold any plan, so the planner's refusal is the job's.
    job_alone : plan_refusal h lent ≡ job_refusal h
    job_alone = never_second (job_refusal h) (unless 11 (holds (job_in h) lent)) (λ z. holds_any (job_in h) (accepted z) lent roomy)

    pub plan_refused : {new : ListSlices} (e : Refusal) → PlanOutput h lent (Err e) new → job_refusal h ≡ number_of e
    plan_refused e p = sym job_alone ∙ (err_answered (plan_refusal h lent) (number_of e) (plan_numbers (job_in h)) p.answer).0

    pub plan_made : (made : Planned) (room : ListRoom) → PlanOutput h lent (Ok made) (slices_of room.marks room.slots room.chunks room.layers room.bytes) →
        HoldsList (job_refusal h) (plan_of_job (job_in h)) (chunks (job_in h)) (Ok made.rows) room
    plan_made made room p =
        let j = job_in h in
        let known = ok_answered (plan_refusal h lent) made (plan_numbers j) p.answer in
        let z : job_refusal h ≡ 0 = sym job_alone ∙ known.0 in
        let put : PutInto (plan_refusal h lent) (plan_of_job j) lent room = record { marks_are = p.marks_are; slots_are = p.slots_are; chunks_are = p.chunks_are; layers_are = p.layers_are; bytes_are = p.bytes_are } in
        (z, fronts (plan_refusal h lent) (plan_of_job j) (chunks j) made.rows lent room known.0 (plan_marks_long j (accepted z)) (ap (λ (x : Planned). x.rows) known.1) put)

  -- The plan's slices are those of its file,
  file_same : plan_of (slices_of_plan (plan_of_job (job_in h))) ≡ plan_of_job (job_in h)
  file_same = let j = job_in h in rw (rows_again (plan_rows j))

  -- and no refusal is left but 11.
  written_refusal : (old : List ℕ) → job_refusal h ≡ 0 → write_refusal h (slices_of_plan (plan_of_job (job_in h))) old ≡ with_room (job_refusal h) (file_of (plan_of_job (job_in h))) old
  unfolding write_refusal write_rest
  written_refusal old z =
      let j = job_in h in
      let a = accepted z in
      let whole = (rows.whole_iff (chunks j) (marks_of j (plan j)) (map row_slot (plan_rows j)) (map row_chunk (plan_rows j)) (map row_layer (plan_rows j)) (map row_bytes (plan_rows j))).1 (whole_plan (chunks j) (plan_of_job j) (plan_marks_long j a)) in
      rw (z, file_same, whole, le-leb (length (file_of (plan_of_job j))) 65536 (omega (arith, plan_file_fits j a)))

  pub plan_written :
      (room : ListRoom) (rows : ℕ) (s : ListSlices) (old : List ℕ) (r : Result ℕ Refusal) (out : List ℕ) →
      HoldsList (job_refusal h) (plan_of_job (job_in h)) (chunks (job_in h)) (Ok rows) room → s ≡ list_of room (chunks (job_in h)) rows →
      PlanWritePromise h s old (by_number r) out → PlanOfJob h old r out
  plan_written room rows s old r out held e w =
      let v = subst (λ (x : ListSlices). PlanWritePromise h x old (by_number r) out) (e ∙ held.1) w in
      record { answer = rw (written_refusal old held.0, file_same) at v.answer; buffer = rw (written_refusal old held.0, file_same) at v.after }

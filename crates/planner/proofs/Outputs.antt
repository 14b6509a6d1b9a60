-- Laws on what the public call hands over. Assumes nothing.
use mathlib.Core.Path.{◌≡◌, refl, sym, ◌∙◌, ap, subst}
use mathlib.Core.Bool.{Bool, true, false}
use mathlib.Core.List.{List}
use mathlib.Core.Logic.{⊎_elim}
use Prim.Native.Nat.{ℕ, ◌≤◌, ◌<◌}
use native.Mathlib.Omega.{arith}
use lib.ListN.{length}
use lib.Dec.{eqb}
use borrow.Author.Tests.{eq-eqb, ne_eqb, le-leb, lt-leb}
use Rattle.theory_basics.specs.Refusals.{unless}
use Rattle.theory_basics.specs.lemmas.Refusals.{or_else_none, or_else_some}
use Rattle.theory_basics.specs.lemmas.Tests.{T_true, not_T_false, test}
use Rattle.job.specs.Job.{Job, Accepted, chunks, size}
use Rattle.job.specs.Input.{JobInput, job_in, job_refusal}
use Rattle.job.specs.Theorems.{input_accepted as accepted}
use Rattle.fetch.specs.Slices.{ListSlices, slices_of}
use Rattle.theory_plan.specs.Plan.{plan}
use Rattle.theory_plan.specs.Own.{own_list}
use Rattle.theory_plan.specs.Statement.{IsPlan}
use Rattle.theory_plan.specs.lemmas.Level.{count_carried}
use Rattle.theory_plan.specs.lemmas.Plan.{plan_choice, plan_fits}
use Rattle.theory_plan.specs.lemmas.Words.{accepted_sized}
use Rattle.theory_plan.proofs.Theorems.{best, elsewhere_iff, own_list_ascending, plan_carried, plan_exists, plan_unique}
use Rattle.theory_plan.proofs.PlanRows.{plan_rows_few}
use Rattle.theory_plan.proofs.Pictures.{most_pictures, plan_moore_hodgson}
use Rattle.core_decide.specs.lemmas.Decision.{Decides}
use Rattle.core_slices.specs.lemmas.Slices.{Result, rows_hold, Stands}
use Rattle.core_output.specs.declared.Output.{Output}
use Rattle.core_output.specs.lemmas.Writing.{Decided, WritePost, own_result}
use Rattle.core_output.proofs.Writing.{unlaid}
use Rattle.std.specs.Prelude.{Result as Answer, Ok, Err}
use Rattle.refusals.specs.declared.Refusal.{Refusal}
use Rattle.refusals.specs.declared.Refusal.TheVariants.{ShortBuffer}
use Rattle.refusals.specs.Numbers.{by_number, number_of}
use Rattle.refusals.specs.Laws.{number_above_0}
use Rattle.planner.specs.declared.Planned.{Planned}
use Rattle.planner.specs.Answer.{plan_rows, holds, plan_refusal, OwnListCarries, Pictures, PlanOutput, PlanPromise}
use Rattle.planner.specs.lemmas.Outputs.{Outputs, laid, short_refusal}
use Rattle.theory_sensitivity.proofs.Theorems.{steady}

-- ---- what is handed over, by the refusal

module _ (x : Result) {marks slots cs layers bytes : List ℕ} {r : Answer Planned Refusal} where
  pub over_refused : (refused k : ℕ) → refused ≡ k → (k ≡ 0 → ⊥) → by_number r ≡ Err k → Outputs refused x marks slots cs layers bytes r marks slots cs layers bytes
  over_refused refused k e o n =
      let g : eqb refused 0 ≡ false = ap (λ (n : ℕ). eqb n 0) e ∙ ne_eqb k 0 o in
      record {
        answer = n ∙ sym (rw (g, e));
        marks_are = sym (rw g);
        slots_are = sym (rw g);
        chunks_are = sym (rw g);
        layers_are = sym (rw g);
        bytes_are = sym (rw g);
      }

  pub over_given :
      (refused : ℕ) → refused ≡ 0 → {n : ℕ} {counts : List ℕ} → by_number r ≡ Ok (record { rows = n; counts = counts }) → {marks' slots' cs' layers' bytes' : List ℕ} →
      Stands x n counts marks slots cs layers bytes marks' slots' cs' layers' bytes' → Outputs refused x marks slots cs layers bytes r marks' slots' cs' layers' bytes'
  over_given refused e a s =
      let g : eqb refused 0 ≡ true = eq-eqb refused 0 e in
      record {
        answer = a ∙ rw (s.rows_are, s.counts_are) (sym (rw g));
        marks_are = s.marks_are ∙ sym (rw g);
        slots_are = s.slots_are ∙ sym (rw g);
        chunks_are = s.chunks_are ∙ sym (rw g);
        layers_are = s.layers_are ∙ sym (rw g);
        bytes_are = s.bytes_are ∙ sym (rw g);
      }

  -- Where the marks fit: the rows, or 11.
  pub over_fits :
      {n : ℕ} {counts : List ℕ} → rows_hold n slots cs layers bytes ≡ true → by_number r ≡ Ok (record { rows = n; counts = counts }) → {marks' slots' cs' layers' bytes' : List ℕ} →
      Stands x n counts marks slots cs layers bytes marks' slots' cs' layers' bytes' →
      Outputs (short_refusal x.rows slots cs layers bytes) x marks slots cs layers bytes r marks' slots' cs' layers' bytes'
  over_fits {n} h a s = over_given (short_refusal x.rows slots cs layers bytes) (ap (λ (m : ℕ). unless 11 (rows_hold m slots cs layers bytes)) (sym s.rows_are) ∙ rw h) a s

  pub over_short :
      {n : ℕ} → n ≡ length x.rows → rows_hold n slots cs layers bytes ≡ false → by_number r ≡ Err 11 →
      Outputs (short_refusal x.rows slots cs layers bytes) x marks slots cs layers bytes r marks slots cs layers bytes
  over_short {n} e h o =
      over_refused (short_refusal x.rows slots cs layers bytes) 11 (ap (λ (m : ℕ). unless 11 (rows_hold m slots cs layers bytes)) (sym e) ∙ rw h) (λ z. omega arith) o

-- What was laid, whole or not at all.
module _
    (x : Result) {marks slots cs layers bytes : List ℕ} {made : Output} {marks' slots' cs' layers' bytes' : List ℕ}
    (l : WritePost x marks slots cs layers bytes made marks' slots' cs' layers' bytes') where
  stands : made.whole ≡ true → Stands x made.rows made.counts marks slots cs layers bytes marks' slots' cs' layers' bytes'
  stands t =
      record {
        rows_are = l.rows;
        counts_are = l.counts;
        marks_are = l.marks_are ∙ rw t;
        slots_are = l.slots_are ∙ rw t;
        chunks_are = l.chunks_are ∙ rw t;
        layers_are = l.layers_are ∙ rw t;
        bytes_are = l.bytes_are ∙ rw t;
      }

  room : (v : Bool) → made.whole ≡ v → rows_hold made.rows slots cs layers bytes ≡ v
  room v t = ap (λ (n : ℕ). rows_hold n slots cs layers bytes) l.rows ∙ sym l.whole ∙ t

  pub over_laid :
      {r : Answer Planned Refusal} → by_number r ≡ laid made →
      Outputs (short_refusal x.rows slots cs layers bytes) x marks slots cs layers bytes r marks' slots' cs' layers' bytes'
  over_laid {r} a =
      ⊎_elim
      (λ t. let e = T_true made.whole t in over_fits x (room true e) (a ∙ rw e) (stands e))
      (λ t.
      let e = not_T_false made.whole t in
      unlaid l e (λ m s c y b. Outputs (short_refusal x.rows slots cs layers bytes) x marks slots cs layers bytes r m s c y b)
      (over_short x l.rows (room false e) (a ∙ rw e)))
      (test made.whole)

-- ---- so for the plan

-- What is handed over of it.
abbrev planned : Job → Result
planned j = own_result j (plan j)

module _ (h : JobInput) (marks slots cs layers bytes : List ℕ) where
  abbrev j : Job
  j = job_in h

  abbrev lent : ListSlices
  lent = slices_of marks slots cs layers bytes

  output_by :
      (refused : ℕ) → plan_refusal h lent ≡ refused → {r : Answer Planned Refusal} {marks' slots' cs' layers' bytes' : List ℕ} →
      Outputs refused (planned j) marks slots cs layers bytes r marks' slots' cs' layers' bytes' → PlanOutput h (slices_of marks slots cs layers bytes) r (slices_of marks' slots' cs' layers' bytes')
  output_by refused e {r} {marks'} {slots'} {cs'} {layers'} {bytes'} x =
      let y = subst (λ (k : ℕ). Outputs k (planned j) marks slots cs layers bytes r marks' slots' cs' layers' bytes') (sym e) x in
      record {
        answer = y.answer;
        marks_are = y.marks_are;
        slots_are = y.slots_are;
        chunks_are = y.chunks_are;
        layers_are = y.layers_are;
        bytes_are = y.bytes_are;
      }

  -- 5, 6, 18 or 7.
  pub refused_input : (e : Refusal) → number_of e ≡ job_refusal h → PlanOutput h (slices_of marks slots cs layers bytes) (Err e) (slices_of marks slots cs layers bytes)
  refused_input e is =
      let k = number_of e in
      let above : k ≡ 0 → ⊥ = λ z. omega (arith, number_above_0 e) in
      output_by k (or_else_some (job_refusal h) (unless 11 (holds j lent)) (λ z. above (is ∙ z)) ∙ sym is) (over_refused (planned j) k k refl above refl)

  -- 11.
  pub short_marks : job_refusal h ≡ 0 → length marks < chunks j → PlanOutput h (slices_of marks slots cs layers bytes) (Err ShortBuffer) (slices_of marks slots cs layers bytes)
  short_marks e f =
      output_by 11 (or_else_none (job_refusal h) (unless 11 (holds j lent)) e ∙ rw (lt-leb (chunks j) (length marks) f)) (over_refused (planned j) 11 11 refl (λ z. omega arith) refl)

  -- The marks fit: the rows say.
  pub fit_marks :
      job_refusal h ≡ 0 → chunks j ≤ length marks → {r : Answer Planned Refusal} {marks' slots' cs' layers' bytes' : List ℕ} →
      Outputs (short_refusal (plan_rows j) slots cs layers bytes) (planned j) marks slots cs layers bytes r marks' slots' cs' layers' bytes' →
      PlanOutput h (slices_of marks slots cs layers bytes) r (slices_of marks' slots' cs' layers' bytes')
  fit_marks e f =
      output_by (short_refusal (plan_rows j) slots cs layers bytes) (or_else_none (job_refusal h) (unless 11 (holds j lent)) e ∙ rw (le-leb (chunks j) (length marks) f))

  -- What was laid, whole or not at all.
  pub output_laid :
      job_refusal h ≡ 0 → chunks j ≤ length marks → {made : Output} {marks' slots' cs' layers' bytes' : List ℕ} →
      WritePost (planned j) marks slots cs layers bytes made marks' slots' cs' layers' bytes' →
      (r : Answer Planned Refusal) → by_number r ≡ laid made →
      PlanOutput h (slices_of marks slots cs layers bytes) r (slices_of marks' slots' cs' layers' bytes')
  output_laid z fit l r x = fit_marks z fit (over_laid (planned j) l x)

-- ---- what writing the plan asks for

module _ (h : JobInput) (z : job_refusal h ≡ 0) where
  ok_of : Accepted (job_in h)
  ok_of = accepted h z

  pub decided :
      (own : ℕ → ℕ → ℕ) → own ≡ size (job_in h) → {first : ℕ} {ids ready mark : List ℕ} → Decides (job_in h) (plan (job_in h)) first ids ready mark →
      Decided (chunks (job_in h)) (job_in h).forecast own first ids ready mark (job_in h) (plan (job_in h))
  decided own says d =
      record { accepted = ok_of; counted = refl; forecast_is = refl; sizes_are = says; choice = plan_choice (job_in h); fits = plan_fits (job_in h); tables = d }

-- ---- what holds of the plan

module _ (h : JobInput) (z : job_refusal h ≡ 0) where
  abbrev k : Job
  k = job_in h

  is_plan : IsPlan k (plan k)
  is_plan = plan_exists k (accepted h z)

  own_list_carries : OwnListCarries k (plan k)
  own_list_carries =
      let c = plan_carried k (accepted_sized k (accepted h z)) (plan k) is_plan in
      record {
        passes = c.0;
        in_order = c.1;
        counted = count_carried k (own_list k (plan k)) (plan k) c.2;
        ascending = own_list_ascending k (plan k);
        few_rows = plan_rows_few k (accepted h z);
      }

  pictures : Pictures k (plan k)
  pictures =
      let a = accepted h z in
      record {
        most = most_pictures k a (plan k) is_plan;
        equal_bases = λ equal. (elsewhere_iff k (λ w. w.1 equal) (plan k)).0 is_plan;
        either_way = λ all. plan_moore_hodgson k a all (plan k) is_plan;
      }

-- The rest of the promise needs no look at the code.
pub promise_of : {h : JobInput} {lent lent' : ListSlices} {r : Answer Planned Refusal} → PlanOutput h lent r lent' → PlanPromise h lent r lent'
promise_of {h} x =
    record {
      output = x;
      decided = is_plan h;
      only = λ z other p. plan_unique (job_in h) other (plan (job_in h)) p (is_plan h z);
      carried = own_list_carries h;
      pictures = pictures h;
      best = λ z equal. best (job_in h) (accepted h z) equal (plan (job_in h)) (is_plan h z);
      steady = λ z. steady (job_in h) (accepted h z);
    }

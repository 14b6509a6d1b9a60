-- Theorems. What holds of planning afresh as the desk calls it: the clauses `settled` and
-- `standing` of the call, and that the handed rows may come in any order.
use Rattle.std.specs.Prelude.{ℕ, ◌≡◌, cond, List, [], map, eqb, length, Result, Ok, Err}
use Rattle.std.proofs.Common.{sym, ◌∙◌, ap, ap₂, subst, ⊎_elim, eqb→eq}
use Rattle.theory_basics.specs.Lent.{lent_after, over}
use Rattle.theory_basics.specs.Refusals.{◌or_else◌, unless}
use Rattle.theory_basics.specs.lemmas.Refusals.{or_else_iff}
use Rattle.theory_basics.specs.lemmas.Tests.{not_T_false, test}
use Rattle.job.specs.Input.{JobInput, job_in, job_refusal}
use Rattle.job.specs.Theorems.{input_accepted}
use Rattle.job.specs.Job.{Accepted, Job, chunks}
use Rattle.fetch.specs.Input.{list_refusal}
use Rattle.fetch.specs.Rows.{Permuted, Row, row_bytes, row_chunk, row_layer, row_slot, rows_of}
use Rattle.fetch.proofs.Theorems.{verdict_from_iff}
use Rattle.fetch.specs.Slices.{ListSlices, room, slices_of}
use Rattle.theory_plan.specs.Statement.{Same, marks_of}
use Rattle.theory_plan.proofs.Theorems.{same_counts, same_marks}
use Rattle.refusals.specs.declared.Refusal.{Refusal}
use Rattle.refusals.specs.Numbers.{answered}
use Rattle.planner.specs.declared.Planned.{Planned}
use Rattle.theory_replan.proofs.Desk.{replans, standing_continues}
use Rattle.theory_replan.specs.Promised.{Continues}
use Rattle.theory_replan.specs.Refusal.{replan_refusal}
use Rattle.theory_replan.specs.Theorems.{order_free}
use Rattle.theory_replan.specs.lemmas.Standing.{own_rest_cong}
use Rattle.replan.specs.Answer.{ReplanOutput, ReplanInput, SettledAfresh, StandingGoesOn, fetched, replan_input, input_refusal, job_on, numbers_on, plan_afresh, refusal_on, rows_on}

-- ---- the clauses

-- The refusals of planning afresh are among those from the input.
pub afresh_none : (h : JobInput) (o : ReplanInput) → input_refusal h o ≡ 0 → (job_refusal h ≡ 0) × (replan_refusal (job_in h) o.from (fetched o) o.onward ≡ 0)
afresh_none h o z =
    let whole = list_refusal 0 [] o.slots o.chunks o.layers o.bytes in
    let afresh = replan_refusal (job_in h) o.from (fetched o) o.onward in
    let a = (or_else_iff (job_refusal h) (whole or_else afresh)).0 z in
    (a.0, ((or_else_iff whole afresh).0 a.1).1)

pub settled_afresh : (h : JobInput) (o : ReplanInput) → SettledAfresh h o
settled_afresh h o z =
    let n = afresh_none h o z in
    let r = replans (job_in h) (input_accepted h n.0) o.from (fetched o) o.onward n.1 in
    record { replans = r; passes = (verdict_from_iff (job_on h o) o.from _ _).1 r.carries.keeps }

pub standing_goes_on : (h : JobInput) (o : ReplanInput) → StandingGoesOn h o
standing_goes_on h o z q is lo hi same unchanged =
    let j = job_in h in
    let a : Accepted j = input_accepted h z in
    let on : Continues j q o.from (fetched o) o.onward =
    subst (Continues j q o.from (fetched o)) (sym unchanged) (standing_continues j a q is o.from lo hi (fetched o) same) in
    let d = (replans j a o.from (fetched o) o.onward on.accepted).settled in
    record { accepted = on.accepted; same = on.same (plan_afresh h o) d; rest = on.rest (plan_afresh h o) d }

-- ---- the handed rows in any order

-- The same answer to every call: the refusal, 11 too, the plan, the rows, and so whatever is handed
-- over.
pub record SameAnswer (h : JobInput) (a b : ReplanInput) : Type 0 where
  pub refused : (l : ListSlices) → refusal_on h a l ≡ refusal_on h b l
  pub plan : input_refusal h a ≡ 0 → Same (job_on h b) (plan_afresh h a) (plan_afresh h b)
  pub rows : input_refusal h a ≡ 0 → rows_on h a ≡ rows_on h b
  pub output :
      {marks slots chunks layers bytes : List ℕ} {r : Result Planned Refusal} {marks' slots' chunks' layers' bytes' : List ℕ} →
      ReplanOutput h a (slices_of marks slots chunks layers bytes) r (slices_of marks' slots' chunks' layers' bytes') →
      ReplanOutput h b (slices_of marks slots chunks layers bytes) r (slices_of marks' slots' chunks' layers' bytes')

-- What is given only if there is no refusal.
given_alike : {A : Type 0} (n : ℕ) (x y other : A) → (n ≡ 0 → x ≡ y) → cond (eqb n 0) x other ≡ cond (eqb n 0) y other
given_alike n x y other f =
    ⊎_elim
    (λ t. ap (λ z. cond (eqb n 0) z other) (f (eqb→eq n 0 t)))
    (λ t. rw (not_T_false (eqb n 0) t))
    (test (eqb n 0))

-- Rows handed whole, and the same in another order, with the same job, slot and forecast.
module _
    (h : JobInput) (from : ℕ) (onward ss cs ls bs ss' cs' ls' bs' : List ℕ)
    (whole : list_refusal 0 [] ss cs ls bs ≡ 0) (whole' : list_refusal 0 [] ss' cs' ls' bs' ≡ 0) (same : Permuted (rows_of ss cs ls bs) (rows_of ss' cs' ls' bs')) where
  abbrev a : ReplanInput
  a = replan_input from ss cs ls bs onward

  abbrev b : ReplanInput
  b = replan_input from ss' cs' ls' bs' onward

  abbrev k : Job
  k = job_on h a

  inputs : input_refusal h a ≡ input_refusal h b
  inputs =
      ap (λ (w : ℕ). job_refusal h or_else w or_else replan_refusal (job_in h) from (fetched a) onward) (whole ∙ sym whole')
      ∙ ap (λ (r : ℕ). job_refusal h or_else list_refusal 0 [] ss' cs' ls' bs' or_else r) ((order_free (job_in h) from (fetched a) (fetched b) same).refused onward)

  plans : input_refusal h a ≡ 0 → Same k (plan_afresh h a) (plan_afresh h b)
  plans z =
      (settled_afresh h b (sym inputs ∙ z)).replans.only (plan_afresh h a)
      ((order_free k from (fetched a) (fetched b) same).plan (plan_afresh h a) (settled_afresh h a z).replans.settled)

  rows_alike : input_refusal h a ≡ 0 → rows_on h a ≡ rows_on h b
  rows_alike z =
      (order_free k from (fetched a) (fetched b) same).rows (plan_afresh h a)
      ∙ own_rest_cong k from (fetched b) (plan_afresh h a) (plan_afresh h b) (plans z)

  numbers_alike : input_refusal h a ≡ 0 → numbers_on h a ≡ numbers_on h b
  numbers_alike z =
      ap₂ (λ (rows : List Row) (counts : List ℕ). record { rows = length rows; counts = counts }) (rows_alike z)
      (same_counts k (plan_afresh h a) (plan_afresh h b) (plans z))

  abbrev short : List Row → ListSlices → ℕ
  short rows l =
      unless 11 (room l (chunks (job_in h)) (length rows))

  refusals : (l : ListSlices) → refusal_on h a l ≡ refusal_on h b l
  refusals l =
      given_alike (input_refusal h a) (short (rows_on h a) l) (short (rows_on h b) l) (input_refusal h a) (λ z. ap (λ (m : List Row). short m l) (rows_alike z))
      ∙ ap (λ (n : ℕ). n or_else short (rows_on h b) l) inputs

  none : (l : ListSlices) → refusal_on h a l ≡ 0 → input_refusal h a ≡ 0
  none l z = ((or_else_iff (input_refusal h a) (short (rows_on h a) l)).0 z).0

  slice : (l : ListSlices) (p q old : List ℕ) → (input_refusal h a ≡ 0 → p ≡ q) → lent_after (refusal_on h a l) p old ≡ lent_after (refusal_on h b l) q old
  slice l p q old f =
      given_alike (refusal_on h a l) (over p old) (over q old) old (λ z. ap (λ (m : List ℕ). over m old) (f (none l z)))
      ∙ ap (λ (m : ℕ). lent_after m q old) (refusals l)

  column : (l : ListSlices) (g : Row → ℕ) (old : List ℕ) → lent_after (refusal_on h a l) (map g (rows_on h a)) old ≡ lent_after (refusal_on h b l) (map g (rows_on h b)) old
  column l g old = slice l (map g (rows_on h a)) (map g (rows_on h b)) old (λ z. ap (map g) (rows_alike z))

  -- "Rows may repeat and come in any order."
  pub any_order : SameAnswer h (replan_input from ss cs ls bs onward) (replan_input from ss' cs' ls' bs' onward)
  any_order =
      record {
        refused = refusals;
        plan = plans;
        rows = rows_alike;
        output = λ {marks} {slots} {chunks = chs} {layers} {bytes} x.
            let l = slices_of marks slots chs layers bytes in
            let n = refusal_on h a l in
            record {
              answer =
                  x.answer
                  ∙ given_alike n (Ok (numbers_on h a)) (Ok (numbers_on h b)) (Err n) (λ z. ap Ok (numbers_alike (none l z)))
                  ∙ ap (λ (m : ℕ). answered m (numbers_on h b)) (refusals l);
              marks_are = x.marks_are ∙ slice l (marks_of k (plan_afresh h a)) (marks_of k (plan_afresh h b)) marks (λ z. same_marks k (plan_afresh h a) (plan_afresh h b) (plans z));
              slots_are = x.slots_are ∙ column l row_slot slots;
              chunks_are = x.chunks_are ∙ column l row_chunk chs;
              layers_are = x.layers_are ∙ column l row_layer layers;
              bytes_are = x.bytes_are ∙ column l row_bytes bytes;
            };
      }

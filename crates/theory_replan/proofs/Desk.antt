-- Theorems. Planning afresh as the desk calls it: a job with its own forecast, the slot p, the rows
-- fetched and the forecast from p on.
use Rattle.std.specs.Prelude.{ℕ, zero, suc, ◌+◌, ◌-◌, ◌≤◌, ◌<◌, ◌≡◌, ◌&&◌, List, [], ◌∷◌, ◌++◌, drop, length, T, eqb, leb, ltb}
use Rattle.std.proofs.Common.{sym, subst, ⊎_elim, arith, length-drop, eqb→eq, lt→ltb}
use Rattle.theory_basics.specs.Tests.{All}
use Rattle.theory_basics.specs.lemmas.Tables.{all_drop}
use Rattle.theory_basics.specs.lemmas.Tests.{and_T, at_row, in_left, T_and}
use Rattle.job.specs.Job.{Accepted, due, Job, last_slot, Layer, Within}
use Rattle.fetch.specs.Rows.{begun, bytes_of_layer, Carried, held, Permuted, Row}
use Rattle.fetch.specs.lemmas.Rows.{some_row}
use Rattle.theory_plan.specs.Own.{Ascending, own_list}
use Rattle.theory_plan.specs.Statement.{ByMooreHodgson, IsPlan, Same, SettledByTrials}
use Rattle.theory_plan.proofs.Theorems.{elsewhere_iff}
use Rattle.theory_plan.specs.lemmas.Words.{accepted_sized}
use Rattle.theory_replan.specs.Plan.{replan}
use Rattle.theory_replan.specs.Own.{own_rest}
use Rattle.theory_replan.specs.Promised.{Continues, GivenUp, Replans}
use Rattle.theory_replan.specs.Refusal.{joined_accepted, joined_unchanged, replan_refusal_iff, Replannable, replan_refusal}
use Rattle.theory_replan.specs.Statement.{Acceptable, IsReplan, joined, rows_before, rows_from}
use Rattle.theory_replan.specs.Theorems.{replan_carries, replan_exists, replan_unique}
use Rattle.theory_replan.specs.lemmas.AnyOrder.{acceptable_permuted, permuted_back, standing_any_order}
use Rattle.theory_replan.specs.lemmas.Decision.{rest_given_up}
use Rattle.theory_replan.specs.lemmas.Held.{begun_row}
use Rattle.theory_replan.specs.lemmas.Plan.{is_replan_fits}
use Rattle.theory_replan.specs.lemmas.Shape.{own_rest_ascending, own_rest_rows}
use Rattle.theory_replan.specs.lemmas.Standing.{standing_plan}

given_up_at :
    (j : Job) → Accepted j → (p : ℕ) (fetched : List Row) → Acceptable j p fetched → (plan : ℕ → ℕ) → IsReplan j p fetched plan →
    (i n : ℕ) → Layer j i n → plan i ≤ n → 1 ≤ bytes_of_layer fetched i n → GivenUp j p fetched (own_rest j p fetched plan) i n
given_up_at j a p fetched ok plan d i n r h b =
    let sized = accepted_sized j a in
    let rest = own_rest j p fetched plan in
    let g = rest_given_up j sized p fetched ok plan d.choice (is_replan_fits j p fetched ok sized plan d) i n r h in
    record {
      spent = g.0;
      not_carried = λ c. omega (arith, g.0, g.1, c);
      held_on = λ t u v.
          let x = some_row (λ y. eqb y.chunk i && eqb y.layer n) fetched b in
          let k = and_T (eqb x.row.chunk i) (eqb x.row.layer n) x.passes in
          let early = at_row (λ y. y.slot < p) x.listed ok.before in
          T_and (begun (fetched ++ rest) t i) (ltb t (due j i)) (begun_row (fetched ++ rest) t i x.row (in_left fetched rest x.listed) (eqb→eq _ _ k.0) (omega arith)) (lt→ltb t (due j i) v);
    }

pub replans :
    (j : Job) → Accepted j → (p : ℕ) (fetched : List Row) (onward : List ℕ) → replan_refusal j p fetched onward ≡ 0 →
    let k = joined j p onward in Replans k p fetched (replan k p fetched)
replans j a p fetched onward e =
    let k = joined j p onward in
    let r = (replan_refusal_iff j p fetched onward).0 e in
    let ok = r.acceptable in
    let acc = joined_accepted j a p fetched onward r in
    let d = replan_exists k acc p fetched ok in
    record {
      settled = d;
      only = λ x dx. replan_unique k p fetched ok x (replan k p fetched) dx d;
      carries = replan_carries k acc p fetched ok (replan k p fetched) d;
      ascending = own_rest_ascending k p fetched (replan k p fetched) ok.p_high;
      few_rows = own_rest_rows k acc p fetched ok (replan k p fetched) d;
      given_up = given_up_at k acc p fetched ok (replan k p fetched) d;
    }

-- ---- the standing plan

-- The rest of a plan settled in document 01's way, in whatever order its rows are fetched.
pub standing_continues :
    (j : Job) → Accepted j → (q : ℕ → ℕ) → SettledByTrials j q → (p : ℕ) → 1 ≤ p → p ≤ last_slot j → (fetched : List Row) →
    Permuted fetched (rows_before p (own_list j q)) → Continues j q p fetched (drop (p - 1) j.forecast)
standing_continues j a q plan p lo hi fetched h =
    let g = standing_plan j a q plan p lo hi in
    let onward = drop (p - 1) j.forecast in
    let u : j ≡ joined j p onward = sym (joined_unchanged j p) in
    record {
      accepted =
          (replan_refusal_iff j p fetched onward).1
          (record {
            slots_in = omega (arith, length-drop (p - 1) j.forecast, a.slots_in);
            onward_in = all_drop (Within 0 16777216) (p - 1) j.forecast a.forecast_in_lem;
            acceptable = subst (λ (k : Job). Acceptable k p fetched) u (acceptable_permuted j (permuted_back h) p g.acceptable);
          });
      same = λ x. subst (λ (k : Job). IsReplan k p fetched x → Same j x q) u (λ d. (standing_any_order j a q plan p lo hi fetched h x d).1);
      rest = λ x.
          subst (λ (k : Job). IsReplan k p fetched x → own_rest k p fetched x ≡ rows_from p (own_list j q)) u
          (λ d. (standing_any_order j a q plan p lo hi fetched h x d).2);
    }

-- The plan that the planner hands over was settled so unless request 9 settled its bases.
pub plan_continues :
    (j : Job) → Accepted j → (ByMooreHodgson j → ⊥) → (q : ℕ → ℕ) → IsPlan j q → (p : ℕ) → 1 ≤ p → p ≤ last_slot j → (fetched : List Row) →
    Permuted fetched (rows_before p (own_list j q)) → Continues j q p fetched (drop (p - 1) j.forecast)
plan_continues j a other q is = standing_continues j a q ((elsewhere_iff j other q).0 is)

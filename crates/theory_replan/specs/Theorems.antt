-- Theorems. What Statement states of planning afresh, proved: the decision, that there is exactly
-- one plan made afresh, that the fetched rows with the own rows from p on pass the second call with
-- its marks, in playing order, and carry exactly it, that the fetched rows may come in any order,
-- and that from slot 1 it is the whole plan. Desk says the same as the desk calls it, and that a
-- standing plan goes on.
use Rattle.std.specs.Prelude.{ℕ, ◌≤◌, ◌<◌, ◌≡◌, List, [], ◌++◌, ◌↔◌, T}
use Rattle.std.proofs.Common.{◌∙◌, subst, inl, ⊎_elim, arith}
use Rattle.theory_basics.specs.Tests.{All}
use Rattle.theory_basics.specs.lemmas.Tests.{all_map}
use Rattle.job.specs.Job.{Accepted, Job, Layer, due, last_slot, layers}
use Rattle.fetch.specs.Rows.{Carried, Permuted, Row, layer_count}
use Rattle.fetch.specs.Rules.{RowInRange, PlayingOrder}
use Rattle.fetch.specs.RulesFrom.{KeepsFrom}
use Rattle.theory_plan.specs.Own.{own_list}
use Rattle.theory_plan.specs.Statement.{CarriesExactly, Choice, SettledByTrials, Same, count_of, marks_of}
use Rattle.theory_plan.proofs.Theorems.{trials_carried}
use Rattle.theory_plan.specs.lemmas.Level.{count_carried}
use Rattle.theory_plan.specs.lemmas.Words.{accepted_sized}
use Rattle.theory_replan.specs.Own.{own_rest}
use Rattle.theory_replan.specs.Plan.{fits_from, replan, tried_from}
use Rattle.theory_replan.specs.Promised.{CarriesAfresh}
use Rattle.theory_replan.specs.Refusal.{replan_refusal}
use Rattle.theory_replan.specs.Statement.{Acceptable, CanCarryFrom, IsReplan, rows_before, rows_from, TrialFrom}
use Rattle.theory_replan.specs.lemmas.AnyOrder.{refusal_order_free, replan_order_free, rest_order_free}
use Rattle.theory_replan.specs.lemmas.Decision.{can_carry_from_iff, rest_exactly, rest_in_order, rest_keeps, rest_later}
use Rattle.theory_replan.specs.lemmas.Plan.{fits_from_iff, is_replan_fits, replan_is_replan, replans_agree}
use Rattle.theory_replan.specs.lemmas.Standing.{before_all, from_all, standing_plan}
use Rattle.theory_replan.specs.lemmas.Tried.{trial_from_iff}

-- ---- the decision

-- Some list that begins with the rows fetched carries exactly the choice, if and only if the
-- computed test holds.
pub decision_from :
    (j : Job) → Accepted j → (p : ℕ) (fetched : List Row) → Acceptable j p fetched → (choice : ℕ → ℕ) → Choice j choice →
    CanCarryFrom j p fetched choice ↔ T (fits_from j p fetched choice)
decision_from j a p fetched ok lv c =
    let d = can_carry_from_iff j (accepted_sized j a) p fetched ok lv c in
    let t = fits_from_iff j p fetched lv in
    (λ s. t.1 (d.0 s), λ u. d.1 (t.0 u))

-- The layers that a trial asks about (`TrialFrom`) are those of the choice that is computed, where
-- the layer tried is not whole before p.
pub tried_from_is_trial :
    (j : Job) (p : ℕ) (fetched : List Row) → Acceptable j p fetched → (plan : ℕ → ℕ) (n i : ℕ) → Layer j i n → (Carried j fetched i n → ⊥) →
    n ≤ plan i → (k m : ℕ) → Layer j k m → (m < tried_from j fetched plan n i k) ↔ TrialFrom j fetched plan n i k m
tried_from_is_trial j p fetched ok = trial_from_iff j fetched ok.lower

-- ---- exactly one plan made afresh

pub replan_exists : (j : Job) → Accepted j → (p : ℕ) (fetched : List Row) → Acceptable j p fetched → IsReplan j p fetched (replan j p fetched)
replan_exists j a p fetched ok = replan_is_replan j p fetched ok (accepted_sized j a)

pub replan_unique :
    (j : Job) (p : ℕ) (fetched : List Row) → Acceptable j p fetched → (a b : ℕ → ℕ) → IsReplan j p fetched a → IsReplan j p fetched b → Same j a b
replan_unique j p fetched ok = replans_agree j p fetched ok

-- "Layers whole before p are carried."
pub whole_are_carried :
    (j : Job) (p : ℕ) (fetched : List Row) (plan : ℕ → ℕ) → IsReplan j p fetched plan → (i n : ℕ) → Layer j i n → Carried j fetched i n → n < plan i
whole_are_carried j p fetched plan d i n r c = (d.decided i n r).1 (inl c)

-- "Chunks due before p are settled by what they have."
pub due_before_by_what_they_have :
    (j : Job) (p : ℕ) (fetched : List Row) (plan : ℕ → ℕ) → IsReplan j p fetched plan → (i n : ℕ) → Layer j i n → due j i < p →
    (n < plan i) ↔ Carried j fetched i n
due_before_by_what_they_have j p fetched plan d i n r h =
    (λ l. ⊎_elim (λ c. c) (λ u. absurd (omega (arith, u.0))) ((d.decided i n r).0 l), λ c. (d.decided i n r).1 (inl c))

-- ---- the rows

-- "only the rows from p on"; "together with the handed rows they pass that call", in playing order,
-- and carry exactly the plan.
pub replan_carries :
    (j : Job) → Accepted j → (p : ℕ) (fetched : List Row) → Acceptable j p fetched → (plan : ℕ → ℕ) → IsReplan j p fetched plan →
    CarriesAfresh j p fetched plan (own_rest j p fetched plan)
replan_carries j a p fetched ok plan d =
    let sized = accepted_sized j a in
    let f = is_replan_fits j p fetched ok sized plan d in
    record {
      later = rest_later j sized p fetched ok plan d.choice f;
      keeps = rest_keeps j sized p fetched ok plan d.choice f;
      in_order = rest_in_order j sized p fetched ok plan d.choice f;
      exactly = rest_exactly j sized p fetched ok plan d.choice f;
      counted = count_carried j (fetched ++ own_rest j p fetched plan) plan (rest_exactly j sized p fetched ok plan d.choice f);
    }

-- ---- the fetched rows in any order

-- "Rows may repeat and come in any order": the same refusal, the same plan and the same rows.
pub record OrderFree (j : Job) (p : ℕ) (a b : List Row) : Type 0 where
  pub refused : (onward : List ℕ) → replan_refusal j p a onward ≡ replan_refusal j p b onward
  pub plan : (q : ℕ → ℕ) → IsReplan j p a q → IsReplan j p b q
  pub rows : (q : ℕ → ℕ) → own_rest j p a q ≡ own_rest j p b q

pub order_free : (j : Job) (p : ℕ) (a b : List Row) → Permuted a b → OrderFree j p a b
order_free j p a b h =
    record { refused = λ onward. refusal_order_free j p onward h; plan = replan_order_free j p h; rows = rest_order_free j h p }

-- ---- from the start

-- At slot 1, with no rows, planning afresh is document 01's way by itself: the same choice and the
-- same list.
pub record FromTheStart (j : Job) (q : ℕ → ℕ) : Type 0 where
  pub acceptable : Acceptable j 1 []
  pub again : IsReplan j 1 [] q
  pub only : (plan : ℕ → ℕ) → IsReplan j 1 [] plan → Same j plan q
  pub rows : (plan : ℕ → ℕ) → IsReplan j 1 [] plan → own_rest j 1 [] plan ≡ own_list j q

pub from_the_start : (j : Job) → Accepted j → (q : ℕ → ℕ) → SettledByTrials j q → FromTheStart j q
from_the_start j a q is =
    let last : 1 ≤ last_slot j = omega (arith, a.delay_in.low) in
    let g = standing_plan j a q is 1 (omega arith) last in
    let own = own_list j q in
    let all : All (λ x. 1 ≤ x.slot) own = all_map (RowInRange j) (λ x. 1 ≤ x.slot) own (λ x r. r.slot_low) (trials_carried j (accepted_sized j a) q is).0.in_range_lem in
    let none : rows_before 1 own ≡ [] = before_all 1 [] own tt all in
    let every : rows_from 1 own ≡ own = from_all 1 [] own tt all in
    record {
      acceptable = subst (Acceptable j 1) none g.acceptable;
      again = subst (λ (h : List Row). IsReplan j 1 h q) none g.again;
      only = λ x. subst (λ (h : List Row). IsReplan j 1 h x → Same j x q) none (g.only x);
      rows = λ x. subst (λ (h : List Row). IsReplan j 1 h x → own_rest j 1 h x ≡ own) none (λ d. g.rest x d ∙ every);
    }

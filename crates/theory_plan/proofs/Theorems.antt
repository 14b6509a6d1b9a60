-- Theorems. What Statement states, proved: the decision, that there is exactly one plan, the shape
-- of its own list, document 01's way by itself, and demand 3. What request 9 says of bases stands
-- in Pictures.
use Rattle.std.specs.Prelude.{ℕ, zero, suc, ◌+◌, ◌≤◌, ◌<◌, ◌≡◌, List, ◌↔◌, length, T, ltb}
use Rattle.std.proofs.Common.{ap, subst, sym, ⊎_elim, arith, ltb→lt, nltb→le}
use Rattle.std.proofs.Math.Dec.{not_T}
use Rattle.theory_basics.specs.lemmas.Lists.{up_to_cong, length_up_to}
use Rattle.theory_basics.specs.lemmas.Tests.{test}
use Rattle.fetch.specs.Rows.{Row, layer_count, mark_byte, marks_given}
use Rattle.fetch.specs.Rules.{Keeps, Passes, PlayingOrder}
use Rattle.fetch.specs.Verdict.{verdict}
use Rattle.fetch.proofs.Theorems.{verdict_iff}
use Rattle.job.specs.Job.{Accepted, EqualBases, EqualChunks, Job, Layer, chunks, layers, size}
use Rattle.job.specs.Uneven.{equal_chunks_bases}
use Rattle.theory_plan.proofs.Best.{by_trials_fits, first_difference_lem, is_plan_fits, most_bases_lem, most_of_layer_lem}
use Rattle.theory_plan.specs.Statement.{Best, ByMooreHodgson, CanCarry, CarriesExactly, Choice, IsPlan, Same, SettledByTrials, Settles, Trial, count_of, counts_of, marks_of}
use Rattle.theory_plan.specs.lemmas.Choice.{can_carry_fits, can_carry_iff_fits, fits_can_carry, own, own_exactly, own_in_order, own_passes}
use Rattle.theory_plan.specs.lemmas.Level.{count_carried, keeps_marks}
use Rattle.theory_basics.specs.lemmas.Ranges.{count_cong, count_none}
use Rattle.theory_plan.specs.Own.{Ascending, own_list}
use Rattle.theory_plan.proofs.Shape.{own_ascending, own_few_rows}
use Rattle.theory_plan.proofs.OwnFill.{own_list_is}
use Rattle.theory_plan.specs.Plan.{fits, plan, plan_by_trials, tried}
use Rattle.theory_plan.specs.lemmas.Plan.{fits_iff, plan_is_plan, trials_settled}
use Rattle.theory_plan.specs.lemmas.Tried.{trial_iff}
use Rattle.theory_plan.specs.lemmas.Unique.{own_list_cong, plans_agree, trials_agree}
use Rattle.theory_plan.specs.lemmas.Words.{Sized, accepted_sized, layer_of}

-- "A fetch list, of any number of rows, passes if its verdict is 0", with the marks its rows give.
pub passes_iff : (j : Job) (rows : List Row) → (verdict j (marks_given j rows) rows ≡ 0) ↔ Passes j rows
passes_iff j rows = verdict_iff j (marks_given j rows) rows

-- ---- the decision

-- "some list in playing order passes that carries" exactly the choice, if and only if the computed
-- test holds.
pub decision : (j : Job) → Sized j → (choice : ℕ → ℕ) → Choice j choice → CanCarry j choice ↔ T (fits j choice)
decision j sized lv c =
    let a = can_carry_iff_fits j sized lv c in
    let b = fits_iff j lv in
    (λ s. b.1 (a.0 s), λ t. a.1 (b.0 t))

-- The layers that a trial asks about (`Trial`) are those of the choice that is computed.
pub tried_is_trial :
    (plan : ℕ → ℕ) (n i : ℕ) → n ≤ plan i → (k m : ℕ) → (m < tried plan n i k) ↔ Trial plan n i k m
tried_is_trial = trial_iff

-- The list with the choice's marks passes, is in playing order and carries the choice and no other
-- layers.
abbrev pub CarriesWith : Job → (ℕ → ℕ) → List Row → Type 0
CarriesWith j choice rows = Keeps j (marks_of j choice) rows × PlayingOrder j rows × CarriesExactly j rows choice

-- The own list of a choice that can be carried does.
pub own_carries : (j : Job) → Sized j → (choice : ℕ → ℕ) → Choice j choice → CanCarry j choice → CarriesWith j choice (own_list j choice)
unfolding own
own_carries j sized lv c s =
    let f = can_carry_fits j sized lv c s in
    let e = own_exactly j sized lv c f in
    subst (CarriesWith j lv) (sym (own_list_is j lv)) (keeps_marks j (own j lv) lv e (own_passes j sized lv c f), own_in_order j sized lv c f, e)

-- ---- exactly one plan

-- Demand 2: "The plan carries a layer of a chunk if and only if, beside the layers already settled,
-- some fetch list in playing order still keeps them all"; of bases, where request 9 does not settle
-- them. The computed plan is such a plan.
pub plan_exists : (j : Job) → Accepted j → IsPlan j (plan j)
plan_exists j a = plan_is_plan j (accepted_sized j a) a.layers_in.low

-- Any two plans carry the same layers of every chunk of the job,
pub plan_unique : (j : Job) (p q : ℕ → ℕ) → IsPlan j p → IsPlan j q → Same j p q
plan_unique = plans_agree

-- and choices that do have the same marks, the same counts and the same own list.
pub same_marks : (j : Job) (p q : ℕ → ℕ) → Same j p q → marks_of j p ≡ marks_of j q
same_marks j p q e = up_to_cong _ _ (chunks j) (λ k h. ap (λ (m : ℕ). mark_byte (λ n. ltb n m) (layers j)) (e (k + 1) (omega arith) (omega arith)))

pub same_counts : (j : Job) (p q : ℕ → ℕ) → Same j p q → counts_of j p ≡ counts_of j q
same_counts j p q e =
    up_to_cong (count_of j p) (count_of j q) 4 (λ n h. count_cong (λ i. ltb n (p i)) (λ i. ltb n (q i)) (chunks j) (λ i u v. ap (ltb n) (e i u v)))

pub plan_marks_unique : (j : Job) (p q : ℕ → ℕ) → IsPlan j p → IsPlan j q → marks_of j p ≡ marks_of j q
plan_marks_unique j p q dp dq = same_marks j p q (plans_agree j p q dp dq)

pub plan_counts_unique : (j : Job) (p q : ℕ → ℕ) → IsPlan j p → IsPlan j q → counts_of j p ≡ counts_of j q
plan_counts_unique j p q dp dq = same_counts j p q (plans_agree j p q dp dq)

pub plan_rows_unique : (j : Job) (p q : ℕ → ℕ) → IsPlan j p → IsPlan j q → own_list j p ≡ own_list j q
plan_rows_unique j p q dp dq = own_list_cong j p q (plans_agree j p q dp dq)

-- The plan can be carried, and its own list carries it.
pub plan_carried : (j : Job) → Sized j → (p : ℕ → ℕ) → IsPlan j p → CarriesWith j p (own_list j p)
plan_carried j sized p dec = own_carries j sized p dec.choice (fits_can_carry j sized p dec.choice (is_plan_fits j sized p dec))

-- "0 for absent layers".
pub absent_count : (j : Job) (choice : ℕ → ℕ) → Choice j choice → (n : ℕ) → layers j ≤ n → count_of j choice n ≡ 0
absent_count j lv c n h =
    count_none (λ i. ltb n (lv i)) (chunks j) (λ i u v. not_T (ltb n (lv i)) (λ t. omega (arith, ltb→lt n (lv i) t, c i u v)))

-- A choice has a mark for each chunk.
pub marks_long : (j : Job) (choice : ℕ → ℕ) → length (marks_of j choice) ≡ chunks j
marks_long j choice = length_up_to (λ k. mark_byte (λ n. ltb n (choice (k + 1))) (layers j)) (chunks j)

-- ---- the own list

-- "One row per slot, chunk and layer", and the rows stand by slot, chunk, layer: of any choice.
pub own_list_ascending : (j : Job) (choice : ℕ → ℕ) → Ascending (own_list j choice)
own_list_ascending = own_ascending

-- "It has at most 5,599 rows."
pub own_list_rows : (j : Job) → Accepted j → (choice : ℕ → ℕ) → Choice j choice → length (own_list j choice) ≤ 5599
own_list_rows = own_few_rows

-- Of an accepted job's plan: it keeps rules 1 to 7 and has no more rows.
pub plan_keeps : (j : Job) → Accepted j → Keeps j (marks_of j (plan j)) (own_list j (plan j))
plan_keeps j a = (plan_carried j (accepted_sized j a) (plan j) (plan_exists j a)).0

-- ---- document 01's way by itself

-- It too settles exactly one choice,
pub trials_exist : (j : Job) → Accepted j → SettledByTrials j (plan_by_trials j)
trials_exist j a = trials_settled j (accepted_sized j a)

pub trials_unique : (j : Job) (p q : ℕ → ℕ) → SettledByTrials j p → SettledByTrials j q → Same j p q
trials_unique = trials_agree

-- whose own list carries it,
pub trials_carried : (j : Job) → Sized j → (p : ℕ → ℕ) → SettledByTrials j p → CarriesWith j p (own_list j p)
trials_carried j sized p dec = own_carries j sized p dec.choice (fits_can_carry j sized p dec.choice (by_trials_fits j sized p dec))

-- which is the plan wherever request 9 does not settle the bases;
pub elsewhere_iff : (j : Job) → (ByMooreHodgson j → ⊥) → (p : ℕ → ℕ) → IsPlan j p ↔ SettledByTrials j p
elsewhere_iff j other p = (
  λ d. record { choice = d.choice; decided = by_layer d },
  λ d. record { choice = d.choice; moore_hodgson_lem = λ w. absurd (other w); elsewhere = λ n. d.decided 0; upper = λ n. d.decided (suc n) },
) where
  by_layer : IsPlan j p → (n : ℕ) → Settles j p n
  by_layer d zero = d.elsewhere other
  by_layer d (suc n) = d.upper n

-- so where base sizes do not vary, as in equal chunks, it always is.
pub equal_plan_iff : (j : Job) → EqualBases j → (p : ℕ → ℕ) → IsPlan j p ↔ SettledByTrials j p
equal_plan_iff j equal p = elsewhere_iff j (λ w. w.1 equal) p

-- ---- demand 3

-- "Take any accepted job of equal chunks, whatever its layer sizes, forecast, deadlines and buffer
-- limit." Best has its sentences.
pub best : (j : Job) → Accepted j → EqualChunks j → (p : ℕ → ℕ) → IsPlan j p → Best j p (own_list j p)
best j a equal p is =
    let sized = accepted_sized j a in
    let own = plan_carried j sized p is in
    let dec = (equal_plan_iff j (equal_chunks_bases j a.layers_in.low equal) p).0 is in
    let z : ℕ → ℕ = size j 1 in
    let one : (i n : ℕ) → Layer j i n → size j i n ≡ z n = λ i n r. equal i 1 n r (layer_of j 1 n (omega arith) a.chunks_in.low r.layer_in) in
    record {
      passes = own.0;
      in_order = own.1;
      counted = count_carried j (own_list j p) p own.2;
      most_bases = most_bases_lem j sized p dec z one a.layers_in.low;
      most_of_layer = λ n h other ok o. most_of_layer_lem j sized p dec z one other ok o n h;
      first_difference = λ w other ok n h same differ.
          let l = first_difference_lem j sized p dec z one w other ok n h same in
          ⊎_elim
          (λ t. ltb→lt (layer_count j other n) (count_of j p n) t)
          (λ t. absurd (differ (omega (arith, nltb→le (layer_count j other n) (count_of j p n) t))))
          (test (ltb (layer_count j other n) (count_of j p n)));
    }

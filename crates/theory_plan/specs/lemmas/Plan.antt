-- Lemmas. The plan computed: the trials in document 01's order, on any bases, each decided by
-- whether the choice fits; and that the computed plan is a plan in the sense of Statement. Sections
-- 1 and 3 of the argument.
use Rattle.std.specs.Prelude.{ℕ, zero, suc, ◌+◌, ◌-◌, ◌≤◌, ◌<◌, min, ◌≡◌, refl, Bool, true, false, not, cond, List, [], ◌⊎◌, ◌↔◌, T, leb, ltb, eqb}
use Rattle.std.proofs.Common.{sym, ap, ◌∙◌, subst, inr, ⊎_elim, arith, eq-eqb, T_not, leb→le, eqb→eq, le→leb}
use Rattle.std.proofs.Math.Dec.{not_T}
use Rattle.theory_basics.specs.Sums.{sum}
use Rattle.theory_basics.specs.Tests.{all_to}
use Rattle.theory_basics.specs.lemmas.Tests.{T_and_iff, T_true, all_to_iff, by_cond, eqb_iff, leb_iff, not_T_false, same_test, test}
use Rattle.job.specs.Job.{EqualBases, Job, Layer, Within, chunks, due, held_most, layers, size}
use Rattle.theory_plan.specs.Bases.{base_size, is_kept}
use Rattle.theory_plan.specs.lemmas.Choice.{Fits, can_carry_iff_fits}
use Rattle.theory_plan.specs.Statement.{BasesMooreHodgson, ByMooreHodgson, CanCarry, Choice, IsPlan, Same, SettledByTrials, Settles}
use Rattle.theory_plan.specs.Plan.{after, bases_tried, bases_moore_hodgson, by_moore_hodgson, bytes, equal_bases, fits, kept, picked, plan, plan_by_trials, plan_on, plan_to, sweep, fitting}
use Rattle.theory_plan.specs.lemmas.Kept.{feas_picked, picked_cong}
use Rattle.theory_plan.specs.lemmas.Need.{Feas, feas_iff}
pub use Rattle.theory_plan.specs.Plan.{settled, tried}
use Rattle.theory_plan.specs.lemmas.Tried.{settles_tried_iff}
use Rattle.theory_plan.specs.lemmas.MooreHodgson.{moore_hodgson_fits}
use Rattle.theory_plan.specs.lemmas.Words.{Sized, layer_of}
use Rattle.theory_plan.specs.lemmas.Sweep.{sweep_grown, sweep_holds, taken_iff, tried_on}

-- ---- how it is computed

pub fits_iff : (j : Job) (lv : ℕ → ℕ) → T (fits j lv) ↔ Fits j lv
unfolding fits
fits_iff j lv = feas_iff (bytes j lv) (due j) (after j) (held_most j) (kept j lv)

-- ---- whether a choice fits depends on its values at the chunks alone

pub fits_cong : (j : Job) (p q : ℕ → ℕ) → Same j p q → Fits j p → Fits j q
fits_cong j p q e f =
    let s = picked_cong (λ i. leb 1 (p i)) (λ i. leb 1 (q i)) 0 (chunks j) (λ i u v. ap (leb 1) (e i u (omega arith))) in
    feas_picked (bytes j q) (bytes j p) (due j) (after j) (held_most j) (λ i. leb 1 (q i)) 0 (chunks j)
    (λ i u v t. omega (arith, ap (sum (size j i)) (e i u (omega arith))))
    (subst (λ (ks : List ℕ). Feas (bytes j p) (due j) (after j) (held_most j) ks) s f)

-- ---- the choices that the trials make fit

sweep_fits : (j : Job) (n : ℕ) (p : ℕ → ℕ) → Fits j p → Fits j (sweep (fitting j) n 0 (chunks j) p)
sweep_fits j n p f = sweep_holds (fitting j) (chunks j) (Fits j) (λ i q u v t. (fits_iff j q).0 t) n 0 (chunks j) p (omega arith) f

pub skip_all_fits : (j : Job) → Fits j (λ k. 0)
skip_all_fits j = rw (empty 0 (chunks j)) (record { whole = omega arith; tails = tt })
  where
    empty : (lo n : ℕ) → picked (λ i. leb 1 0) lo n ≡ []
    empty lo zero = refl
    empty lo (suc n) = empty (suc lo) n

-- ---- layers on settled bases

pub plan_to_fits : (j : Job) (bases : ℕ → ℕ) → Fits j bases → (n : ℕ) → Fits j (plan_to j bases n)
plan_to_fits j bases f zero = skip_all_fits j
plan_to_fits j bases f (suc zero) = f
plan_to_fits j bases f (suc (suc n)) = sweep_fits j (suc n) (plan_to j bases (suc n)) (plan_to_fits j bases f (suc n))

tried_fits : (j : Job) → Fits j (bases_tried j)
tried_fits j = sweep_fits j 0 (λ k. 0) (skip_all_fits j)

tried_le : (j : Job) (k : ℕ) → bases_tried j k ≤ 1
tried_le j k = ⊎_elim (λ e. omega arith) (λ e. omega arith) (sweep_grown (fitting j) 0 0 (chunks j) (λ k. 0) k)

module _ (j : Job) (bases : ℕ → ℕ) (one : (k : ℕ) → bases k ≤ 1) where
  plan_to_le : (n k : ℕ) → plan_to j bases n k ≤ n
  plan_to_le zero k = omega arith
  plan_to_le (suc zero) k = one k
  plan_to_le (suc (suc n)) k =
      ⊎_elim (λ e. omega (arith, plan_to_le (suc n) k)) (λ e. omega arith) (sweep_grown (fitting j) (suc n) 0 (chunks j) (plan_to j bases (suc n)) k)

  -- Trials of a higher layer leave the lower ones alone.
  plan_to_next : (n k : ℕ) → min (plan_to j bases (suc n) k) n ≡ plan_to j bases n k
  plan_to_next zero k = omega arith
  plan_to_next (suc n) k =
      let l = plan_to_le (suc n) k in
      ⊎_elim (λ e. omega arith) (λ e. omega arith) (sweep_grown (fitting j) (suc n) 0 (chunks j) (plan_to j bases (suc n)) k)

  plan_to_min : (n a k : ℕ) → min (plan_to j bases (a + n) k) n ≡ plan_to j bases n k
  plan_to_min n zero k = let e : 0 + n ≡ n = omega arith in rw e (omega (arith, plan_to_le n k))
  plan_to_min n (suc a) k = let e : suc a + n ≡ suc (a + n) = omega arith in rw e (omega (arith, plan_to_next (a + n) k, plan_to_min n a k))

  -- Below layer n the plan is what the trials of the layers below n make.
  pub on_min : (n k : ℕ) → n ≤ layers j → min (plan_on j bases k) n ≡ plan_to j bases n k
  on_min n k h = let e : layers j - n + n ≡ layers j = omega arith in rw e at (plan_to_min n (layers j - n) k)

  pub on_choice : Choice j (plan_on j bases)
  on_choice k g h = plan_to_le (layers j) k

-- ---- the trial of one layer of one chunk

-- A choice that carries q below layer n, and of layer n what the trials make on q, carries the
-- layer exactly if the layers below are carried and the choice that is tried fits.
layer_taken_iff :
    (j : Job) (p q : ℕ → ℕ) (n : ℕ) → ((k : ℕ) → min (p k) n ≡ q k) → ((k : ℕ) → min (p k) (suc n) ≡ sweep (fitting j) n 0 (chunks j) q k) →
    (i : ℕ) → Layer j i n → (n < p i) ↔ ((n ≤ p i) × Fits j (tried p n i))
layer_taken_iff j p q n below upto i r =
    let same : (k : ℕ) → tried_on (λ m. 0) p n i k ≡ tried p n i k = λ k. ap (cond (eqb k i) (suc n)) (omega arith) in
    let t = taken_iff (fitting j) (chunks j) (λ m. 0) (λ i. Fits j) (λ i. fits_iff j) (λ i. fits_cong j) p q n (λ k. omega (arith, below k)) (λ k. omega (arith, upto k)) i r.chunk_low r.chunk_high (omega arith) in (
      λ l. ⊎_elim (λ u. absurd (omega arith)) (λ u. (u.0, fits_cong j _ _ (λ k x y. same k) u.1)) (t.0 l),
      λ u. t.1 (inr (u.0, fits_cong j _ _ (λ k x y. sym (same k)) u.1)),
    )

-- A choice takes layer n exactly where the choice that is tried fits: its decision, without lists.
abbrev pub TakesFitting : Job → (ℕ → ℕ) → ℕ → Type 0
TakesFitting j p n = (i : ℕ) → Layer j i n → (n < p i) ↔ ((n ≤ p i) × Fits j (tried p n i))

-- The trials of the upper layers, on any bases,
pub on_upper : (j : Job) (bases : ℕ → ℕ) → ((k : ℕ) → bases k ≤ 1) → (n : ℕ) → TakesFitting j (plan_on j bases) (suc n)
on_upper j bases one n i r =
    layer_taken_iff j (plan_on j bases) (plan_to j bases (suc n)) (suc n) (λ k. on_min j bases one (suc n) k (omega (arith, r.layer_in))) (λ k. on_min j bases one (suc (suc n)) k r.layer_in) i r

-- and those of the base.
on_tried : (j : Job) → TakesFitting j (plan_on j (bases_tried j)) 0
on_tried j i r =
    layer_taken_iff j (plan_on j (bases_tried j)) (λ k. 0) 0 (λ k. omega arith) (λ k. on_min j (bases_tried j) (tried_le j) 1 k r.layer_in) i r

-- The bases of the chunks that pass a test: a plan on them carries these and no others.
pub tested_le : (q : ℕ → Bool) (k : ℕ) → cond (q k) 1 0 ≤ 1
tested_le q k = by_cond (λ (m : ℕ). m ≤ 1) (q k) (λ t. omega arith) (λ t. omega arith)

pub on_bases : (j : Job) (q : ℕ → Bool) → 0 < layers j → (i : ℕ) → (0 < plan_on j (λ k. cond (q k) 1 0) i) ↔ T (q i)
on_bases j q some i = kept_as (plan_on j (λ k. cond (q k) 1 0) i) (q i) (on_min j (λ k. cond (q k) 1 0) (tested_le q) 1 i some) where
  kept_as : (a : ℕ) (b : Bool) → min a 1 ≡ cond b 1 0 → (0 < a) ↔ T b
  kept_as a true e = (λ l. tt, λ t. omega arith)
  kept_as a false e = (λ l. absurd (omega arith), λ t. absurd t)

-- ---- above the base the kept chunks stay the same

pub kept_same_test : (a b n : ℕ) → 1 ≤ n → min a n ≡ min b n → leb 1 a ≡ leb 1 b
kept_same_test a b n h e =
    same_test (leb 1 a) (leb 1 b) (λ t. le→leb 1 b (omega (arith, leb→le 1 a t))) (λ t. le→leb 1 a (omega (arith, leb→le 1 b t)))

pub same_kept :
    (j : Job) (n : ℕ) (p x : ℕ → ℕ) → 1 ≤ n → ((i : ℕ) → 1 ≤ i → i ≤ chunks j → min (x i) n ≡ min (p i) n) → kept j x ≡ kept j p
same_kept j n p x up agree = picked_cong (λ i. leb 1 (x i)) (λ i. leb 1 (p i)) 0 (chunks j) (λ i u v. kept_same_test (x i) (p i) n up (agree i u (omega arith)))

pub tried_kept : (j : Job) (n : ℕ) (p : ℕ → ℕ) (i : ℕ) → 1 ≤ n → n ≤ p i → kept j (tried p n i) ≡ kept j p
tried_kept j n p i up there =
    same_kept j n p (tried p n i) up (λ k u v.
    ⊎_elim
    (λ w. let e = eqb→eq k i w in rw (e, eq-eqb i i refl) (omega arith))
    (λ w. rw (not_T_false (eqb k i) w) (by_cond (λ a. min (min (p k) a) n ≡ min (p k) n) (ltb i k) (λ o. omega arith) (λ o. omega arith)))
    (test (eqb k i)))

-- ---- the computed choices are settled as Statement says

pub tried_choice : (j : Job) (p : ℕ → ℕ) (i n : ℕ) → Choice j p → n < layers j → Choice j (tried p n i)
tried_choice j p i n c l k g h = by_cond (λ x. x ≤ layers j) (eqb k i) (λ t. l) (λ t. omega (arith, c k g h))

-- By lists or without them, the decision of a layer is the same.
pub settles_iff : (j : Job) → Sized j → (p : ℕ → ℕ) → Choice j p → (n : ℕ) → Settles j p n ↔ TakesFitting j p n
settles_iff j sized p c n =
    let d : (i : ℕ) → Layer j i n → CanCarry j (tried p n i) ↔ Fits j (tried p n i) = λ i r. can_carry_iff_fits j sized (tried p n i) (tried_choice j p i n c r.layer_in) in (
      λ s i r. let a = (settles_tried_iff j p n).0 s i r in (λ l. let u = a.0 l in (u.0, (d i r).0 u.1), λ u. a.1 (u.0, (d i r).1 u.1)),
      λ f. (settles_tried_iff j p n).1 (λ i r. let a = f i r in (λ l. let u = a.0 l in (u.0, (d i r).1 u.1), λ u. a.1 (u.0, (d i r).0 u.1))),
    )

-- The base, below which there is none.
pub base_taken_iff :
    (j : Job) → Sized j → (p : ℕ → ℕ) → Choice j p → Settles j p 0 → 0 < layers j → (i : ℕ) → 1 ≤ i → i ≤ chunks j → (0 < p i) ↔ Fits j (tried p 0 i)
base_taken_iff j sized p c d h i u v = let a = (settles_iff j sized p c 0).0 d i (layer_of j i 0 u v h) in (λ l. (a.0 l).1, λ f. a.1 (omega arith, f))

-- Document 01's way by itself.
pub trials_choice : (j : Job) → Choice j (plan_by_trials j)
unfolding plan_by_trials
trials_choice j = on_choice j (bases_tried j) (tried_le j)

pub trials_fit : (j : Job) → Fits j (plan_by_trials j)
unfolding plan_by_trials
trials_fit j = plan_to_fits j (bases_tried j) (tried_fits j) (layers j)

pub trials_take : (j : Job) (n : ℕ) → TakesFitting j (plan_by_trials j) n
unfolding plan_by_trials
trials_take j zero = on_tried j
trials_take j (suc n) = on_upper j (bases_tried j) (tried_le j) n

pub trials_settled : (j : Job) → Sized j → SettledByTrials j (plan_by_trials j)
trials_settled j sized =
    record { choice = trials_choice j; decided = λ n. (settles_iff j sized (plan_by_trials j) (trials_choice j) n).1 (trials_take j n) }

-- ---- which way the bases of the plan are settled

pub equal_bases_iff : (j : Job) → T (equal_bases j) ↔ EqualBases j
equal_bases_iff j =
    let p : ℕ → Bool = λ i. eqb (base_size j i) (base_size j 1) in
    let a = all_to_iff (chunks j) p in
    let own : T (all_to (chunks j) p) → (i : ℕ) → Within 1 (chunks j) i → base_size j i ≡ base_size j 1 = λ t i w. eqb→eq (base_size j i) (base_size j 1) (a.0 t i w.low w.high) in (
      λ t i k u v. own t i u ∙ sym (own t k v),
      λ e. a.1 (λ i u v. (eqb_iff (base_size j i) (base_size j 1)).1 (e i 1 (record { low = u; high = v }) (record { low = omega arith; high = omega arith }))),
    )

pub equal_bases_if_not : (j : Job) → ((EqualBases j → ⊥) → ⊥) → EqualBases j
equal_bases_if_not j n =
    ⊎_elim (λ t. (equal_bases_iff j).0 t) (λ t. absurd (n (λ e. T_not (equal_bases j) t ((equal_bases_iff j).1 e)))) (test (equal_bases j))

pub by_moore_hodgson_iff : (j : Job) → T (by_moore_hodgson j) ↔ ByMooreHodgson j
by_moore_hodgson_iff j =
    let a = T_and_iff (leb (chunks j) (held_most j)) (not (equal_bases j)) in
    let l = leb_iff (chunks j) (held_most j) in
    let e = equal_bases_iff j in (
      λ t. let u = a.0 t in (l.0 u.0, λ x. T_not (equal_bases j) u.1 (e.1 x)),
      λ w. a.1 (l.1 w.0, not_T (equal_bases j) (λ t. w.1 (e.0 t))),
    )

-- One of the two ways.
pub either_way : (j : Job) (P : Type 0) → (ByMooreHodgson j → P) → ((ByMooreHodgson j → ⊥) → P) → P
either_way j P f g = ⊎_elim (λ t. f ((by_moore_hodgson_iff j).0 t)) (λ t. g (λ w. T_not (by_moore_hodgson j) t ((by_moore_hodgson_iff j).1 w))) (test (by_moore_hodgson j))

-- ---- the computed plan

pub kept_le : (j : Job) (k : ℕ) → bases_moore_hodgson j k ≤ 1
kept_le j = tested_le (is_kept j)

pub plan_by_moore_hodgson : (j : Job) → ByMooreHodgson j → plan j ≡ plan_on j (bases_moore_hodgson j)
unfolding plan
plan_by_moore_hodgson j w = rw (T_true (by_moore_hodgson j) ((by_moore_hodgson_iff j).1 w))

pub plan_elsewhere : (j : Job) → (ByMooreHodgson j → ⊥) → plan j ≡ plan_by_trials j
unfolding plan plan_by_trials
plan_elsewhere j n = rw (not_T_false (by_moore_hodgson j) (not_T (by_moore_hodgson j) (λ t. n ((by_moore_hodgson_iff j).0 t))))

pub plan_choice : (j : Job) → Choice j (plan j)
plan_choice j =
    either_way j (Choice j (plan j))
    (λ w. rw (plan_by_moore_hodgson j w) (on_choice j (bases_moore_hodgson j) (kept_le j)))
    (λ n. rw (plan_elsewhere j n) (trials_choice j))

pub plan_fits : (j : Job) → Fits j (plan j)
plan_fits j =
    either_way j (Fits j (plan j))
    (λ w. rw (plan_by_moore_hodgson j w) (plan_to_fits j (bases_moore_hodgson j) (moore_hodgson_fits j w.0) (layers j)))
    (λ n. rw (plan_elsewhere j n) (trials_fit j))

pub plan_takes : (j : Job) (n : ℕ) → TakesFitting j (plan j) (suc n)
plan_takes j n =
    either_way j (TakesFitting j (plan j) (suc n))
    (λ w. rw (plan_by_moore_hodgson j w) (on_upper j (bases_moore_hodgson j) (kept_le j) n))
    (λ o. rw (plan_elsewhere j o) (trials_take j (suc n)))

-- Its bases are the ones that Moore-Hodgson keeps.
pub plan_bases_lem : (j : Job) → 0 < layers j → ByMooreHodgson j → BasesMooreHodgson j (plan j)
plan_bases_lem j some w i u v = rw (plan_by_moore_hodgson j w) (on_bases j (is_kept j) some i)

pub plan_is_plan : (j : Job) → Sized j → 0 < layers j → IsPlan j (plan j)
plan_is_plan j sized some =
    record {
      choice = plan_choice j;
      moore_hodgson_lem = plan_bases_lem j some;
      elsewhere = λ n. rw (plan_elsewhere j n) ((trials_settled j sized).decided 0);
      upper = λ n. (settles_iff j sized (plan j) (plan_choice j) (suc n)).1 (plan_takes j n);
    }

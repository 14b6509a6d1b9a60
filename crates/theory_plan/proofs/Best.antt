-- Lemmas. From the parts to demand 3: what a plan and a passing list say of each other's layers and
-- counts, where each layer has one size z n. Section 5 of the argument, put together.
use Rattle.std.specs.Prelude.{ℕ, zero, suc, ◌≤◌, ◌<◌, min, ◌≡◌, List, ltb}
use Rattle.std.proofs.Common.{⊎_elim, arith, ltb→lt, nltb→le, lt→ltb}
use Rattle.theory_basics.specs.lemmas.Tests.{test}
use Rattle.fetch.specs.Rows.{Row, layer_count}
use Rattle.fetch.specs.Rules.{Passes, PlayingOrder}
use Rattle.job.specs.Job.{HoldsAll, Job, Layer, chunks, layers, size}
use Rattle.theory_plan.specs.lemmas.Base.{base_most}
use Rattle.theory_plan.specs.lemmas.Choice.{Fits, can_carry_fits}
use Rattle.theory_plan.specs.lemmas.Level.{count_carried, level, level_choice, level_exactly}
use Rattle.theory_basics.specs.lemmas.Ranges.{count_tight}
use Rattle.theory_plan.specs.lemmas.Plan.{TakesFitting, base_taken_iff, fits_cong, plan_fits, plan_is_plan, settles_iff, skip_all_fits, trials_fit, trials_settled}
use Rattle.theory_plan.specs.Plan.{plan, plan_by_trials}
use Rattle.theory_plan.specs.Statement.{CarriesBelow, IsPlan, SettledByTrials, count_of}
use Rattle.theory_plan.specs.lemmas.Unique.{plans_agree, trials_agree}
use Rattle.theory_plan.specs.lemmas.Upper.{upper_most}
use Rattle.theory_plan.specs.lemmas.Whole.{whole_most}
use Rattle.theory_plan.specs.lemmas.Words.{Sized, layer_of}

-- A plan fits, since the computed one does and there is no other.
pub is_plan_fits : (j : Job) → Sized j → (p : ℕ → ℕ) → IsPlan j p → Fits j p
is_plan_fits j sized p dec =
    ⊎_elim
    (λ t. fits_cong j (plan j) p (plans_agree j (plan j) p (plan_is_plan j sized (ltb→lt 0 (layers j) t)) dec) (plan_fits j))
    (λ t. fits_cong j (λ k. 0) p (λ k u v. omega (arith, dec.choice k u v, nltb→le 0 (layers j) t)) (skip_all_fits j))
    (test (ltb 0 (layers j)))

-- ---- settled in document 01's way

module _ (j : Job) (sized : Sized j) (p : ℕ → ℕ) (dec : SettledByTrials j p) where
  pub by_trials_fits : Fits j p
  by_trials_fits = fits_cong j (plan_by_trials j) p (trials_agree j (plan_by_trials j) p (trials_settled j sized) dec) (trials_fit j)

  -- It carries a layer exactly if the layers below are carried and the choice that is tried fits.
  takes_iff : (n : ℕ) → TakesFitting j p n
  takes_iff n = (settles_iff j sized p dec.choice n).0 (dec.decided n)

  module _ (z : ℕ → ℕ) (equal : (i n : ℕ) → Layer j i n → size j i n ≡ z n) where
    base_no_more : 0 < layers j → (m : List Row) → Passes j m → count_of j (level j m) 0 ≤ count_of j p 0
    base_no_more h m ok =
        base_most j (z 0) (λ i u v. equal i 0 (layer_of j i 0 u v h)) p (base_taken_iff j sized p dec.choice (dec.decided 0) h) m ok

    list_count : (m : List Row) → Passes j m → (n : ℕ) → n < layers j → layer_count j m n ≡ count_of j (level j m) n
    list_count m ok = count_carried j m (level j m) (level_exactly j m ok)

    pub most_bases_lem : 0 < layers j → (m : List Row) → Passes j m → layer_count j m 0 ≤ count_of j p 0
    most_bases_lem h m ok = omega (arith, base_no_more h m ok, list_count m ok 0 h)

    -- ---- a passing list in playing order

    module _ (m : List Row) (ok : Passes j m) (o : PlayingOrder j m) where
      -- The layers that the list carries.
      abbrev x : ℕ → ℕ
      x = level j m

      x_fits : Fits j x
      x_fits = can_carry_fits j sized x (level_choice j m) (record { rows = m; passes = ok; in_order = o; exactly = level_exactly j m ok })

      layer_no_more :
          (n : ℕ) → n < layers j → ((i : ℕ) → 1 ≤ i → i ≤ chunks j → min (x i) n ≡ min (p i) n) → count_of j x n ≤ count_of j p n
      layer_no_more zero h f = base_no_more h m ok
      layer_no_more (suc n) h f =
          upper_most
          j
          (suc n)
          (z (suc n))
          (omega arith)
          (λ i u v. equal i (suc n) (layer_of j i (suc n) u v h))
          p
          x
          by_trials_fits
          x_fits
          f
          (λ i u v a t. (takes_iff (suc n) i (layer_of j i (suc n) u v h)).1 (a, t))

      -- A list that carries the plan's layers below n carries no others there.
      same_below :
          (n : ℕ) → n ≤ layers j → ((i : ℕ) → 1 ≤ i → i ≤ chunks j → min (p i) n ≤ x i) → (i : ℕ) → 1 ≤ i → i ≤ chunks j →
          min (x i) n ≡ min (p i) n
      same_below zero h f i u v = omega arith
      same_below (suc n) h f i u v =
          let a = same_below n (omega arith) (λ i u v. omega (arith, f i u v)) in
          let c = layer_no_more n h a in
          let s = count_tight (λ i. ltb n (p i)) (λ i. ltb n (x i)) (chunks j) (λ i u v t. lt→ltb n (x i) (omega (arith, f i u v, ltb→lt n (p i) t))) c i u v in
          ⊎_elim
          (λ t. omega (arith, a i u v, f i u v, ltb→lt n (x i) t, ltb→lt n (p i) (s t)))
          (λ t. omega (arith, a i u v, f i u v, nltb→le n (x i) t))
          (test (ltb n (x i)))

      carries_below_min : (n : ℕ) → n ≤ layers j → CarriesBelow j p n m → (i : ℕ) → 1 ≤ i → i ≤ chunks j → min (p i) n ≤ x i
      carries_below_min zero h f i u v = omega arith
      carries_below_min (suc n) h f i u v =
          let r = carries_below_min n (omega arith) (λ i k a b c. f i k a (omega arith) c) i u v in
          let q = layer_of j i n u v h in
          ⊎_elim
          (λ t. omega (arith, (level_exactly j m ok i n q).0 (f i n q (omega arith) (ltb→lt n (p i) t))))
          (λ t. omega (arith, nltb→le n (p i) t))
          (test (ltb n (p i)))

      pub most_of_layer_lem : (n : ℕ) → n < layers j → CarriesBelow j p n m → layer_count j m n ≤ count_of j p n
      most_of_layer_lem n h f =
          omega (arith, layer_no_more n h (same_below n (omega arith) (carries_below_min n (omega arith) f)), list_count m ok n h)

    -- ---- a passing list, where the limit holds the whole programme

    pub first_difference_lem :
        HoldsAll j → (m : List Row) → Passes j m → (n : ℕ) → n < layers j → ((k : ℕ) → k < n → layer_count j m k ≡ count_of j p k) →
        layer_count j m n ≤ count_of j p n
    first_difference_lem w m ok n h f =
        omega (
          arith,
          whole_most j sized z equal p dec w n h m ok (level j m) (level_choice j m) (level_exactly j m ok) (λ k l. omega (arith, f k l, list_count m ok k (omega arith))),
          list_count m ok n h,
        )

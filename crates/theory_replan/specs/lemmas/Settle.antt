-- Lemmas. Settling layer by layer, chunks from C down to 1, in general: base k layers of chunk k
-- are carried from the start, and Ok i says of the choice that is tried whether chunk i may have
-- one layer more. One choice only is settled so, and it can be computed, by theory_plan's trials in
-- general (Sweep).
use Rattle.std.specs.Prelude.{ℕ, zero, suc, ◌+◌, ◌-◌, ◌≤◌, ◌<◌, min, max, ◌≡◌, Bool, cond, ◌⊎◌, ◌↔◌, T, eqb}
use Rattle.std.proofs.Common.{sym, ap, inl, inr, ⊎_elim, arith}
use Rattle.theory_replan.specs.Plan.{plan_to}
use Rattle.theory_plan.specs.lemmas.Unique.{below, same_down, settled_same}
use Rattle.theory_plan.specs.lemmas.Sweep.{SameTo, sweep_grown, sweep_holds, taken_iff, tried_on}

pub record Settles (C N : ℕ) (base : ℕ → ℕ) (Ok : ℕ → (ℕ → ℕ) → Type 0) (plan : ℕ → ℕ) : Type 0 where
  pub most : (i : ℕ) → 1 ≤ i → i ≤ C → plan i ≤ N
  pub decided :
      (i n : ℕ) → 1 ≤ i → i ≤ C → n < N → (n < plan i) ↔ ((n < base i) ⊎ ((n ≤ plan i) × Ok i (tried_on base plan n i)))

module _ (C N : ℕ) (base : ℕ → ℕ) (Ok : ℕ → (ℕ → ℕ) → Type 0) (cong : (i : ℕ) (p q : ℕ → ℕ) → SameTo C p q → Ok i p → Ok i q) where
  -- ---- one choice only

  module _ (n : ℕ) (h : n < N) where
    same_trial :
        (p q : ℕ → ℕ) (i : ℕ) → Settles C N base Ok p → Settles C N base Ok q → SameTo C (below p n) (below q n) → 1 ≤ i → i ≤ C →
        ((k : ℕ) → i < k → k ≤ C → below p (suc n) k ≡ below q (suc n) k) → n < p i → n < q i
    same_trial p q i dp dq s u v f l =
        (dq.decided i n u v h).1
        (⊎_elim
        (λ a. inl a)
        (λ a. inr (
          omega (arith, a.0, s i u v),
          cong i (tried_on base p n i) (tried_on base q n i) (λ k x y. ap (λ (m : ℕ). cond (eqb k i) (suc n) (max (base k) m)) (settled_same C n i p q s f k x y)) a.1,
        ))
        ((dp.decided i n u v h).0 l))

    same_sweep :
        (p q : ℕ → ℕ) → Settles C N base Ok p → Settles C N base Ok q → SameTo C (below p n) (below q n) → (m lo : ℕ) → lo + m ≡ C →
        (k : ℕ) → lo < k → k ≤ C → below p (suc n) k ≡ below q (suc n) k
    same_sweep p q dp dq s = same_down C n p q (λ i u v. same_trial p q i dp dq s u v) (λ i u v. same_trial q p i dq dp (λ k x y. sym (s k x y)) u v) s

  same_layers : (p q : ℕ → ℕ) → Settles C N base Ok p → Settles C N base Ok q → (n : ℕ) → n ≤ N → SameTo C (below p n) (below q n)
  same_layers p q dp dq zero h k u v = omega arith
  same_layers p q dp dq (suc n) h k u v = same_sweep n h p q dp dq (same_layers p q dp dq n (omega arith)) C 0 (omega arith) k u v

  pub settles_once : (p q : ℕ → ℕ) → Settles C N base Ok p → Settles C N base Ok q → SameTo C p q
  settles_once p q dp dq k u v = omega (arith, same_layers p q dp dq N (omega arith) k u v, dp.most k u v, dq.most k u v)

-- ---- how it is computed

module _ (C N : ℕ) (base : ℕ → ℕ) (ok : ℕ → (ℕ → ℕ) → Bool) where
  plan_to_low : (n k : ℕ) → base k ≤ plan_to C base ok n k
  plan_to_low zero k = omega arith
  plan_to_low (suc n) k = ⊎_elim (λ e. omega (arith, plan_to_low n k)) (λ e. omega (arith, plan_to_low n k)) (sweep_grown ok n 0 C (plan_to C base ok n) k)

  plan_to_le : (n k : ℕ) → plan_to C base ok n k ≤ max (base k) n
  plan_to_le zero k = omega arith
  plan_to_le (suc n) k = ⊎_elim (λ e. omega (arith, plan_to_le n k)) (λ e. omega arith) (sweep_grown ok n 0 C (plan_to C base ok n) k)

  -- Trials of higher layers leave the lower ones alone.
  plan_to_min : (n a k : ℕ) → max (base k) (min (plan_to C base ok (a + n) k) n) ≡ plan_to C base ok n k
  plan_to_min n zero k = let e : 0 + n ≡ n = omega arith in rw e (omega (arith, plan_to_le n k, plan_to_low n k))
  plan_to_min n (suc a) k =
      let e : suc a + n ≡ suc (a + n) = omega arith in
      rw e (⊎_elim (λ g. omega (arith, plan_to_min n a k)) (λ g. omega (arith, plan_to_min n a k)) (sweep_grown ok (a + n) 0 C (plan_to C base ok (a + n)) k))

  -- What every choice taken has, and the one at the start, the planned one has.
  module _ (P : (ℕ → ℕ) → Type 0) (taken : (i : ℕ) (p : ℕ → ℕ) → 1 ≤ i → i ≤ C → T (ok i p) → P p) where
    pub plan_holds : (n : ℕ) → P base → P (plan_to C base ok n)
    plan_holds zero f = f
    plan_holds (suc n) f = sweep_holds ok C P taken n 0 C (plan_to C base ok n) (omega arith) (plan_holds n f)

  -- ---- the trial of one layer of one chunk

  module _ (Ok : ℕ → (ℕ → ℕ) → Type 0) (says : (i : ℕ) (p : ℕ → ℕ) → T (ok i p) ↔ Ok i p) (cong : (i : ℕ) (p q : ℕ → ℕ) → SameTo C p q → Ok i p → Ok i q) (start : (i : ℕ) → 1 ≤ i → i ≤ C → base i ≤ N) where
    abbrev plan : ℕ → ℕ
    plan = plan_to C base ok N

    plan_min : (n k : ℕ) → n ≤ N → max (base k) (min (plan k) n) ≡ plan_to C base ok n k
    plan_min n k h = let e : N - n + n ≡ N = omega arith in rw e at (plan_to_min n (N - n) k)

    pub settles_computed : Settles C N base Ok plan
    settles_computed = record { most = λ i u v. omega (arith, plan_to_le N i, start i u v); decided = λ i n u v h. taken_iff ok C base Ok says cong plan (plan_to C base ok n) n (λ k. plan_min n k (omega arith)) (λ k. plan_min (suc n) k h) i u v (plan_to_low N i) }

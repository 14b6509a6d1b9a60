-- Lemmas. The words that say what a plan is leave one choice only. Trial by trial, in the order in
-- which layers are settled: where all that is settled before agrees, so does what the trial
-- settles.
-- Section 3 of the argument.
use Rattle.std.specs.Prelude.{ℕ, zero, suc, ◌+◌, ◌≤◌, ◌<◌, min, ◌≡◌, refl, Bool, cond, ◌↔◌, T, ltb, eqb}
use Rattle.std.proofs.Common.{sym, ap, ⊎_elim, arith, lt-ltb, le-ltb, ltb→lt, nltb→le}
use Rattle.theory_basics.specs.lemmas.Tests.{test}
use Rattle.job.specs.Job.{Job, chunks, last_slot, layers}
use Rattle.theory_plan.specs.Bases.{is_kept}
use Rattle.theory_plan.specs.Statement.{BasesMooreHodgson, CanCarry, Choice, IsPlan, Same, SettledByTrials, Settles}
use Rattle.theory_plan.specs.Plan.{tried, settled}
use Rattle.theory_plan.specs.Own.{Fetched, carried_to, fetched_by, own_list}
use Rattle.theory_plan.specs.lemmas.Plan.{either_way}
use Rattle.theory_plan.specs.lemmas.Tried.{settles_tried_iff}
use Rattle.theory_plan.specs.lemmas.Words.{layer_of}

-- ---- what depends on the layers of the job's chunks alone

pub can_carry_cong : (j : Job) (p q : ℕ → ℕ) → Same j p q → CanCarry j p → CanCarry j q
can_carry_cong j p q e s =
    record { rows = s.rows; passes = s.passes; in_order = s.in_order; exactly = λ i n r. rw (e i r.chunk_low r.chunk_high) at (s.exactly i n r) }

pub carried_cong : (j : Job) (p q : ℕ → ℕ) → Same j p q → (i : ℕ) → i ≤ chunks j → carried_to j p i ≡ carried_to j q i
carried_cong j p q e zero h = refl
carried_cong j p q e (suc i) h = rw (carried_cong j p q e i (omega arith), e (suc i) (omega arith) h)

fetched_cong : (j : Job) (p q : ℕ → ℕ) → Same j p q → (t : ℕ) → fetched_by j p t ≡ fetched_by j q t
fetched_cong j p q e zero = rw (carried_cong j p q e (chunks j) (omega arith))
fetched_cong j p q e (suc t) = rw (fetched_cong j p q e t)

pub own_list_cong : (j : Job) (p q : ℕ → ℕ) → Same j p q → own_list j p ≡ own_list j q
unfolding own_list
own_list_cong j p q e = ap (λ (f : Fetched). f.rows) (fetched_cong j p q e (last_slot j))

-- ---- trial by trial

-- The layers below n of a choice.
abbrev pub below : (ℕ → ℕ) → ℕ → ℕ → ℕ
below p n k = min (p k) n

-- Where two choices agree below n, and at the later chunks up to it, so does what is settled.
pub settled_same :
    (c n i : ℕ) (p q : ℕ → ℕ) → ((k : ℕ) → 1 ≤ k → k ≤ c → below p n k ≡ below q n k) →
    ((k : ℕ) → i < k → k ≤ c → below p (suc n) k ≡ below q (suc n) k) → (k : ℕ) → 1 ≤ k → k ≤ c → settled p n i k ≡ settled q n i k
settled_same c n i p q s f k x y =
    ⊎_elim (λ w. rw (lt-ltb i k (ltb→lt i k w)) (f k (ltb→lt i k w) y)) (λ w. rw (le-ltb i k (nltb→le i k w)) (s k x y)) (test (ltb i k))

-- q has layer n of a chunk where p has it and the later chunks agree up to it.
abbrev pub Follows : (c n : ℕ) (p q : ℕ → ℕ) → Type 0
Follows c n p q = (i : ℕ) → 1 ≤ i → i ≤ c → ((k : ℕ) → i < k → k ≤ c → below p (suc n) k ≡ below q (suc n) k) → n < p i → n < q i

-- Where each follows the other, and they agree below n, they agree up to it: from the last of c
-- chunks down to lo + 1.
pub same_down :
    (c n : ℕ) (p q : ℕ → ℕ) → Follows c n p q → Follows c n q p → ((k : ℕ) → 1 ≤ k → k ≤ c → below p n k ≡ below q n k) → (m lo : ℕ) →
    lo + m ≡ c → (k : ℕ) → lo < k → k ≤ c → below p (suc n) k ≡ below q (suc n) k
same_down c n p q pq qp s zero lo e k u v = absurd (omega arith)
same_down c n p q pq qp s (suc m) lo e k u v =
    let f : (k : ℕ) → suc lo < k → k ≤ c → below p (suc n) k ≡ below q (suc n) k = same_down c n p q pq qp s m (suc lo) (omega arith) in
    let w = s (suc lo) (omega arith) (omega arith) in
    ⊎_elim
    (λ t. f k (ltb→lt (suc lo) k t) v)
    (λ t.
    let d : k ≡ suc lo = omega (arith, nltb→le (suc lo) k t) in
    rw d
    (⊎_elim
    (λ x. omega (arith, w, ltb→lt n (p (suc lo)) x, pq (suc lo) (omega arith) (omega arith) f (ltb→lt n (p (suc lo)) x)))
    (λ x.
    ⊎_elim
    (λ y. omega (arith, w, ltb→lt n (q (suc lo)) y, qp (suc lo) (omega arith) (omega arith) (λ k a b. sym (f k a b)) (ltb→lt n (q (suc lo)) y)))
    (λ y. omega (arith, w, nltb→le n (p (suc lo)) x, nltb→le n (q (suc lo)) y))
    (test (ltb n (q (suc lo)))))
    (test (ltb n (p (suc lo))))))
    (test (ltb (suc lo) k))

module _ (j : Job) (n : ℕ) (h : n < layers j) where
  -- One trial.
  same_trial :
      (p q : ℕ → ℕ) (i : ℕ) → Settles j p n → Settles j q n → Same j (below p n) (below q n) → 1 ≤ i → i ≤ chunks j →
      ((k : ℕ) → i < k → k ≤ chunks j → below p (suc n) k ≡ below q (suc n) k) → n < p i → n < q i
  same_trial p q i dp dq s u v f l =
      let r = layer_of j i n u v h in
      let a = ((settles_tried_iff j p n).0 dp i r).0 l in
      ((settles_tried_iff j q n).0 dq i r).1 (
        omega (arith, a.0, s i u v),
        can_carry_cong j (tried p n i) (tried q n i) (λ k x y. ap (cond (eqb k i) (suc n)) (settled_same (chunks j) n i p q s f k x y)) a.1,
      )

  -- The chunks down to lo + 1.
  same_sweep :
      (p q : ℕ → ℕ) → Settles j p n → Settles j q n → Same j (below p n) (below q n) → (m lo : ℕ) → lo + m ≡ chunks j → (k : ℕ) → lo < k →
      k ≤ chunks j → below p (suc n) k ≡ below q (suc n) k
  same_sweep p q dp dq s =
      same_down (chunks j) n p q (λ i u v. same_trial p q i dp dq s u v) (λ i u v. same_trial q p i dq dp (λ k x y. sym (s k x y)) u v) s

-- The bases, from one trial after the other,
same_tried : (j : Job) (p q : ℕ → ℕ) → Settles j p 0 → Settles j q 0 → 0 < layers j → Same j (below p 1) (below q 1)
same_tried j p q dp dq h k u v = same_sweep j 0 h p q dp dq (λ k u v. omega arith) (chunks j) 0 (omega arith) k u v

-- or those of the chunks that pass one test,
pub same_tested :
    (j : Job) (r : ℕ → Bool) (p q : ℕ → ℕ) → ((i : ℕ) → 1 ≤ i → i ≤ chunks j → (0 < p i) ↔ T (r i)) →
    ((i : ℕ) → 1 ≤ i → i ≤ chunks j → (0 < q i) ↔ T (r i)) → Same j (below p 1) (below q 1)
same_tested j r p q dp dq k u v =
    let a = dp k u v in
    let b = dq k u v in
    ⊎_elim
    (λ t. omega (arith, ltb→lt 0 (p k) t, b.1 (a.0 (ltb→lt 0 (p k) t))))
    (λ t. ⊎_elim (λ w. omega (arith, ltb→lt 0 (q k) w, a.1 (b.0 (ltb→lt 0 (q k) w)))) (λ w. omega (arith, nltb→le 0 (p k) t, nltb→le 0 (q k) w)) (test (ltb 0 (q k))))
    (test (ltb 0 (p k)))

-- as the ones kept by Moore-Hodgson.
pub same_moore_hodgson : (j : Job) (p q : ℕ → ℕ) → BasesMooreHodgson j p → BasesMooreHodgson j q → Same j (below p 1) (below q 1)
same_moore_hodgson j = same_tested j (is_kept j)

-- On the same bases, the layers above them.
module _
    (j : Job) (p q : ℕ → ℕ) (cp : Choice j p) (cq : Choice j q) (dp : (n : ℕ) → Settles j p (suc n)) (dq : (n : ℕ) → Settles j q (suc n))
    (bases : 0 < layers j → Same j (below p 1) (below q 1)) where
  same_layers : (n : ℕ) → n ≤ layers j → Same j (below p n) (below q n)
  same_layers zero h k u v = omega arith
  same_layers (suc zero) h k u v = bases h k u v
  same_layers (suc (suc n)) h k u v = same_sweep j (suc n) h p q (dp n) (dq n) (same_layers (suc n) (omega arith)) (chunks j) 0 (omega arith) k u v

  pub same_on_bases : Same j p q
  same_on_bases k u v = omega (arith, same_layers (layers j) (omega arith) k u v, cp k u v, cq k u v)

-- Document 01's way leaves one choice,
pub trials_agree : (j : Job) (p q : ℕ → ℕ) → SettledByTrials j p → SettledByTrials j q → Same j p q
trials_agree j p q dp dq =
    same_on_bases j p q dp.choice dq.choice (λ n. dp.decided (suc n)) (λ n. dq.decided (suc n)) (same_tried j p q (dp.decided 0) (dq.decided 0))

-- and so do the words that say what a plan is.
pub plans_agree : (j : Job) (p q : ℕ → ℕ) → IsPlan j p → IsPlan j q → Same j p q
plans_agree j p q dp dq =
    same_on_bases j p q dp.choice dq.choice dp.upper dq.upper (λ h.
    either_way j (Same j (below p 1) (below q 1)) (λ w. same_moore_hodgson j p q (dp.moore_hodgson_lem w) (dq.moore_hodgson_lem w)) (λ n. same_tried j p q (dp.elsewhere n) (dq.elsewhere n) h))

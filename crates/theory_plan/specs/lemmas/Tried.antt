-- Lemmas. The layers that a trial asks about, as Statement says them (`Trial`), are the choice that
-- is computed (`tried`): so a layer is settled by `Trial` exactly if it is by `tried`.
use Rattle.std.specs.Prelude.{ℕ, suc, ◌≤◌, ◌<◌, ◌≡◌, refl, ◌⊎◌, ◌↔◌, ltb, eqb}
use Rattle.std.proofs.Common.{ap, inl, inr, ⊎_elim, arith, eq-eqb, ne_eqb, lt-ltb, le-ltb, ltb→lt, nltb→le, eqb→eq}
use Rattle.theory_basics.specs.lemmas.Tests.{test, neqb_ne}
use Rattle.job.specs.Job.{Job, Layer}
use Rattle.theory_plan.specs.Plan.{tried}
use Rattle.theory_plan.specs.Statement.{CanCarry, CanCarryOnly, Settles, SettledBefore, Trial}

-- Lists that carry these layers carry those, where both are the same layers of the job.
pub can_carry_same :
    (j : Job) (these those : ℕ → ℕ → Type 0) → ((i n : ℕ) → Layer j i n → these i n ↔ those i n) → CanCarryOnly j these → CanCarryOnly j those
can_carry_same j these those e s =
    record {
      rows = s.rows;
      passes = s.passes;
      in_order = s.in_order;
      exactly = λ i n r. (λ c. (e i n r).0 ((s.exactly i n r).0 c), λ u. (s.exactly i n r).1 ((e i n r).1 u));
    }

below_or_at : (m n : ℕ) → m < suc n → (m < n) ⊎ (m ≡ n)
below_or_at m n h = ⊎_elim (λ t. inl (ltb→lt m n t)) (λ t. inr (omega (arith, nltb→le m n t))) (test (ltb m n))

pub trial_iff : (plan : ℕ → ℕ) (n i : ℕ) → n ≤ plan i → (k m : ℕ) → (m < tried plan n i k) ↔ Trial plan n i k m
trial_iff plan n i h k m =
    ⊎_elim
    (λ t.
    let e = eqb→eq k i t in
    rw (eq-eqb k i e) (
      λ u. ⊎_elim (λ l. inl (inl l, omega (arith, ap plan e))) (λ q. inr (q, e)) (below_or_at m n u),
      λ x. ⊎_elim (λ u. ⊎_elim (λ l. omega arith) (λ l. omega (arith, l.0)) u.0) (λ u. omega (arith, u.0)) x,
    ))
    (λ t.
    let o : k ≡ i → ⊥ = neqb_ne k i t in
    rw (ne_eqb k i o)
    (⊎_elim
    (λ a.
    let l = ltb→lt i k a in
    rw (lt-ltb i k l) (
      λ u. inl (⊎_elim (λ d. inl d) (λ d. inr (d, l)) (below_or_at m n (omega arith)), omega arith),
      λ x. ⊎_elim (λ u. ⊎_elim (λ d. omega (arith, u.1)) (λ d. omega (arith, d.0, u.1)) u.0) (λ u. absurd (o u.1)) x,
    ))
    (λ a.
    let l = nltb→le i k a in
    rw (le-ltb i k l) (
      λ u. inl (inl (omega arith), omega arith),
      λ x. ⊎_elim (λ u. ⊎_elim (λ d. omega (arith, u.1)) (λ d. absurd (omega (arith, d.1))) u.0) (λ u. absurd (o u.1)) x,
    ))
    (test (ltb i k))))
    (test (eqb k i))

pub trial_can_carry : (j : Job) (plan : ℕ → ℕ) (n i : ℕ) → n ≤ plan i → CanCarryOnly j (Trial plan n i) ↔ CanCarry j (tried plan n i)
trial_can_carry j plan n i h = (
  can_carry_same j (Trial plan n i) (λ k m. m < tried plan n i k) (λ k m r. let e = trial_iff plan n i h k m in (e.1, e.0)),
  can_carry_same j (λ k m. m < tried plan n i k) (Trial plan n i) (λ k m r. trial_iff plan n i h k m),
)

-- The decision of layer n by the choice that is tried.
abbrev pub SettlesTried : Job → (ℕ → ℕ) → ℕ → Type 0
SettlesTried j plan n = (i : ℕ) → Layer j i n → (n < plan i) ↔ ((n ≤ plan i) × CanCarry j (tried plan n i))

pub settles_tried_iff : (j : Job) (plan : ℕ → ℕ) (n : ℕ) → Settles j plan n ↔ SettlesTried j plan n
settles_tried_iff j plan n = (
  λ s i r. (
    λ l. let u = (s i r).0 l in (u.0, (trial_can_carry j plan n i u.0).0 u.1),
    λ u. (s i r).1 (u.0, (trial_can_carry j plan n i u.0).1 u.1),
  ),
  λ s i r. (
    λ l. let u = (s i r).0 l in (u.0, (trial_can_carry j plan n i u.0).1 u.1),
    λ u. (s i r).1 (u.0, (trial_can_carry j plan n i u.0).0 u.1),
  ),
)

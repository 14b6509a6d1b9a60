-- Lemmas. What refusals as numbers say, and what composed ones say from their parts. Assumes
-- nothing.
use Rattle.std.specs.Prelude.{ℕ, ◌≤◌, ◌<◌, ◌≡◌, refl, Bool, true, false, ◌&&◌, ◌↔◌, T, eqb}
use Rattle.std.proofs.Common.{arith, T_not, eqb→eq, eq-eqb, ne_eqb}
use Rattle.std.proofs.Math.Dec.{eqb_refl}
use Rattle.theory_basics.specs.lemmas.Tests.{by_cond, T_and, and_T}
use Rattle.theory_basics.specs.Refusals.{unless, ◌or_else◌}

-- A number that a call answers and the code finds to be none.
pub found_none : {k refusal : ℕ} → k ≡ refusal → k ≤ 0 → refusal ≡ 0
found_none e h = omega arith

-- No refusal n exactly if the test holds.
pub unless_iff : (n : ℕ) (b : Bool) → 0 < n → (unless n b ≡ 0) ↔ T b
unless_iff n true h = (λ e. tt, λ t. refl)
unless_iff n false h = (λ e. absurd (omega arith), λ t. absurd t)

-- No refusal of two exactly if neither refuses.
pub or_else_iff : (a b : ℕ) → ((a or_else b) ≡ 0) ↔ ((a ≡ 0) × (b ≡ 0))
or_else_iff a b = (
  by_cond
      (λ (r : ℕ). r ≡ 0 → (a ≡ 0) × (b ≡ 0))
      (eqb a 0)
      (λ t e. (eqb→eq a 0 t, e))
      (λ t e. absurd (T_not (eqb a 0) t (rw e (eqb_refl 0)))),
  λ p. rw (eq-eqb a 0 p.0) p.1,
)

pub or_else_none : (a b : ℕ) → a ≡ 0 → (a or_else b) ≡ b
or_else_none a b e = rw (eq-eqb a 0 e)

pub or_else_some : (a b : ℕ) → (a ≡ 0 → ⊥) → (a or_else b) ≡ a
or_else_some a b n = rw (ne_eqb a 0 n)

-- ---- what a composed refusal says, from what its parts say

pub and_as : {P Q : Type 0} (a b : Bool) → (T a ↔ P) → (T b ↔ Q) → T (a && b) ↔ (P × Q)
and_as a b p q = (λ t. let u = and_T a b t in (p.0 u.0, q.0 u.1), λ x. T_and a b (p.1 x.0) (q.1 x.1))

pub unless_as : {P : Type 0} (n : ℕ) (b : Bool) → 0 < n → (T b ↔ P) → (unless n b ≡ 0) ↔ P
unless_as n b h p = (λ e. p.0 ((unless_iff n b h).0 e), λ x. (unless_iff n b h).1 (p.1 x))

pub or_else_as : {P Q : Type 0} (a b : ℕ) → ((a ≡ 0) ↔ P) → ((b ≡ 0) ↔ Q) → ((a or_else b) ≡ 0) ↔ (P × Q)
or_else_as a b p q = (
  λ e. let u = (or_else_iff a b).0 e in (p.0 u.0, q.0 u.1),
  λ x. (or_else_iff a b).1 (p.1 x.0, q.1 x.1),
)

-- ---- the highest number

pub unless_most : (m n : ℕ) (b : Bool) → n ≤ m → unless n b ≤ m
unless_most m n true h = omega arith
unless_most m n false h = h

pub or_else_most : (m a b : ℕ) → a ≤ m → b ≤ m → (a or_else b) ≤ m
or_else_most m a b g h = by_cond (λ (r : ℕ). r ≤ m) (eqb a 0) (λ t. h) (λ t. g)

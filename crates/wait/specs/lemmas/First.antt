-- Lemmas. The first number of a range that passes: what it is where there is one, and what 0 says.
-- Assumes nothing.
use Rattle.std.specs.Prelude.{ℕ, zero, suc, ◌+◌, ◌≤◌, ◌<◌, ◌≡◌, refl, Bool, not, T, ltb}
use Rattle.std.proofs.Common.{⊎_elim, arith, ltb→lt, nltb→le}
use Rattle.theory_basics.specs.lemmas.Tests.{by_cond, test}
use Rattle.wait.specs.Answer.{first_from}

-- r is the first of s .. s + n - 1 that passes.
pub record First (p : ℕ → Bool) (s n r : ℕ) : Type 0 where
  pub low : s ≤ r
  pub high : r < s + n
  pub passes : T (p r)
  pub least : (k : ℕ) → s ≤ k → k < r → T (not (p k))

pub first_some : (p : ℕ → Bool) (s n : ℕ) → 1 ≤ s → 0 < first_from p s n → First p s n (first_from p s n)
first_some p s zero g h = absurd (omega arith)
first_some p s (suc n) g h =
    by_cond (λ (r : ℕ). 0 < r → First p s (suc n) r) (p s)
    (λ t u. record { low = omega arith; high = omega arith; passes = t; least = λ k a b. absurd (omega arith) })
    (λ t u.
    let f = first_some p (suc s) n (omega arith) u in
    record {
      low = omega (arith, f.low);
      high = omega (arith, f.high);
      passes = f.passes;
      least = λ k a b.
          ⊎_elim (λ x. f.least k (ltb→lt s k x) b) (λ x. let e : k ≡ s = omega (arith, nltb→le s k x) in rw e t) (test (ltb s k));
    })
    h

pub first_none : (p : ℕ → Bool) (s n : ℕ) → 1 ≤ s → first_from p s n ≡ 0 → (k : ℕ) → s ≤ k → k < s + n → T (not (p k))
first_none p s zero g h k a b = absurd (omega arith)
first_none p s (suc n) g h k a b =
    by_cond (λ (r : ℕ). r ≡ 0 → T (not (p k))) (p s)
    (λ t e. absurd (omega arith))
    (λ t e.
    ⊎_elim (λ x. first_none p (suc s) n (omega arith) e k (ltb→lt s k x) (omega arith)) (λ x. let q : k ≡ s = omega (arith, nltb→le s k x) in rw q t) (test (ltb s k)))
    h

-- It depends on the test within the range alone.
pub first_same : (p q : ℕ → Bool) (s n : ℕ) → ((k : ℕ) → s ≤ k → k < s + n → p k ≡ q k) → first_from p s n ≡ first_from q s n
first_same p q s zero h = refl
first_same p q s (suc n) h = rw (first_same p q (suc s) n (λ k u v. h k (omega arith) (omega arith)), h s (omega arith) (omega arith))

pub first_below : (p : ℕ → Bool) (s n : ℕ) → 1 ≤ s → first_from p s n < s + n
first_below p s zero h = omega arith
first_below p s (suc n) h = by_cond (λ (r : ℕ). r < s + suc n) (p s) (λ t. omega arith) (λ t. omega (arith, first_below p (suc s) n (omega arith)))

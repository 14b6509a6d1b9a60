-- Lemmas. The greatest of some numbers: each is at most a bound exactly if the greatest is. Assumes
-- nothing.
use Rattle.std.specs.Prelude.{ℕ, max, ◌≡◌, List, [], ◌∷◌, leb}
use Rattle.std.specs.List.{fold}
use Rattle.std.proofs.Common.{arith}
use Rattle.theory_basics.specs.Tests.{all}
use Rattle.theory_basics.specs.lemmas.Tests.{leb_iff, same_test, T_and, and_T}
use Rattle.job.specs.Refusal.{within}
use Rattle.job.specs.Theorems.{within_iff}

abbrev pub greatest : List ℕ → ℕ
greatest l = fold max 0 l

fold_from : (m : ℕ) (l : List ℕ) → fold max m l ≡ max m (greatest l)
fold_from m [] = omega arith
fold_from m (x ∷ xs) = omega (arith, fold_from (max m x) xs, fold_from (max 0 x) xs)

pub greatest_cons : (x : ℕ) (xs : List ℕ) → greatest (x ∷ xs) ≡ max x (greatest xs)
greatest_cons x xs = omega (arith, fold_from (max 0 x) xs)

pub greatest_within : (hi : ℕ) (l : List ℕ) → leb (greatest l) hi ≡ all (within 0 hi) l
greatest_within hi [] = same_test (leb 0 hi) _ (λ t. tt) (λ t. (leb_iff 0 hi).1 (omega arith))
greatest_within hi (x ∷ xs) =
    let r = greatest_within hi xs in
    rw (greatest_cons x xs)
    (same_test
    (leb (max x (greatest xs)) hi)
    _
    (λ t.
    let u = (leb_iff (max x (greatest xs)) hi).0 t in
    T_and (within 0 hi x) (all (within 0 hi) xs) ((within_iff 0 hi x).1 (record { low = omega arith; high = omega arith })) (rw r at ((leb_iff (greatest xs) hi).1 (omega arith))))
    (λ t.
    let u = and_T (within 0 hi x) (all (within 0 hi) xs) t in
    let v = (leb_iff (greatest xs) hi).0 (rw r u.1) in
    let w = (within_iff 0 hi x).0 u.0 in
    (leb_iff (max x (greatest xs)) hi).1 (omega (arith, w.high))))

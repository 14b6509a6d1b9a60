-- Lemmas. Sums over the numbers of a range that pass a test, one number more or less, and over an
-- ascending list. In general: nothing here knows of jobs.
use Rattle.std.specs.Prelude.{ℕ, zero, suc, ◌+◌, ◌≤◌, ◌≡◌, refl, Bool, true, false, not, cond, ◌&&◌, ◌||◌, List, [], ◌∷◌, T, eqb}
use Rattle.std.proofs.Common.{⊎_elim, arith, eq-eqb, eqb→eq}
use Rattle.theory_basics.specs.Sums.{pre}
use Rattle.theory_basics.specs.lemmas.Tests.{test, not_T_false}
use Rattle.theory_basics.specs.lemmas.Ranges.{point, point_in, pre_add, pre_cong, pre_zero}
use Rattle.theory_basics.specs.Lists.{has}
use Rattle.theory_plan.specs.lemmas.Queue.{has_low}
use Rattle.theory_plan.specs.Bases.{kept_bytes, Asc}

-- f over those of 1 .. n that pass. With f 1 everywhere it is `count`.
abbrev pub total : (ℕ → ℕ) → (ℕ → Bool) → ℕ → ℕ
total f p n = pre (λ k. cond (p k) (f k) 0) n

-- All but m; m too.
abbrev pub less : (ℕ → Bool) → ℕ → ℕ → Bool
less p m k = p k && not (eqb m k)

abbrev pub more : (ℕ → Bool) → ℕ → ℕ → Bool
more p m k = p k || eqb m k

pub total_cong : (f : ℕ → ℕ) (p q : ℕ → Bool) (n : ℕ) → ((k : ℕ) → 1 ≤ k → k ≤ n → p k ≡ q k) → total f p n ≡ total f q n
total_cong f p q n h = pre_cong (λ k. cond (p k) (f k) 0) (λ k. cond (q k) (f k) 0) n (λ k u v. rw (h k u v))

pub total_mono : (f : ℕ → ℕ) (p q : ℕ → Bool) (n : ℕ) → ((k : ℕ) → 1 ≤ k → k ≤ n → T (p k) → T (q k)) → total f p n ≤ total f q n
total_mono f p q zero h = omega arith
total_mono f p q (suc n) h =
    omega (arith, total_mono f p q n (λ k u v t. h k u (omega arith) t), one (f (suc n)) (p (suc n)) (q (suc n)) (h (suc n) (omega arith) (omega arith)))
  where
    one : (x : ℕ) (a b : Bool) → (T a → T b) → cond a x 0 ≤ cond b x 0
    one x true true g = omega arith
    one x true false g = absurd (g tt)
    one x false b g = omega arith

pub total_less : (f : ℕ → ℕ) (p : ℕ → Bool) (m n : ℕ) → T (p m) → 1 ≤ m → m ≤ n → total f (less p m) n + f m ≡ total f p n
total_less f p m n t u v =
    omega (
      arith,
      pre_cong (λ k. cond (p k) (f k) 0) (λ k. cond (less p m k) (f k) 0 + point m (f m) k) n (λ k a b. one k),
      pre_add (λ k. cond (less p m k) (f k) 0) (point m (f m)) n,
      point_in m (f m) n u v,
    )
  where
    by : (b : Bool) (x : ℕ) → T b → cond b x 0 ≡ cond (b && false) x 0 + x
    by true x t = omega arith
    by false x t = absurd t

    by' : (b : Bool) (x : ℕ) → cond b x 0 ≡ cond (b && true) x 0 + 0
    by' true x = omega arith
    by' false x = omega arith

    one : (k : ℕ) → cond (p k) (f k) 0 ≡ cond (less p m k) (f k) 0 + point m (f m) k
    one k =
        ⊎_elim
        (λ w. let e = eqb→eq m k w in rw (← e, eq-eqb m m refl) (by (p m) (f m) t))
        (λ w. rw (not_T_false (eqb m k) w) (by' (p k) (f k)))
        (test (eqb m k))

pub total_more : (f : ℕ → ℕ) (p : ℕ → Bool) (m n : ℕ) → T (not (p m)) → 1 ≤ m → m ≤ n → total f (more p m) n ≡ total f p n + f m
total_more f p m n t u v =
    omega (
      arith,
      pre_cong (λ k. cond (more p m k) (f k) 0) (λ k. cond (p k) (f k) 0 + point m (f m) k) n (λ k a b. one k),
      pre_add (λ k. cond (p k) (f k) 0) (point m (f m)) n,
      point_in m (f m) n u v,
    )
  where
    by : (b : Bool) (x : ℕ) → T (not b) → cond (b || true) x 0 ≡ cond b x 0 + x
    by true x t = absurd t
    by false x t = omega arith

    by' : (b : Bool) (x : ℕ) → cond (b || false) x 0 ≡ cond b x 0 + 0
    by' true x = omega arith
    by' false x = omega arith

    one : (k : ℕ) → cond (more p m k) (f k) 0 ≡ cond (p k) (f k) 0 + point m (f m) k
    one k =
        ⊎_elim
        (λ w. let e = eqb→eq m k w in rw (← e, eq-eqb m m refl) (by (p m) (f m) t))
        (λ w. rw (not_T_false (eqb m k) w) (by' (p k) (f k)))
        (test (eqb m k))

-- Over an ascending list.
pub total_list : (f : ℕ → ℕ) (lo hi : ℕ) (ks : List ℕ) → 1 ≤ lo → Asc lo hi ks → total f (has ks) hi ≡ kept_bytes f ks
total_list f lo hi [] h a = pre_zero hi
total_list f lo hi (k ∷ ks) h a =
    omega (
      arith,
      pre_cong (λ i. cond (has (k ∷ ks) i) (f i) 0) (λ i. cond (has ks i) (f i) 0 + point k (f k) i) hi (λ i u v. one i),
      pre_add (λ i. cond (has ks i) (f i) 0) (point k (f k)) hi,
      point_in k (f k) hi (omega (arith, a.0)) a.1,
      total_list f (suc k) hi ks (omega arith) a.2,
    )
  where
    one : (i : ℕ) → cond (has (k ∷ ks) i) (f i) 0 ≡ cond (has ks i) (f i) 0 + point k (f k) i
    one i =
        ⊎_elim
        (λ w. let e = eqb→eq k i w in rw (← e, eq-eqb k k refl, has_low (suc k) hi ks k a.2 (omega arith)) (omega arith))
        (λ w. rw (not_T_false (eqb k i) w) (omega arith))
        (test (eqb k i))

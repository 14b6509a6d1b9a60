-- Lemmas. The first number that passes a test, and as many as there is room for. Assumes nothing.
use Rattle.std.specs.Prelude.{ℕ, zero, suc, ◌+◌, ◌≤◌, ◌<◌, min, ◌≡◌, refl, Bool, not, ◌&&◌, ◌⊎◌, T, leb, eqb}
use Rattle.std.proofs.Common.{sym, subst, inl, inr, ⊎_elim, arith, T_not, leb→le, eqb→eq}
use Rattle.std.proofs.Math.Dec.{not_T, nleb→lt}
use Rattle.theory_basics.specs.Sums.{count}
use Rattle.theory_basics.specs.lemmas.Ranges.{bit_le, bit_no, bit_yes, count_mono}
use Rattle.theory_basics.specs.lemmas.Tests.{and_T, last, T_and, test}
use Rattle.theory_live.specs.Statement.{first_that}

-- ---- as many as there is room for

-- Those that pass, while their count beside h is at most most, are beside h at most most.
pub room : (f : ℕ → Bool) (h most n : ℕ) → h ≤ most → h + count (λ i. f i && leb (h + count f i) most) n ≤ most
room f h most zero l = omega arith
room f h most (suc n) l =
    ⊎_elim
    (λ t.
    let u = and_T (f (suc n)) (leb (h + count f (suc n)) most) t in
    let v = leb→le (h + count f (suc n)) most u.1 in
    omega (arith, v, count_mono (λ i. f i && leb (h + count f i) most) f (suc n) (λ i a b w. (and_T (f i) (leb (h + count f i) most) w).0)))
    (λ t. omega (arith, bit_no (f (suc n) && leb (h + count f (suc n)) most) t, room f h most n l))
    (test (f (suc n) && leb (h + count f (suc n)) most))

-- They are as many as there is room for.
pub room_filled : (f : ℕ → Bool) (h most n : ℕ) → h ≤ most → h + count (λ i. f i && leb (h + count f i) most) n ≡ min most (h + count f n)
room_filled f h most zero l = omega arith
room_filled f h most (suc n) l =
    let r = room_filled f h most n l in
    ⊎_elim
    (λ t.
    let y = bit_yes (f (suc n)) t in
    ⊎_elim
    (λ u.
    let b = bit_yes (f (suc n) && leb (h + count f (suc n)) most) (T_and (f (suc n)) (leb (h + count f (suc n)) most) t u) in
    omega (arith, r, y, b, leb→le (h + count f (suc n)) most u))
    (λ u.
    let b = bit_no (f (suc n) && leb (h + count f (suc n)) most) (not_T (f (suc n) && leb (h + count f (suc n)) most) (λ v. T_not (leb (h + count f (suc n)) most) u (and_T (f (suc n)) (leb (h + count f (suc n)) most) v).1)) in
    omega (arith, r, y, b, nleb→lt (h + count f (suc n)) most u))
    (test (leb (h + count f (suc n)) most)))
    (λ t.
    let y = bit_no (f (suc n)) t in
    let b = bit_no (f (suc n) && leb (h + count f (suc n)) most) (not_T (f (suc n) && leb (h + count f (suc n)) most) (λ v. T_not (f (suc n)) t (and_T (f (suc n)) (leb (h + count f (suc n)) most) v).0)) in
    omega (arith, r, y, b))
    (test (f (suc n)))

-- Those that pass one of two tests.
pub count_either : (p a b : ℕ → Bool) (n : ℕ) → ((i : ℕ) → 1 ≤ i → i ≤ n → T (p i) → T (a i) ⊎ T (b i)) → count p n ≤ count a n + count b n
count_either p a b zero f = omega arith
count_either p a b (suc n) f =
    let r = count_either p a b n (λ i u v. f i u (omega arith)) in
    ⊎_elim
    (λ t.
    ⊎_elim
    (λ u. omega (arith, r, bit_le (p (suc n)), bit_yes (a (suc n)) u))
    (λ u. omega (arith, r, bit_le (p (suc n)), bit_yes (b (suc n)) u))
    (f (suc n) (omega arith) (omega arith) t))
    (λ t. omega (arith, r, bit_no (p (suc n)) t))
    (test (p (suc n)))

-- ---- the first that passes

-- Up to n none passes, and the first is n + 1; or the first is of 1 .. n, passes, and none before
-- it does.
pub record Found (f : ℕ → Bool) (n : ℕ) : Type 0 where
  pub low : 1 ≤ first_that f n
  pub at_most : first_that f n ≤ suc n
  pub before : (i : ℕ) → 1 ≤ i → i < first_that f n → T (not (f i))
  pub passes : first_that f n ≤ n → T (f (first_that f n))

none_so_far : (f : ℕ → Bool) (n : ℕ) → count f n ≡ 0 → (i : ℕ) → 1 ≤ i → i ≤ n → T (not (f i))
none_so_far f zero e i g h = absurd (omega arith)
none_so_far f (suc n) e i g h =
    ⊎_elim
    (λ l. none_so_far f n (omega arith) i g l)
    (λ s. rw s (not_T (f (suc n)) (λ t. omega (arith, bit_yes (f (suc n)) t))))
    (last i n h)

-- How many numbers have none up to them: all, or those before the first.
counts : (f : ℕ → Bool) (n : ℕ) → ((count f n ≡ 0) × (first_that f n ≡ suc n)) ⊎ ((1 ≤ count f n) × (first_that f n ≤ n) × T (f (first_that f n)))
counts f zero = inl (refl, refl)
counts f (suc n) =
    ⊎_elim
    (λ c.
    ⊎_elim
    (λ t.
    let y = bit_yes (f (suc n)) t in
    let z : count f (suc n) ≡ 1 = omega (arith, c.0, y) in
    let w = bit_no (eqb (count f (suc n)) 0) (not_T (eqb (count f (suc n)) 0) (λ u. omega (arith, eqb→eq (count f (suc n)) 0 u))) in
    let e : first_that f (suc n) ≡ suc n = omega (arith, c.1, w) in
    inr (omega arith, omega arith, rw e t))
    (λ t.
    let y = bit_no (f (suc n)) t in
    let z : count f (suc n) ≡ 0 = omega (arith, c.0, y) in
    let w = bit_yes (eqb (count f (suc n)) 0) (rw z tt) in
    inl (z, omega (arith, c.1, w)))
    (test (f (suc n))))
    (λ c.
    let z : 1 ≤ count f (suc n) = omega (arith, c.0) in
    let w = bit_no (eqb (count f (suc n)) 0) (not_T (eqb (count f (suc n)) 0) (λ u. omega (arith, eqb→eq (count f (suc n)) 0 u))) in
    let e : first_that f (suc n) ≡ first_that f n = omega (arith, w) in
    inr (z, omega (arith, c.1), subst (λ (k : ℕ). T (f k)) (sym e) c.2))
    (counts f n)

firsts_before : (f : ℕ → Bool) (n i : ℕ) → 1 ≤ i → i < first_that f n → i ≤ n → T (not (f i))
firsts_before f n i g h l = ⊎_elim (λ c. none_so_far f n c.0 i g l) (λ c. early f n i g h c.1) (counts f n)
  where
    -- By the count: the numbers with none up to them come first.
    early : (f : ℕ → Bool) (n i : ℕ) → 1 ≤ i → i < first_that f n → first_that f n ≤ n → T (not (f i))
    early f zero i g h l = absurd (omega arith)
    early f (suc n) i g h l =
        ⊎_elim
        (λ c. none_so_far f n c.0 i g (omega (arith, c.1, bit_le (eqb (count f (suc n)) 0))))
        (λ c.
        let w = bit_no (eqb (count f (suc n)) 0) (not_T (eqb (count f (suc n)) 0) (λ u. omega (arith, c.0, eqb→eq (count f (suc n)) 0 u))) in
        early f n i g (omega (arith, w)) c.1)
        (counts f n)

pub found : (f : ℕ → Bool) (n : ℕ) → Found f n
found f n =
    let most : first_that f n ≤ suc n = ⊎_elim (λ c. omega (arith, c.1)) (λ c. omega (arith, c.1)) (counts f n) in
    record {
      low = omega arith;
      at_most = most;
      before = λ i g h. firsts_before f n i g h (omega arith);
      passes = λ l. ⊎_elim (λ c. absurd (omega (arith, c.1))) (λ c. c.2) (counts f n);
    }

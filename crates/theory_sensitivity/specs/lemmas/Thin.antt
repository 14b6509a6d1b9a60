-- Lemmas. Chunks of z bytes that fit a forecast with b bytes more in slot t fit it without them,
-- once the first n of those due in slot t or later are left out, where b ≤ n × z. From each place
-- on, what is left needs b bytes less, or nothing. Nothing here knows of jobs.
use Rattle.std.specs.Prelude.{ℕ, zero, suc, ◌+◌, ◌*◌, ◌-◌, ◌≤◌, ◌<◌, ◌≡◌, refl, cond, List, [], ◌∷◌, ltb, length, drop}
use Rattle.std.proofs.Common.{⊎_elim, arith, ltb→lt, nltb→le, length-drop, drop-drop}
use Rattle.theory_basics.specs.Tests.{All}
use Rattle.theory_basics.specs.lemmas.Tables.{all_drop}
use Rattle.theory_basics.specs.lemmas.Tests.{all_map, by_cond, test}
use Rattle.theory_plan.specs.lemmas.Feasible.{need_of}
use Rattle.theory_plan.specs.lemmas.Ascending.{asc_without}
use Rattle.theory_plan.specs.lemmas.Need.{Feas, Tails, need_without, tails_drop}
use Rattle.theory_plan.specs.Bases.{Asc}

-- Without the first n of those due in slot t or later.
abbrev pub thin : (d : ℕ → ℕ) (t n : ℕ) → List ℕ → List ℕ
thin d t n [] = []
thin d t n (k ∷ ks) = cond (ltb (d k) t) (k ∷ thin d t n ks) (drop n (k ∷ ks))

pub thin_asc : (d : ℕ → ℕ) (t n lo hi : ℕ) (ks : List ℕ) → Asc lo hi ks → Asc lo hi (thin d t n ks)
thin_asc d t n lo hi [] a = tt
thin_asc d t n lo hi (k ∷ ks) a =
    by_cond (Asc lo hi) (ltb (d k) t) (λ u. (a.0, a.1, thin_asc d t n (suc k) hi ks a.2)) (λ u. asc_without lo hi (k ∷ ks) n a)

pub thin_length : (d : ℕ → ℕ) (t n : ℕ) (ks : List ℕ) → length ks ≤ length (thin d t n ks) + n
thin_length d t n [] = omega arith
thin_length d t n (k ∷ ks) =
    by_cond
    (λ (l : List ℕ). length (k ∷ ks) ≤ length l + n)
    (ltb (d k) t)
    {x = k ∷ thin d t n ks}
    {y = drop n (k ∷ ks)}
    (λ u. omega (arith, thin_length d t n ks))
    (λ u. omega (arith, length-drop n (k ∷ ks)))

-- A is what is forecast after a slot, and A' the same with b bytes more in slot t.
module _
    (z : ℕ) (d A A' : ℕ → ℕ) (h t b n : ℕ) (enough : b ≤ n * z) (rising : (x y : ℕ) → 1 ≤ x → x < y → d x < d y)
    (early : (x : ℕ) → x < t → A' x ≡ A x + b) (late : (x : ℕ) → t ≤ x → A' x ≡ A x) where
  at_most : (x : ℕ) → A' x ≤ A x + b
  at_most x = ⊎_elim (λ u. omega (arith, early x (ltb→lt x t u))) (λ u. omega (arith, late x (nltb→le x t u))) (test (ltb x t))

  -- Chunks due in slot t or later need the same under both.
  late_need : (ks : List ℕ) → All (λ k. t ≤ d k) ks → need_of (λ k. z) d A ks ≡ need_of (λ k. z) d A' ks
  late_need [] a = refl
  late_need (k ∷ ks) a = omega (arith, late_need ks a.1, late (d k) a.0)

  late_need_behind : (m : ℕ) (ks : List ℕ) → All (λ k. t ≤ d k) ks → need_of (λ k. z) d A (drop m ks) ≡ need_of (λ k. z) d A' (drop m ks)
  late_need_behind m ks a = late_need (drop m ks) (all_drop (λ k. t ≤ d k) m ks a)

  -- Behind a chunk due in slot t or later, all are due after slot t.
  due_behind : (lo hi : ℕ) (ks : List ℕ) → 1 ≤ lo → t ≤ d lo → Asc (suc lo) hi ks → All (λ k. t < d k) ks
  due_behind lo hi [] g l a = tt
  due_behind lo hi (k ∷ ks) g l a =
      let r = rising lo k g a.0 in
      (omega arith, due_behind k hi ks (omega (arith, a.0)) (omega arith) a.2)

  due_from_lem : (ks : List ℕ) → All (λ k. t < d k) ks → All (λ k. t ≤ d k) ks
  due_from_lem ks a = all_map (λ k. t < d k) (λ k. t ≤ d k) ks (λ x u. omega arith) a

  -- One chunk more in front, due before slot t.
  need_front :
      (k : ℕ) (ks ls : List ℕ) → d k < t → ((m : ℕ) → need_of (λ k. z) d A (drop m ls) ≤ need_of (λ k. z) d A' (drop m ks) - b) → (m : ℕ) →
      need_of (λ k. z) d A (drop m (k ∷ ls)) ≤ need_of (λ k. z) d A' (drop m (k ∷ ks)) - b
  need_front k ks ls u f zero = omega (arith, f 0, early (d k) u)
  need_front k ks ls u f (suc m) = f m

  -- From each place on, what is left needs b bytes less, or nothing.
  thin_need :
      (lo hi : ℕ) (ks : List ℕ) → 1 ≤ lo → Asc lo hi ks → (m : ℕ) →
      need_of (λ k. z) d A (drop m (thin d t n ks)) ≤ need_of (λ k. z) d A' (drop m ks) - b
  thin_need lo hi [] g a zero = omega arith
  thin_need lo hi [] g a (suc m) = omega arith
  thin_need lo hi (k ∷ ks) g a m =
      by_cond
      (λ (l : List ℕ). need_of (λ k. z) d A (drop m l) ≤ need_of (λ k. z) d A' (drop m (k ∷ ks)) - b)
      (ltb (d k) t)
      (λ u. need_front k ks (thin d t n ks) (ltb→lt (d k) t u) (thin_need (suc k) hi ks (omega arith) a.2) m)
      (λ u.
      let l = nltb→le (d k) t u in
      let r = due_from_lem ks (due_behind k hi ks (omega (arith, a.0)) l a.2) in
      let e : n + m ≡ m + n = omega arith in
      let swap : drop m (drop n (k ∷ ks)) ≡ drop n (drop m (k ∷ ks)) = rw (drop-drop m n, drop-drop n m, e) in
      rw swap (omega (arith, need_without (λ k. z) d A z (λ k. omega arith) (drop m (k ∷ ks)) n, late_need_behind m (k ∷ ks) (l, r))))

  -- Where all are due after slot t, what must fit behind each is the same under both.
  late_tails : (ks : List ℕ) → All (λ k. t < d k) ks → Tails (λ k. z) d A' h ks → Tails (λ k. z) d A h ks
  late_tails [] a f = tt
  late_tails (k ∷ ks) a f =
      (omega (arith, late_need_behind h (k ∷ ks) (due_from_lem (k ∷ ks) a), late (d k - 1) (omega (arith, a.0)), f.0), late_tails ks a.1 f.1)

  -- The first chunk may be due in slot t itself. It is left out, or n is 0 and so is b.
  late_drop :
      (m k : ℕ) (ks : List ℕ) → b ≤ m * z → t ≤ d k → All (λ k. t < d k) ks → Tails (λ k. z) d A' h (k ∷ ks) →
      Tails (λ k. z) d A h (drop m (k ∷ ks))
  late_drop zero k ks e l a f =
      (omega (arith, late_need_behind h (k ∷ ks) (l, due_from_lem ks a), at_most (d k - 1), f.0), late_tails ks a f.1)
  late_drop (suc m) k ks e l a f = tails_drop (λ k. z) d A h ks m (late_tails ks a f.1)

  thin_tails : (lo hi : ℕ) (ks : List ℕ) → 1 ≤ lo → Asc lo hi ks → Tails (λ k. z) d A' h ks → Tails (λ k. z) d A h (thin d t n ks)
  thin_tails lo hi [] g a f = tt
  thin_tails lo hi (k ∷ ks) g a f =
      by_cond
      (Tails (λ k. z) d A h)
      (ltb (d k) t)
      (λ u. (
        omega (arith, need_front k ks (thin d t n ks) (ltb→lt (d k) t u) (thin_need (suc k) hi ks (omega arith) a.2) h, at_most (d k - 1), f.0),
        thin_tails (suc k) hi ks (omega arith) a.2 f.1,
      ))
      (λ u. let l = nltb→le (d k) t u in late_drop n k ks enough l (due_behind k hi ks (omega (arith, a.0)) l a.2) f)

  pub thin_feas : (hi : ℕ) (ks : List ℕ) → Asc 1 hi ks → Feas (λ k. z) d A' h ks → Feas (λ k. z) d A h (thin d t n ks)
  thin_feas hi ks a f =
      record {
        whole = omega (arith, thin_need 1 hi ks (omega arith) a 0, at_most 0, f.whole);
        tails = thin_tails 1 hi ks (omega arith) a f.tails;
      }

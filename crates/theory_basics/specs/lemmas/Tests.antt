-- Lemmas. What tests over numbers, ranges and lists say, and laws of theirs. Assumes nothing.
use Rattle.std.specs.Prelude.{ℕ, zero, suc, ◌+◌, ◌≤◌, ◌<◌, ◌≡◌, refl, Bool, true, false, not, ◌&&◌, ◌||◌, cond, List, [], ◌∷◌, ◌++◌, ◌⊎◌, ◌↔◌, T, leb, ltb, eqb}
use Rattle.std.proofs.Common.{sym, ap, ◌∙◌, inl, inr, ⊎_elim, arith, add-one, T_not, leb→le, ltb→lt, nltb→le, eqb→eq, le→leb, lt→ltb}
use Rattle.std.proofs.Math.Bool.{and_assoc, and-true, and-false, or_assoc}
use Rattle.std.proofs.Math.Dec.{nleb→lt, eqb_refl}
use Rattle.std.proofs.lemmas.Bool.{not-true, not-false}
use Rattle.theory_basics.specs.Tests.{all_to, all_below, All, all, any, In, here, there}

-- ---- by cases

-- What holds of either branch holds of the whole.
pub by_cond {ℓ} : {A : Type ℓ} (P : A → Type 0) (b : Bool) {x y : A} → (T b → P x) → (T (not b) → P y) → P (cond b x y)
by_cond P true f g = f tt
by_cond P false f g = g tt

-- Of both branches of two, by the same test.
pub by_cond_both :
    {A B : Type 0} (P : A → B → Type 0) (b : Bool) {x y : A} {u v : B} → (T b → P x u) → (T (not b) → P y v) →
    P (cond b x y) (cond b u v)
by_cond_both P true f g = f tt
by_cond_both P false f g = g tt

-- A test holds or its negation does.
pub test : (b : Bool) → T b ⊎ T (not b)
test true = inl tt
test false = inr tt

-- The last place, or before it.
pub last : (k n : ℕ) → k ≤ suc n → (k ≤ n) ⊎ (k ≡ suc n)
last k n h = ⊎_elim (λ t. inl (leb→le k n t)) (λ t. inr (omega (arith, nleb→lt k n t))) (test (leb k n))

pub T_true : (b : Bool) → T b → b ≡ true
T_true true t = refl
T_true false t = absurd t

pub not_T_false : (b : Bool) → T (not b) → b ≡ false
not_T_false true t = absurd t
not_T_false false t = refl

pub true_T : (b : Bool) → b ≡ true → T b
true_T true e = tt
true_T false e = let z : ◌≡◌ {A = ℕ} 0 1 = cc in absurd (omega arith)

pub neqb_ne : (m n : ℕ) → T (not (eqb m n)) → m ≡ n → ⊥
neqb_ne m n t e = T_not (eqb m n) t (rw e (eqb_refl n))

-- The answer of a test that the code negates.
pub answer_true : (r b : Bool) → r ≡ b → not r ≡ false → b ≡ true
answer_true r b e f = sym e ∙ not-false r f

pub answer_false : (r b : Bool) → r ≡ b → not r ≡ true → b ≡ false
answer_false r b e f = sym e ∙ not-true r f

-- A flag of 1 or 0 says its test.
pub flag_says : (b : Bool) → eqb (cond b 1 0) 1 ≡ b
flag_says true = refl
flag_says false = refl

-- Two tests that say the same are the same.
pub same_test : (a b : Bool) → (T a → T b) → (T b → T a) → a ≡ b
same_test true true f g = refl
same_test true false f g = absurd (f tt)
same_test false true f g = absurd (g tt)
same_test false false f g = refl

-- ---- tests joined

pub T_and : (a b : Bool) → T a → T b → T (a && b)
T_and true true x y = tt
T_and true false x y = y
T_and false b x y = x

pub and_T : (a b : Bool) → T (a && b) → T a × T b
and_T true true x = (tt, tt)
and_T true false x = absurd x
and_T false b x = absurd x

pub not_and : (a b : Bool) → T (not (a && b)) → T (not a) ⊎ T (not b)
not_and true b t = inr t
not_and false b t = inl tt

pub T_and_iff : (a b : Bool) → T (a && b) ↔ (T a × T b)
T_and_iff a b = (and_T a b, λ p. T_and a b p.0 p.1)

pub T_or_iff : (a b : Bool) → T (a || b) ↔ (T a ⊎ T b)
T_or_iff true b = (λ t. inl tt, λ s. tt)
T_or_iff false b = (λ t. inr t, ⊎_elim (λ x. absurd x) (λ x. x))

pub leb_iff : (a b : ℕ) → T (leb a b) ↔ (a ≤ b)
leb_iff a b = (leb→le a b, le→leb a b)

pub ltb_iff : (a b : ℕ) → T (ltb a b) ↔ (a < b)
ltb_iff a b = (ltb→lt a b, lt→ltb a b)

pub eqb_iff : (a b : ℕ) → T (eqb a b) ↔ (a ≡ b)
eqb_iff a b = (eqb→eq a b, λ e. rw e (eqb_refl b))

pub eq_or_iff : (a b c d : ℕ) → T (eqb a b || eqb c d) ↔ ((a ≡ b) ⊎ (c ≡ d))
eq_or_iff a b c d = (
  λ t. ⊎_elim (λ x. inl (eqb→eq a b x)) (λ x. inr (eqb→eq c d x)) ((T_or_iff (eqb a b) (eqb c d)).0 t),
  λ s. (T_or_iff (eqb a b) (eqb c d)).1 (⊎_elim (λ e. inl ((eqb_iff a b).1 e)) (λ e. inr ((eqb_iff c d).1 e)) s),
)

pub if_iff : (a b : Bool) → T (not a || b) ↔ (T a → T b)
if_iff true b = (λ t x. t, λ f. f tt)
if_iff false b = (λ t x. absurd x, λ f. tt)

-- ---- every number of a range

pub all_to_at : (n : ℕ) (p : ℕ → Bool) → T (all_to n p) → (k : ℕ) → 1 ≤ k → k ≤ n → T (p k)
all_to_at zero p t k g h = absurd (omega arith)
all_to_at (suc n) p t k g h =
    let u = and_T (p (suc n)) (all_to n p) t in
    ⊎_elim (λ l. all_to_at n p u.1 k g l) (λ e. rw e u.0) (last k n h)

pub all_to_of : (n : ℕ) (p : ℕ → Bool) → ((k : ℕ) → 1 ≤ k → k ≤ n → T (p k)) → T (all_to n p)
all_to_of zero p f = tt
all_to_of (suc n) p f =
    T_and (p (suc n)) (all_to n p) (f (suc n) (omega arith) (omega arith)) (all_to_of n p (λ k g h. f k g (omega arith)))

pub all_to_iff : (n : ℕ) (p : ℕ → Bool) → T (all_to n p) ↔ ((k : ℕ) → 1 ≤ k → k ≤ n → T (p k))
all_to_iff n p = (all_to_at n p, all_to_of n p)

pub all_below_iff : (n : ℕ) (p : ℕ → Bool) → T (all_below n p) ↔ ((k : ℕ) → k < n → T (p k))
all_below_iff zero p = (λ t k h. absurd (omega arith), λ f. tt)
all_below_iff (suc n) p =
    let r = all_below_iff n p in (
      λ t k h.
          let u = and_T (p n) (all_below n p) t in
          ⊎_elim
          (λ l. r.0 u.1 k (ltb→lt k n l))
          (λ l. let e : k ≡ n = omega (arith, nltb→le k n l) in rw e u.0)
          (test (ltb k n)),
      λ f. T_and (p n) (all_below n p) (f n (omega arith)) (r.1 (λ k h. f k (omega arith))),
    )

-- ---- one place more, a place that fails, the same at every place

pub all_to_more : (n : ℕ) (p : ℕ → Bool) → all_to (n + 1) p ≡ p (n + 1) && all_to n p
all_to_more n p = rw add-one

pub all_to_holds : (n : ℕ) (p : ℕ → Bool) → all_to n p ≡ true → p (n + 1) ≡ true → all_to (n + 1) p ≡ true
all_to_holds n p h k = all_to_more n p ∙ rw (k, h)

pub all_to_not : (n m : ℕ) (p : ℕ → Bool) → n < m → p (n + 1) ≡ false → all_to m p ≡ false
all_to_not n zero p h k = absurd (omega arith)
all_to_not n (suc m) p h k =
    ⊎_elim
    (λ l. ap (λ (b : Bool). p (suc m) && b) (all_to_not n m p l k) ∙ and-false (p (suc m)))
    (λ e. let q : n + 1 ≡ suc m = omega arith in ap (λ (b : Bool). b && all_to m p) (rw q at k))
    (last (suc n) m h)

pub all_to_cong : (n : ℕ) (p q : ℕ → Bool) → ((k : ℕ) → 1 ≤ k → k ≤ n → p k ≡ q k) → all_to n p ≡ all_to n q
all_to_cong zero p q h = refl
all_to_cong (suc n) p q h = rw (h (suc n) (omega arith) (omega arith), all_to_cong n p q (λ k u v. h k u (omega arith)))

pub all_below_cong : (n : ℕ) (p q : ℕ → Bool) → ((k : ℕ) → k < n → p k ≡ q k) → all_below n p ≡ all_below n q
all_below_cong zero p q h = refl
all_below_cong (suc n) p q h = rw (h n (omega arith), all_below_cong n p q (λ k u. h k (omega arith)))

-- ---- every element of a list, some element of a list

module _ {A : Type 0} where
  pub all_All : (p : A → Bool) (P : A → Type 0) → ((x : A) → T (p x) → P x) → (l : List A) → T (all p l) → All P l
  all_All p P f [] t = tt
  all_All p P f (x ∷ xs) t = let u = and_T (p x) (all p xs) t in (f x u.0, all_All p P f xs u.1)

  pub All_all : (p : A → Bool) (P : A → Type 0) → ((x : A) → P x → T (p x)) → (l : List A) → All P l → T (all p l)
  All_all p P f [] t = tt
  All_all p P f (x ∷ xs) t = T_and (p x) (all p xs) (f x t.0) (All_all p P f xs t.1)

  pub all_iff : (p : A → Bool) (P : A → Type 0) → ((x : A) → T (p x) ↔ P x) → (l : List A) → T (all p l) ↔ All P l
  all_iff p P f l = (all_All p P (λ x. (f x).0) l, All_all p P (λ x. (f x).1) l)

  pub all_snoc : (p : A → Bool) (l : List A) (x : A) → all p (l ++ (x ∷ [])) ≡ all p l && p x
  all_snoc p [] x = and-true (p x)
  all_snoc p (y ∷ l) x = ap (λ (b : Bool). p y && b) (all_snoc p l x) ∙ sym (and_assoc (p y) (all p l) (p x))

  pub at_row : (P : A → Type 0) {x : A} {l : List A} → In x l → All P l → P x
  at_row P here a = a.0
  at_row P (there i) a = at_row P i a.1

  pub each_row : (P : A → Type 0) (l : List A) → ((x : A) → In x l → P x) → All P l
  each_row P [] f = tt
  each_row P (x ∷ xs) f = (f x here, each_row P xs (λ y i. f y (there i)))

  pub any_row_lem : (p : A → Bool) {x : A} {l : List A} → In x l → T (p x) → T (any p l)
  any_row_lem p {x = x} (here {xs = xs}) t = (T_or_iff (p x) (any p xs)).1 (inl t)
  any_row_lem p (there {y = y} {xs = xs} i) t = (T_or_iff (p y) (any p xs)).1 (inr (any_row_lem p i t))

  pub all_map : (P Q : A → Type 0) (l : List A) → ((x : A) → P x → Q x) → All P l → All Q l
  all_map P Q [] f a = tt
  all_map P Q (x ∷ xs) f a = (f x a.0, all_map P Q xs f a.1)

  pub all_append : (P : A → Type 0) (a b : List A) → All P a → All P b → All P (a ++ b)
  all_append P [] b u v = v
  all_append P (x ∷ xs) b u v = (u.0, all_append P xs b u.1 v)

  -- Two lists, one after the other.
  pub in_append : {x : A} (a b : List A) → In x (a ++ b) → In x a ⊎ In x b
  in_append [] b i = inr i
  in_append (y ∷ ys) b here = inl here
  in_append (y ∷ ys) b (there i) = ⊎_elim (λ u. inl (there u)) (λ u. inr u) (in_append ys b i)

  pub in_left : {x : A} (a b : List A) → In x a → In x (a ++ b)
  in_left [] b i = absurd (at_row (λ x. ⊥) i tt)
  in_left (y ∷ ys) b here = here
  in_left (y ∷ ys) b (there i) = there (in_left ys b i)

  pub in_right : {x : A} (a b : List A) → In x b → In x (a ++ b)
  in_right [] b i = i
  in_right (y ∷ ys) b i = there (in_right ys b i)

  pub any_append : (p : A → Bool) (a b : List A) → any p (a ++ b) ≡ (any p a || any p b)
  any_append p [] b = refl
  any_append p (x ∷ xs) b = ap (λ (c : Bool). p x || c) (any_append p xs b) ∙ sym (or_assoc (p x) (any p xs) (any p b))

-- What `simp` may rewrite tests by.
pub ruleset tests = (T_and_iff, eq_or_iff, if_iff, leb_iff, ltb_iff, eqb_iff, all_to_iff)

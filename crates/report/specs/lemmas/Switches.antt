-- Lemmas. The differences between neighbours in a list of pictures, as a pass over the chunks meets
-- them: one picture more, how large they can be, and where there are few pictures or no skipped
-- chunk. Assumes nothing.
use Rattle.std.specs.Prelude.{ℕ, zero, suc, ◌+◌, ◌*◌, ◌-◌, ◌≤◌, ◌≡◌, refl, Bool, true, false, cond, List, [], ◌∷◌, ◌++◌, length, Option, Some, None}
use Rattle.std.specs.Option.{option_or}
use Rattle.std.proofs.Common.{ap, ◌∙◌, append-nil, arith, mul-le-mul_right, length-append}
use Rattle.theory_basics.specs.Tests.{All}
use Rattle.theory_basics.specs.lemmas.Tests.{all_append}
use Rattle.theory_basics.specs.Sums.{pre, count}
use Rattle.theory_basics.specs.lemmas.Ranges.{count_small}
use Rattle.report.specs.Report.{apart, differences, those}
use Rattle.report.specs.lemmas.Bounds.{apart_most}
use Rattle.report.specs.lemmas.Tables.{change_of, last_of}

-- ---- one picture more

differences_snoc : (l : List ℕ) (x : ℕ) → differences (l ++ (x ∷ [])) ≡ differences l + change_of (last_of l) (Some x)
differences_snoc [] x = refl
differences_snoc (y ∷ []) x = omega arith
differences_snoc (y ∷ (z ∷ zs)) x = omega (arith, differences_snoc (z ∷ zs) x)

last_snoc : (l : List ℕ) (x : ℕ) → last_of (l ++ (x ∷ [])) ≡ Some x
last_snoc [] x = refl
last_snoc (y ∷ []) x = refl
last_snoc (y ∷ (z ∷ zs)) x = last_snoc (z ∷ zs) x

change_nothing : (last : Option ℕ) → change_of last None ≡ 0
change_nothing None = refl
change_nothing (Some a) = refl

module _ (l : List ℕ) (x : ℕ) where
  differences_one : (b : Bool) → differences (l ++ cond b (x ∷ []) []) ≡ differences l + change_of (last_of l) (cond b (Some x) None)
  differences_one true = differences_snoc l x
  differences_one false = omega (arith, ap differences (append-nil l), change_nothing (last_of l))

  last_one : (b : Bool) → last_of (l ++ cond b (x ∷ []) []) ≡ option_or (cond b (Some x) None) (last_of l)
  last_one true = last_snoc l x
  last_one false = ap last_of (append-nil l)

module _ (p : ℕ → Bool) (f : ℕ → ℕ) where
  -- What a chunk shows.
  abbrev pub picture_at : ℕ → Option ℕ
  picture_at i = cond (p i) (Some (f i)) None

  pub differences_more : (n : ℕ) → differences (those p f (suc n)) ≡ differences (those p f n) + change_of (last_of (those p f n)) (picture_at (suc n))
  differences_more n = differences_one (those p f n) (f (suc n)) (p (suc n))

  pub last_more : (n : ℕ) → last_of (those p f (suc n)) ≡ option_or (picture_at (suc n)) (last_of (those p f n))
  last_more n = last_one (those p f n) (f (suc n)) (p (suc n))

-- ---- how many there are, and how large their differences

one_length : (b : Bool) (x : ℕ) → length (cond b (x ∷ []) []) ≡ cond b 1 0
one_length true x = refl
one_length false x = refl

one_most : (b : Bool) (x most : ℕ) → x ≤ most → All (λ (y : ℕ). y ≤ most) (cond b (x ∷ []) [])
one_most true x most h = (h, tt)
one_most false x most h = tt

pub those_length : (p : ℕ → Bool) (f : ℕ → ℕ) (n : ℕ) → length (those p f n) ≡ count p n
those_length p f zero = refl
those_length p f (suc n) =
    omega (
      arith,
      length-append (those p f n) (cond (p (suc n)) (f (suc n) ∷ []) []),
      those_length p f n,
      one_length (p (suc n)) (f (suc n)),
    )

those_most : (p : ℕ → Bool) (f : ℕ → ℕ) (most n : ℕ) → ((i : ℕ) → f i ≤ most) → All (λ (y : ℕ). y ≤ most) (those p f n)
those_most p f most zero h = tt
those_most p f most (suc n) h =
    all_append (λ (y : ℕ). y ≤ most) (those p f n) (cond (p (suc n)) (f (suc n) ∷ []) []) (those_most p f most n h) (one_most (p (suc n)) (f (suc n)) most (h (suc n)))

each_most : (most : ℕ) (l : List ℕ) → All (λ (y : ℕ). y ≤ most) l → differences l ≤ length l * most
each_most most [] a = omega arith
each_most most (x ∷ []) a = omega arith
each_most most (x ∷ (y ∷ ys)) a = omega (arith, apart_most x y most a.0 a.1.0, each_most most (y ∷ ys) a.1)

pub differences_most : (p : ℕ → Bool) (f : ℕ → ℕ) (most n : ℕ) → ((i : ℕ) → f i ≤ most) → differences (those p f n) ≤ n * most
differences_most p f most n h =
    let few : length (those p f n) ≤ n = omega (arith, those_length p f n, count_small n p) in
    omega (arith, each_most most (those p f n) (those_most p f most n h), mul-le-mul_right most few)

pub differences_few : (l : List ℕ) → length l ≤ 1 → differences l ≡ 0
differences_few [] h = refl
differences_few (x ∷ []) h = refl
differences_few (x ∷ (y ∷ ys)) h = absurd (omega arith)

-- ---- the same chunks, and all chunks

pub those_cong : (p q : ℕ → Bool) (f g : ℕ → ℕ) (n : ℕ) → ((i : ℕ) → 1 ≤ i → i ≤ n → p i ≡ q i) → ((i : ℕ) → 1 ≤ i → i ≤ n → f i ≡ g i) → those p f n ≡ those q g n
those_cong p q f g zero h k = refl
those_cong p q f g (suc n) h k =
    rw (
      those_cong p q f g n (λ i u v. h i u (omega arith)) (λ i u v. k i u (omega arith)),
      h (suc n) (omega arith) (omega arith),
      k (suc n) (omega arith) (omega arith),
    )

-- Where every number passes, neighbours in the list are neighbouring numbers.
pub differences_all : (p : ℕ → Bool) (f : ℕ → ℕ) (n : ℕ) → ((i : ℕ) → 1 ≤ i → i ≤ n → p i ≡ true) → differences (those p f n) ≡ pre (λ i. apart (f i) (f (i + 1))) (n - 1)
differences_all p f zero h = refl
differences_all p f (suc zero) h = rw (h 1 (omega arith) (omega arith))
differences_all p f (suc (suc n)) h =
    let a : p (suc n) ≡ true = h (suc n) (omega arith) (omega arith) in
    let b : p (suc (suc n)) ≡ true = h (suc (suc n)) (omega arith) (omega arith) in
    let last : last_of (those p f (suc n)) ≡ Some (f (suc n)) = last_more p f n ∙ rw a in
    let more : differences (those p f (suc (suc n))) ≡ differences (those p f (suc n)) + apart (f (suc n)) (f (suc (suc n))) = differences_more p f (suc n) ∙ rw (b, last) in
    let g : ℕ → ℕ = λ i. apart (f i) (f (i + 1)) in
    let e : suc n + 1 ≡ suc (suc n) = omega arith in
    let u : suc n - 1 ≡ n = omega arith in
    let v : suc (suc n) - 1 ≡ suc n = omega arith in
    omega (arith, more, differences_all p f (suc n) (λ i u v. h i u (omega arith)), ap (λ (m : ℕ). apart (f (suc n)) (f m)) e, ap (pre g) u, ap (pre g) v)

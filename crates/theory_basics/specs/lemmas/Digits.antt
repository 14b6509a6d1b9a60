-- Lemmas. Decimal digits: one more, how many there are, that they read back, have no leading zero
-- and are digits. Assumes nothing.
use Rattle.std.specs.Prelude.{ℕ, zero, suc, ◌+◌, ◌*◌, ◌-◌, ◌/◌, ◌%◌, ◌^◌, ◌≤◌, ◌<◌, ◌≡◌, refl, List, [], ◌∷◌, ◌++◌, length, get_or, ltb}
use Rattle.std.proofs.Common.{sym, ap, ◌∙◌, ⊎_elim, arith, pow-suc, length-append, ltb→lt, nltb→le, lt-ltb, le-ltb}
use Rattle.std.proofs.Math.ListN.{get_or-append}
use Rattle.theory_basics.specs.Tests.{All}
use Rattle.theory_basics.specs.lemmas.Tests.{all_append, by_cond, test}
use Rattle.theory_basics.specs.Text.{digits_in, digits, read_on}

-- ---- digits one by one

in_one : (p n : ℕ) → n < 10 → digits_in (suc p) n ≡ (48 + n) ∷ []
in_one p n h = rw (lt-ltb n 10 h)

in_more : (p n : ℕ) → 10 ≤ n → digits_in (suc p) n ≡ digits_in p (n / 10) ++ ((48 + n % 10) ∷ [])
in_more p n h = rw (le-ltb n 10 h)

-- More places than needed change nothing.
in_same : (p q n : ℕ) → n < p → n < q → digits_in p n ≡ digits_in q n
in_same zero q n u v = absurd (omega arith)
in_same (suc p) zero n u v = absurd (omega arith)
in_same (suc p) (suc q) n u v =
    ⊎_elim
    (λ t. let h = ltb→lt n 10 t in in_one p n h ∙ sym (in_one q n h))
    (λ t.
    let h = nltb→le n 10 t in
    in_more p n h
    ∙ ap (λ (l : List ℕ). l ++ ((48 + n % 10) ∷ [])) (in_same p q (n / 10) (omega arith) (omega arith))
    ∙ sym (in_more q n h))
    (test (ltb n 10))

pub digits_one : (n : ℕ) → n < 10 → digits n ≡ (48 + n) ∷ []
unfolding digits
digits_one n h = in_one n n h

pub digits_more : (n : ℕ) → 10 ≤ n → digits n ≡ digits (n / 10) ++ ((48 + n % 10) ∷ [])
unfolding digits
digits_more n h =
    in_more n n h ∙ ap (λ (l : List ℕ). l ++ ((48 + n % 10) ∷ [])) (in_same n (suc (n / 10)) (n / 10) (omega arith) (omega arith))

pub digits_length : (n : ℕ) → 10 ≤ n → length (digits n) ≡ length (digits (n / 10)) + 1
digits_length n h = ap length (digits_more n h) ∙ length-append (digits (n / 10)) ((48 + n % 10) ∷ [])

-- ---- how many

in_few : (p k n : ℕ) → n < 10 ^ suc k → length (digits_in p n) ≤ suc k
in_few zero k n h = omega arith
in_few (suc p) zero n h = omega (arith, ap length (in_one p n h))
in_few (suc p) (suc k) n h =
    ⊎_elim
    (λ t. omega (arith, ap length (in_one p n (ltb→lt n 10 t))))
    (λ t.
    omega (
      arith,
      ap length (in_more p n (nltb→le n 10 t)),
      length-append (digits_in p (n / 10)) ((48 + n % 10) ∷ []),
      in_few p k (n / 10) (omega (arith, pow-suc 10 (suc k))),
    ))
    (test (ltb n 10))

-- A number below 10 ^ k has at most k digits, if k is at least 1.
pub digits_few : (k n : ℕ) → n < 10 ^ suc k → length (digits n) ≤ suc k
unfolding digits
digits_few k n h = in_few (suc n) k n h

-- ---- reading back

pub read_snoc : (n : ℕ) (ds : List ℕ) (d : ℕ) → read_on n (ds ++ (d ∷ [])) ≡ read_on n ds * 10 + (d - 48)
read_snoc n [] d = refl
read_snoc n (x ∷ ds) d = read_snoc (n * 10 + (x - 48)) ds d

read_in : (p n : ℕ) → n < p → read_on 0 (digits_in p n) ≡ n
read_in zero n h = absurd (omega arith)
read_in (suc p) n h =
    ⊎_elim
    (λ t. rw (in_one p n (ltb→lt n 10 t)) (omega arith))
    (λ t.
    let l = nltb→le n 10 t in
    ap (read_on 0) (in_more p n l)
    ∙ read_snoc 0 (digits_in p (n / 10)) (48 + n % 10)
    ∙ (omega (arith, read_in p (n / 10) (omega arith))))
    (test (ltb n 10))

-- The digits of a number read back as the number.
pub digits_read : (n : ℕ) → read_on 0 (digits n) ≡ n
unfolding digits
digits_read n = read_in (suc n) n (omega arith)

-- Two numbers with the same digits are the same.
pub digits_injective : (m n : ℕ) → digits m ≡ digits n → m ≡ n
digits_injective m n e = sym (digits_read m) ∙ ap (read_on 0) e ∙ digits_read n

-- ---- no leading zeros

in_some : (p n : ℕ) → n < p → 1 ≤ length (digits_in p n)
in_some zero n h = absurd (omega arith)
in_some (suc p) n h =
    ⊎_elim
    (λ t. omega (arith, ap length (in_one p n (ltb→lt n 10 t))))
    (λ t.
    omega (arith, ap length (in_more p n (nltb→le n 10 t)), length-append (digits_in p (n / 10)) ((48 + n % 10) ∷ [])))
    (test (ltb n 10))

in_first : (p n : ℕ) → n < p → 1 ≤ n → 49 ≤ get_or (digits_in p n) 0 0
in_first zero n h l = absurd (omega arith)
in_first (suc p) n h l =
    ⊎_elim
    (λ t. rw (in_one p n (ltb→lt n 10 t)) (omega arith))
    (λ t.
    let m = nltb→le n 10 t in
    let e : get_or (digits_in (suc p) n) 0 0 ≡ get_or (digits_in p (n / 10)) 0 0 =
    ap (λ (ds : List ℕ). get_or ds 0 0) (in_more p n m)
    ∙ get_or-append (digits_in p (n / 10)) ((48 + n % 10) ∷ []) 0 0 (in_some p (n / 10) (omega arith)) in
    omega (arith, e, in_first p (n / 10) (omega arith) (omega arith)))
    (test (ltb n 10))

-- The first digit of a number other than 0 is none.
pub digits_first : (n : ℕ) → 1 ≤ n → 49 ≤ get_or (digits n) 0 0
unfolding digits
digits_first n l = in_first (suc n) n (omega arith) l

-- ---- digits and nothing else, and at least one

pub digits_some : (n : ℕ) → 1 ≤ length (digits n)
unfolding digits
digits_some n = in_some (suc n) n (omega arith)

-- 48 to 57: the ASCII digits.
abbrev IsDigit : ℕ → Type 0
IsDigit x = (48 ≤ x) × (x ≤ 57)

in_digits : (p n : ℕ) → All IsDigit (digits_in p n)
in_digits zero n = tt
in_digits (suc p) n =
    by_cond (All IsDigit) (ltb n 10)
    (λ t. let h = ltb→lt n 10 t in ((omega arith, omega arith), tt))
    (λ t. all_append IsDigit (digits_in p (n / 10)) ((48 + n % 10) ∷ []) (in_digits p (n / 10)) ((omega arith, omega arith), tt))

pub digits_are : (n : ℕ) → All (λ x. (48 ≤ x) × (x ≤ 57)) (digits n)
unfolding digits
digits_are n = in_digits (suc n) n

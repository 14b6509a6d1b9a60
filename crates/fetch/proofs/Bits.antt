-- Lemmas. The bits of a byte after a shift, an or, an and, for every layer number at once. Assumes
-- nothing.
use Prim.Native.Nat.{ℕ, zero, suc, ◌*◌, ◌-◌, ◌/◌, ◌%◌, ◌^◌, ◌<◌}
use mathlib.Core.Path.{◌≡◌, refl, sym, ap, ◌∙◌}
use mathlib.Core.Bool.{Bool, not, cond, ◌&&◌, ◌||◌, or_comm, and_comm}
use native.Mathlib.Omega.{arith}
use lib.Bits.{bit_and, bit_or, or_shr, or_mod, or_lt, and_shr, and_mod, and_lt}
use lib.Dec.{T, eqb, eqb→eq}
use Rattle.theory_basics.specs.Tests.{all_below}
use Rattle.theory_basics.specs.lemmas.Tests.{all_below_iff, flag_says}
use Rattle.fetch.specs.Marks.{bit, with_layer, without_layer}
use Rattle.fetch.specs.lemmas.Marks.{with_bit, without_bit, with_lt, without_lt, same_bits}

-- ---- digits

digit : (P : ℕ → Type 0) → P 0 → P 1 → (x : ℕ) → x < 2 → P x
digit P a b zero h = a
digit P a b (suc zero) h = b
digit P a b (suc (suc x)) h = absurd (omega arith)

or_digit : (x : ℕ) → x < 2 → (y : ℕ) → y < 2 → eqb (bit_or x y) 1 ≡ eqb x 1 || eqb y 1
or_digit = digit (λ x. (y : ℕ) → y < 2 → eqb (bit_or x y) 1 ≡ eqb x 1 || eqb y 1) (digit (λ y. eqb (bit_or 0 y) 1 ≡ eqb 0 1 || eqb y 1) refl refl) (digit (λ y. eqb (bit_or 1 y) 1 ≡ eqb 1 1 || eqb y 1) refl refl)

and_digit : (x : ℕ) → x < 2 → (y : ℕ) → y < 2 → eqb (bit_and x y) 1 ≡ eqb x 1 && eqb y 1
and_digit = digit (λ x. (y : ℕ) → y < 2 → eqb (bit_and x y) 1 ≡ eqb x 1 && eqb y 1) (digit (λ y. eqb (bit_and 0 y) 1 ≡ eqb 0 1 && eqb y 1) refl refl) (digit (λ y. eqb (bit_and 1 y) 1 ≡ eqb 1 1 && eqb y 1) refl refl)

or_bit : (a b k : ℕ) → bit (bit_or a b) k ≡ bit a k || bit b k
or_bit a b k =
    ap (λ (y : ℕ). eqb y 1) (ap (λ (y : ℕ). y % 2) (or_shr a b k) ∙ or_mod (a / 2 ^ k) (b / 2 ^ k) 1)
    ∙ or_digit (a / 2 ^ k % 2) (omega arith) (b / 2 ^ k % 2) (omega arith)

and_bit : (a b k : ℕ) → bit (bit_and a b) k ≡ bit a k && bit b k
and_bit a b k =
    ap (λ (y : ℕ). eqb y 1) (ap (λ (y : ℕ). y % 2) (and_shr a b k) ∙ and_mod (a / 2 ^ k) (b / 2 ^ k) 1)
    ∙ and_digit (a / 2 ^ k % 2) (omega arith) (b / 2 ^ k % 2) (omega arith)

-- ---- a byte with one bit, and a byte without one

-- Every bit of eight bytes, by one computed test.
eight : (f : ℕ → ℕ) (q : Bool → Bool) → T (all_below 8 (λ n. all_below 8 (λ k. eqb (f n / 2 ^ k % 2) (cond (q (eqb k n)) 1 0)))) → (n k : ℕ) → n < 8 → k < 8 → bit (f n) k ≡ q (eqb k n)
eight f q t n k h l =
    let test : ℕ → ℕ → Bool = λ n k. eqb (f n / 2 ^ k % 2) (cond (q (eqb k n)) 1 0) in
    let e = eqb→eq (f n / 2 ^ k % 2) (cond (q (eqb k n)) 1 0) ((all_below_iff 8 (test n)).0 ((all_below_iff 8 (λ m. all_below 8 (test m))).0 t n h) k l) in
    ap (λ (y : ℕ). eqb y 1) e ∙ flag_says (q (eqb k n))

-- 1 << n, as the code computes it.
abbrev one : ℕ → ℕ
one n = 1 * 2 ^ n % 256

pub with_is : (m n : ℕ) → m < 256 → n < 8 → bit_or m (one n) ≡ with_layer m n
with_is m n l h =
    same_bits (bit_or m (one n)) (with_layer m n) 8
    (or_lt 8 m (one n) l (omega arith))
    (with_lt m n)
    (λ k u. or_bit m (one n) k ∙ ap (λ (b : Bool). bit m k || b) (eight one (λ b. b) tt n k h u) ∙ or_comm (bit m k) (eqb k n) ∙ sym (with_bit m n k u))

pub without_is : (m n : ℕ) → m < 256 → n < 8 → bit_and m (255 - one n) ≡ without_layer m n
without_is m n l h =
    same_bits (bit_and m (255 - one n)) (without_layer m n) 8
    (and_lt 8 m (255 - one n) l (omega arith))
    (without_lt m n)
    (λ k u. and_bit m (255 - one n) k ∙ ap (λ (b : Bool). bit m k && b) (eight (λ i. 255 - one i) not tt n k h u) ∙ and_comm (bit m k) (not (eqb k n)) ∙ sym (without_bit m n k u))

-- Lemmas. The bits of mark bytes, and layers set and cleared. Assumes nothing.
use Rattle.std.specs.Prelude.{ℕ, zero, suc, ◌+◌, ◌*◌, ◌-◌, ◌/◌, ◌%◌, ◌^◌, ◌≤◌, ◌<◌, ◌≡◌, refl, Bool, true, false, not, cond, ◌&&◌, ◌||◌, eqb, ltb}
use Rattle.std.proofs.Common.{sym, ap, ◌∙◌, ⊎_elim, arith, pow-suc, mod-eq_of_lt, mul_assoc, pow_pos, pow_mono, pow-add, ltb→lt, nltb→le, eqb→eq, eq-eqb, ne_eqb}
use Rattle.std.proofs.Math.Nat.{two-pow-succ, div-eq_of_lt, add-mul-div_right, add-mul-mod_self_right}
use Rattle.std.proofs.Math.Pow.{high}
use Rattle.std.proofs.lemmas.Nat.{mod-pow-add}
use Rattle.theory_basics.specs.lemmas.Tests.{test, neqb_ne}
use Rattle.fetch.specs.Rows.{mark_byte}
use Rattle.fetch.specs.Marks.{bit, with_layer, without_layer}

-- ---- the bits of a mark byte are the layers that pass

add_lt : (b : Bool) (m k : ℕ) → m < 2 ^ k → m + cond b (2 ^ k) 0 < 2 ^ suc k
add_lt true m k h = omega (arith, two-pow-succ k)
add_lt false m k h = omega (arith, two-pow-succ k)

pub mark_lt : (p : ℕ → Bool) (k : ℕ) → mark_byte p k < 2 ^ k
mark_lt p zero = omega arith
mark_lt p (suc k) = add_lt (p k) (mark_byte p k) k (mark_lt p k)

pub mark_cong : (p q : ℕ → Bool) (k : ℕ) → ((n : ℕ) → n < k → p n ≡ q n) → mark_byte p k ≡ mark_byte q k
mark_cong p q zero h = refl
mark_cong p q (suc k) h = rw (mark_cong p q k (λ n u. h n (omega arith)), h k (omega arith))

-- A byte below 2 ^ k has no bit at k or above.
pub high_bit : (m k n : ℕ) → m < 2 ^ k → k ≤ n → bit m n ≡ false
high_bit m k n h l =
    let e : m / 2 ^ n ≡ 0 = div-eq_of_lt (omega (arith, pow_mono l)) in
    rw e

low_at : (m c d n : ℕ) → bit (m + c * 2 ^ (suc d + n)) n ≡ bit m n
low_at m c d n =
    let x : c * (2 ^ d * 2 * 2 ^ n) ≡ c * 2 ^ d * 2 * 2 ^ n = sym (mul_assoc c (2 ^ d * 2) (2 ^ n)) ∙ ap (λ (y : ℕ). y * 2 ^ n) (sym (mul_assoc c (2 ^ d) 2)) in
    rw (pow-add 2 (suc d) n, pow-suc 2 d, x, add-mul-div_right m (c * 2 ^ d * 2) (pow_pos n), add-mul-mod_self_right (m / 2 ^ n) (c * 2 ^ d) 2)

-- A multiple of 2 ^ k adds nothing to the bits below k.
pub low_bit : (m c k n : ℕ) → n < k → bit (m + c * 2 ^ k) n ≡ bit m n
low_bit m c k n h = let e : suc (k - suc n) + n ≡ k = omega arith in rw e at (low_at m c (k - suc n) n)

-- The bit at k itself.
pub top_bit : (m k : ℕ) (b : Bool) → m < 2 ^ k → bit (m + cond b (2 ^ k) 0) k ≡ b
top_bit m k true h =
    let e : m + 2 ^ k ≡ 1 * 2 ^ k + m = omega arith in
    rw (e, high 1 k h)
top_bit m k false h =
    let e : m + 0 ≡ 0 * 2 ^ k + m = omega arith in
    rw (e, high 0 k h)

add_low : (b : Bool) (m k n : ℕ) → n < k → bit (m + cond b (2 ^ k) 0) n ≡ bit m n
add_low true m k n h = let e : m + 2 ^ k ≡ m + 1 * 2 ^ k = omega arith in rw e (low_bit m 1 k n h)
add_low false m k n h = let e : m + 0 ≡ m = omega arith in rw e

pub mark_bit : (p : ℕ → Bool) (k n : ℕ) → n < k → bit (mark_byte p k) n ≡ p n
mark_bit p zero n h = absurd (omega arith)
mark_bit p (suc k) n h =
    ⊎_elim
    (λ t. let l = ltb→lt n k t in add_low (p k) (mark_byte p k) k n l ∙ mark_bit p k n l)
    (λ t. let e : n ≡ k = omega (arith, nltb→le n k t) in rw e (top_bit (mark_byte p k) k (p k) (mark_lt p k)))
    (test (ltb n k))

-- From k on no bit is set.
pub mark_high : (p : ℕ → Bool) (k n : ℕ) → k ≤ n → bit (mark_byte p k) n ≡ false
mark_high p k n h = high_bit (mark_byte p k) k n (mark_lt p k) h

-- ---- a byte is what its bits say

bit_value : (x k : ℕ) → x < 2 → cond (eqb x 1) (2 ^ k) 0 ≡ x * 2 ^ k
bit_value x k h =
    ⊎_elim
    (λ t. let e = eqb→eq x 1 t in rw e (omega arith))
    (λ t. let n : x ≡ 1 → ⊥ = neqb_ne x 1 t in let e : x ≡ 0 = omega arith in rw e (omega arith))
    (test (eqb x 1))

pub bits_mod : (m k : ℕ) → mark_byte (bit m) k ≡ m % 2 ^ k
bits_mod m zero = omega arith
bits_mod m (suc k) =
    let e : 1 + k ≡ suc k = omega arith in
    rw (bit_value (m / 2 ^ k % 2) k (omega arith)) (omega (arith, bits_mod m k, rw e at (mod-pow-add m 1 k)))

pub bits_byte : (m k : ℕ) → m < 2 ^ k → mark_byte (bit m) k ≡ m
bits_byte m k h = bits_mod m k ∙ mod-eq_of_lt h

-- Two bytes with the same bits are the same.
pub same_bits : (a b k : ℕ) → a < 2 ^ k → b < 2 ^ k → ((n : ℕ) → n < k → bit a n ≡ bit b n) → a ≡ b
same_bits a b k x y h = sym (bits_byte a k x) ∙ mark_cong (bit a) (bit b) k h ∙ bits_byte b k y

-- ---- a layer set or cleared

pub with_bit : (m n k : ℕ) → k < 8 → bit (with_layer m n) k ≡ eqb k n || bit m k
unfolding with_layer
with_bit m n k h = mark_bit (λ i. eqb i n || bit m i) 8 k h

pub without_bit : (m n k : ℕ) → k < 8 → bit (without_layer m n) k ≡ not (eqb k n) && bit m k
unfolding without_layer
without_bit m n k h = mark_bit (λ i. not (eqb i n) && bit m i) 8 k h

pub with_lt : (m n : ℕ) → with_layer m n < 256
unfolding with_layer
with_lt m n = mark_lt (λ k. eqb k n || bit m k) 8

pub without_lt : (m n : ℕ) → without_layer m n < 256
unfolding without_layer
without_lt m n = mark_lt (λ k. not (eqb k n) && bit m k) 8

-- A layer that no byte has: the byte as it was.
pub with_none : (m n : ℕ) → m < 256 → 8 ≤ n → with_layer m n ≡ m
with_none m n l h = same_bits (with_layer m n) m 8 (with_lt m n) l (λ k u. with_bit m n k u ∙ rw (ne_eqb k n (λ e. omega arith)))

pub without_none : (m n : ℕ) → m < 256 → 8 ≤ n → without_layer m n ≡ m
without_none m n l h = same_bits (without_layer m n) m 8 (without_lt m n) l (λ k u. without_bit m n k u ∙ rw (ne_eqb k n (λ e. omega arith)))

-- A byte over k layers with layer k set is the byte over one layer more, if that layer passes.
pub with_next : (p : ℕ → Bool) (k : ℕ) → k < 8 → p k ≡ true → with_layer (mark_byte p k) k ≡ mark_byte p (suc k)
with_next p k h e =
    same_bits (with_layer (mark_byte p k) k) (mark_byte p (suc k)) 8
    (with_lt (mark_byte p k) k)
    (omega (arith, mark_lt p (suc k), pow_mono {i = suc k} {j = 8} (omega arith)))
    (λ n u. with_bit (mark_byte p k) k n u ∙ at n u)
  where
    at : (n : ℕ) → n < 8 → eqb n k || bit (mark_byte p k) n ≡ bit (mark_byte p (suc k)) n
    at n u = ⊎_elim
        (λ t. let l = ltb→lt n k t in rw (ne_eqb n k (λ q. omega arith), mark_bit p k n l, mark_bit p (suc k) n (omega arith)))
        (λ t. ⊎_elim
        (λ s. let q = eqb→eq n k s in rw (q, eq-eqb k k refl, mark_bit p (suc k) k (omega arith), e))
        (λ s. let q : n ≡ k → ⊥ = neqb_ne n k s in
        let l = nltb→le n k t in
        rw (ne_eqb n k q, mark_high p k n l, mark_high p (suc k) n (omega arith)))
        (test (eqb n k)))
        (test (ltb n k))

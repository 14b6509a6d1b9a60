-- Lemmas. The heart: a word shifted by n and masked has in byte k exactly bit n of the word's byte
-- k, so its set bits are counted. Assumes nothing.
use Prim.Native.Nat.{ℕ, zero, suc, ◌+◌, ◌*◌, ◌/◌, ◌%◌, ◌^◌, ◌<◌}
use mathlib.Core.Path.{◌≡◌, refl, sym, ap, ◌∙◌}
use mathlib.Core.Bool.{cond}
use native.Mathlib.Omega.{arith}
use native.Mathlib.Nat.{mul_comm, div-div-eq-div-mul, mod-lt}
use lib.Pow.{split, mod-mod-pow, pow_pos}
use lib.Bits.{bit_and, and_block, and_mask, and_zero_r}
use lib.Count.{ones, ones_cat}
use lib.Dec.{eqb}
use Rattle.fetch.specs.Marks.{bit}
use Rattle.fetch.specs.lemmas.Marks.{low_bit}
use Rattle.fetch.specs.Counts.{mark_count, low_bytes, word_bytes}

-- k bytes of 1.
abbrev mask : ℕ → ℕ
mask zero = 0
mask (suc k) = mask k * 2 ^ 8 + 1

-- The lowest digit of a number.
digit : (x : ℕ) → x < 2 → ones x ≡ cond (eqb x 1) 1 0
unfolding ones
digit zero h = refl
digit (suc zero) h = refl
digit (suc (suc x)) h = absurd (omega arith)

-- Bit n of a byte is the lowest digit of the shifted word.
low : (w n : ℕ) → n < 8 → bit (w % 256) n ≡ bit w n
low w n h =
    let e : w % 256 + w / 256 * 2 ^ 8 ≡ w = omega arith in
    sym (low_bit (w % 256) (w / 256) 8 n h) ∙ ap (λ (x : ℕ). bit x n) e

swap : (w n : ℕ) → w / 2 ^ n / 2 ^ 8 ≡ w / 256 / 2 ^ n
swap w n = div-div-eq-div-mul w (2 ^ n) (2 ^ 8) ∙ ap (λ (x : ℕ). w / x) (mul_comm (2 ^ n) (2 ^ 8)) ∙ sym (div-div-eq-div-mul w 256 (2 ^ n))

masked_step : (v k : ℕ) → bit_and v (mask (suc k)) ≡ bit_and (v / 2 ^ 8) (mask k) * 2 ^ 8 + v % 2
masked_step v k =
    ap (λ (x : ℕ). bit_and x (mask (suc k))) (sym (split v 8))
    ∙ and_block 8 (v / 2 ^ 8) (mask k) (v % 2 ^ 8) 1 (mod-lt v (pow_pos 8)) (omega arith)
    ∙ ap (λ (x : ℕ). bit_and (v / 2 ^ 8) (mask k) * 2 ^ 8 + x) (and_mask (v % 2 ^ 8) 1 ∙ mod-mod-pow v 7 1)

pub masked : (k w n : ℕ) → n < 8 → ones (bit_and (w / 2 ^ n) (mask k)) ≡ mark_count n (low_bytes k w)
unfolding ones
masked zero w n h = ap ones (and_zero_r (w / 2 ^ n))
masked (suc k) w n h =
    ap ones (masked_step (w / 2 ^ n) k)
    ∙ ones_cat 8 (bit_and (w / 2 ^ n / 2 ^ 8) (mask k)) (w / 2 ^ n % 2) (omega arith)
    ∙ rw (swap w n, masked k (w / 256) n h, digit (w / 2 ^ n % 2) (omega arith), low w n h) (omega arith)

-- A word's count, by its shifted and masked digits.
pub word_ones : (w n : ℕ) → n < 8 → ones (bit_and (w / 2 ^ n) 0x0101010101010101) ≡ mark_count n (word_bytes w)
unfolding word_bytes
word_ones w n h = masked 8 w n h

-- Laws on a forecast to be written: the bytes of a line, of all lines. Assumes nothing.
use Prim.Native.Nat.{ℕ, ◌+◌, ◌*◌, ◌/◌, ◌≤◌, ◌<◌}
use mathlib.Core.Path.{◌≡◌, ap}
use mathlib.Core.List.{List}
use native.Mathlib.Omega.{arith}
use native.Mathlib.Nat.{mul-le-mul}
use native.Mathlib.Numerals.{add-one}
use lib.ListN.{length, get_or, drop, drop_of_length-le}
use lib.Seq.{drop-cons}
use Rattle.theory_basics.specs.lemmas.Digits.{digits_one, digits_length}
use Rattle.trace.specs.lemmas.Tally.{width_from}
use Rattle.theory_basics.specs.Text.{digits}

-- ---- the bytes of a line

pub one_digit : (n : ℕ) → n < 10 → length (digits n) ≡ 1
one_digit n h = ap length (digits_one n h)

thousands : (t : ℕ) → 1 ≤ t → length (digits (t * 1000)) ≡ length (digits t) + 3
thousands t h =
    let a : t * 1000 / 10 ≡ t * 100 = omega arith in
    let b : t * 100 / 10 ≡ t * 10 = omega arith in
    let c : t * 10 / 10 ≡ t = omega arith in
    let x : length (digits (t * 1000)) ≡ length (digits (t * 100)) + 1 = rw a at (digits_length (t * 1000) (omega arith)) in
    let y : length (digits (t * 100)) ≡ length (digits (t * 10)) + 1 = rw b at (digits_length (t * 100) (omega arith)) in
    let z : length (digits (t * 10)) ≡ length (digits t) + 1 = rw c at (digits_length (t * 10) (omega arith)) in
    omega arith

pub width_none : (t : ℕ) → t < 1 → 2 ≡ length (digits (t * 1000)) + 1
width_none t h = omega (arith, one_digit (t * 1000) (omega arith))

pub width_one : (t : ℕ) → 1 ≤ t → t < 10 → 5 ≡ length (digits (t * 1000)) + 1
width_one t h k = omega (arith, thousands t h, one_digit t k)

pub width_two : (t : ℕ) → 10 ≤ t → t < 100 → 6 ≡ length (digits (t * 1000)) + 1
width_two t h k = omega (arith, thousands t (omega arith), digits_length t h, one_digit (t / 10) (omega arith))

pub width_three : (t : ℕ) → 100 ≤ t → t < 1000 → 7 ≡ length (digits (t * 1000)) + 1
width_three t h k = omega (arith, thousands t (omega arith), digits_length t (omega arith), digits_length (t / 10) (omega arith), one_digit (t / 10 / 10) (omega arith))

pub width_four : (t : ℕ) → 1000 ≤ t → t < 3600 → 8 ≡ length (digits (t * 1000)) + 1
width_four t h k = omega (arith, thousands t (omega arith), digits_length t (omega arith), digits_length (t / 10) (omega arith), digits_length (t / 10 / 10) (omega arith), one_digit (t / 10 / 10 / 10) (omega arith))

-- ---- the bytes of all lines

-- So many bytes, and those of the slots from t on. A slot has at most 2,863,311 lines, whatever its
-- 32 bits say.
pub record Widening (f : List ℕ) (sum t : ℕ) : Type 0 where
  pub inside : t ≤ length f
  pub says : width_from 0 f ≡ sum + width_from t (drop t f)
  pub small : sum ≤ 22906488 * t

pub widening_start : (f : List ℕ) → Widening f 0 0
widening_start f = record { inside = omega arith; says = omega arith; small = omega arith }

module _ (f : List ℕ) (sum t : ℕ) (s : Widening f sum t) where
  pub widening_end : length f ≤ t → sum ≡ width_from 0 f
  widening_end h = let e : width_from t (drop t f) ≡ 0 = ap (width_from t) (drop_of_length-le f {i = t} h) in omega (arith, s.says)

  module _ (here : t < length f) (each : ℕ) (is : each ≡ length (digits (t * 1000)) + 1) (few : each ≤ 8) (bits : get_or f t 0 < 4294967296) where
    pub bytes_small : get_or f t 0 / 1500 * each ≤ 22906488
    bytes_small = let h : get_or f t 0 / 1500 ≤ 2863311 = omega arith in omega (arith, mul-le-mul h few)

    pub widening_more : Widening f (sum + get_or f t 0 / 1500 * each) (t + 1)
    widening_more =
        let e : width_from t (drop t f) ≡ get_or f t 0 / 1500 * (length (digits (t * 1000)) + 1) + width_from (t + 1) (drop (t + 1) f) = rw (add-one t) (ap (width_from t) (drop-cons f t 0 here)) in
        let i : get_or f t 0 / 1500 * each ≡ get_or f t 0 / 1500 * (length (digits (t * 1000)) + 1) = ap (λ (n : ℕ). get_or f t 0 / 1500 * n) is in
        record { inside = omega arith; says = omega (arith, s.says, e, i); small = omega (arith, s.small, bytes_small) }

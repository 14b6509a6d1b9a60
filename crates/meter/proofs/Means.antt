-- Lemmas. The forecast's quotient against the exact harmonic mean. Only `share_is` looks at how a
-- share is rounded.
use Rattle.std.specs.Prelude.{ℕ, ◌+◌, ◌*◌, ◌-◌, ◌/◌, ◌^◌, ◌≤◌, ◌<◌, ◌≡◌, Bool, true, false, not, ◌||◌, List, [], ◌∷◌, map, ◌⊎◌, length, T, leb}
use Rattle.std.proofs.Common.{inl, inr, ⊎_elim, arith, mul-le-mul_left, mul-le-mul_right, mul-pos, le_of_mul-le-mul_right, lt_of_mul-lt-mul_right, div-mul-le_self, le-div_iff_mul-le, div-lt_iff_lt-mul, T_not, leb→le, eqb→eq}
use Rattle.std.proofs.Math.Nat.{lt-div-mul-add, mul-div_right}
use Rattle.std.proofs.Math.Dec.{nleb→lt}
use Rattle.theory_basics.specs.lemmas.Division.{divided_up_enough, divided_up_near}
use Rattle.theory_basics.specs.Tests.{All, any, In, here, there}
use Rattle.theory_basics.specs.lemmas.Tests.{at_row, test, T_or_iff, eqb_iff}
use Rattle.meter.specs.Forecast.{bytes_of, is_zero, total, share, mean_of}
use Rattle.meter.specs.Meter.{Sample, SampleInRange}
use Rattle.meter.specs.Harmonic.{product, NotAbove, quotients, WholePart}

-- ---- the mean without a quotient: P / b is the product of the others

-- Σ (P / b), for each of them the product of the others.
abbrev pub others : List ℕ → ℕ
others [] = 0
others (b ∷ bs) = product bs + b * others bs

abbrev pub Under : ℕ → List ℕ → Type 0
Under x bs = x * others bs ≤ length bs * product bs

pub record Whole (bs : List ℕ) (h : ℕ) : Type 0 where
  pub not_above : Under h bs
  pub next_above : length bs * product bs < (h + 1) * others bs

-- Bytes of which the mean is taken: in range and not 0.
pub record Counts (b : ℕ) : Type 0 where
  pub low : 1 ≤ b
  pub high : b ≤ 16777216

-- ---- one share

-- It is not below 2^56 / bytes, and less than 1 above it.
pub share_is : (b : ℕ) → 1 ≤ b → (2 ^ 56 ≤ share b * b) × (share b * b < 2 ^ 56 + b)
share_is b low = omega (arith, divided_up_enough (2 ^ 56) b low, divided_up_near (2 ^ 56) b low)

-- So it is at least 2^32 ..
pub share_wide : (b : ℕ) → Counts b → 2 ^ 32 ≤ share b
share_wide b c =
    le_of_mul-le-mul_right {k = 16777216} (omega (arith, (share_is b c.low).0, mul-le-mul_left (share b) c.high)) (omega arith)

-- .. and at most 2^56.
pub share_narrow : (b : ℕ) → 1 ≤ b → share b ≤ 2 ^ 56
share_narrow b low =
    let l : share b < 2 ^ 56 + 1 = lt_of_mul-lt-mul_right b (omega (arith, (share_is b low).1, mul-le-mul_left (2 ^ 56) low)) in
    omega arith

-- ---- what the shares sum to

pub product_pos : (bs : List ℕ) → All Counts bs → 0 < product bs
product_pos [] a = omega arith
product_pos (b ∷ bs) a = mul-pos a.0.low (product_pos bs a.1)

-- The shares are not below 2^56 / bytes ..
shares_not_below : (bs : List ℕ) → All Counts bs → 2 ^ 56 * others bs ≤ total (map share bs) * product bs
shares_not_below [] a = omega arith
shares_not_below (b ∷ bs) a =
    omega (arith, mul-le-mul_right (product bs) (share_is b a.0.low).0, mul-le-mul_left b (shares_not_below bs a.1))

-- .. and each less than 1 above it.
shares_near : (bs : List ℕ) → All Counts bs → total (map share bs) * product bs ≤ 2 ^ 56 * others bs + length bs * product bs
shares_near [] a = omega arith
shares_near (b ∷ bs) a =
    let h : share b * b ≤ 2 ^ 56 + b = omega (arith, (share_is b a.0.low).1) in
    omega (arith, mul-le-mul_right (product bs) h, mul-le-mul_left b (shares_near bs a.1))

shares_wide : (bs : List ℕ) → All Counts bs → length bs * 2 ^ 32 ≤ total (map share bs)
shares_wide [] a = omega arith
shares_wide (b ∷ bs) a = omega (arith, share_wide b a.0, shares_wide bs a.1)

shares_narrow : (bs : List ℕ) → All Counts bs → total (map share bs) ≤ length bs * 2 ^ 56
shares_narrow [] a = omega arith
shares_narrow (b ∷ bs) a = omega (arith, share_narrow b a.0.low, shares_narrow bs a.1)

-- ---- the exact mean

pub others_pos : (bs : List ℕ) → 0 < length bs → All Counts bs → 0 < others bs
others_pos [] l a = absurd (omega arith)
others_pos (b ∷ bs) l a = omega (arith, product_pos bs a.1)

-- It is not above 16,777,216 ..
mean_of_counts : (bs : List ℕ) → All Counts bs → length bs * product bs ≤ 16777216 * others bs
mean_of_counts [] a = omega arith
mean_of_counts (b ∷ bs) a =
    omega (arith, mul-le-mul_right (product bs) a.0.high, mul-le-mul_left b (mean_of_counts bs a.1))

-- .. and has a whole part,
pub whole_part : (bs : List ℕ) → 0 < others bs → Whole bs (length bs * product bs / others bs)
whole_part bs pos = record {
  not_above = div-mul-le_self (length bs * product bs) (others bs);
  next_above = omega (arith, lt-div-mul-add {a = length bs * product bs} pos);
}

-- the greatest whole number that is not above it.
pub whole_part_greatest : (bs : List ℕ) (h x : ℕ) → Whole bs h → Under x bs → x ≤ h
whole_part_greatest bs h x w n =
    let l : x < h + 1 = lt_of_mul-lt-mul_right (others bs) (omega (arith, n, w.next_above)) in
    omega arith

-- A number that is not above the exact mean, while what is one less than such a number is not above
-- it, is the whole part or one less.
pub one_less_at_most :
    (bs : List ℕ) (h f : ℕ) → Whole bs h → Under f bs → ((g : ℕ) → Under (g + 1) bs → g ≤ f) → (f ≡ h) ⊎ (f + 1 ≡ h)
one_less_at_most bs h f w n near =
    ⊎_elim (λ t. inl (omega (arith, leb→le h f t, whole_part_greatest bs h f w n)))
    (λ t.
    let l = nleb→lt h f t in
    let e : h - 1 + 1 ≡ h = omega arith in
    inr (omega (arith, near (h - 1) (rw e w.not_above))))
    (test (leb h f))

-- ---- the quotient, from those

module _ (n k p s q g : ℕ) where
  quotient_low : 0 < n → n * s ≤ q * p → g * q ≤ k * n → g * s ≤ k * p
  quotient_low pos a b = le_of_mul-le-mul_right {k = n} (omega (arith, mul-le-mul_left g a, mul-le-mul_right p b)) pos

  quotient_high : 0 < p → q * p ≤ n * s + k * p → (g + 1) * s ≤ k * p → g * (k * p) ≤ n * s → g * q ≤ k * n
  quotient_high pos a b c = le_of_mul-le-mul_right {k = p} (omega (arith, mul-le-mul_left g a, mul-le-mul_left n b)) pos

module _ (bs : List ℕ) (some : 0 < length bs) (a : All Counts bs) where
  pub total_pos : 0 < total (map share bs)
  total_pos = omega (arith, shares_wide bs a)

  pub mean_high : mean_of bs ≤ 16777216
  mean_high =
      let q : ℕ = total (map share bs) in
      let d : mean_of bs < 16777217 = (div-lt_iff_lt-mul {k = q} total_pos).1 (omega (arith, shares_wide bs a, total_pos)) in
      omega arith

  pub mean_some : 1 ≤ mean_of bs
  mean_some = (le-div_iff_mul-le {k = total (map share bs)} total_pos).1 (omega (arith, shares_narrow bs a))

  -- "and never more".
  pub mean_not_above : Under (mean_of bs) bs
  mean_not_above =
      quotient_low (2 ^ 56) (length bs) (product bs) (others bs) (total (map share bs)) (mean_of bs) (omega arith) (shares_not_below bs a)
      (div-mul-le_self (length bs * 2 ^ 56) (total (map share bs)))

  -- "or one less": one less than what is not above the exact mean is not above the forecast.
  pub mean_near : (g : ℕ) → Under (g + 1) bs → g ≤ mean_of bs
  mean_near g n =
      let q : ℕ = total (map share bs) in
      let wide = mean_of_counts bs a in
      let low : g + 1 ≤ 16777216 = le_of_mul-le-mul_right {k = others bs} (omega (arith, n, wide)) (others_pos bs some a) in
      let small : g ≤ 16777216 = omega arith in
      let spare : g * (length bs * product bs) ≤ 2 ^ 56 * others bs = omega (arith, mul-le-mul_right (length bs * product bs) small, wide) in
      (le-div_iff_mul-le {k = q} total_pos).1
      (quotient_high (2 ^ 56) (length bs) (product bs) (others bs) q g (product_pos bs a) (shares_near bs a) n spare)

-- ---- Σ (P / bytes)

-- c × Σ (P / bytes), with the quotients as they stand.
scaled : (c : ℕ) (bs : List ℕ) → All Counts bs → total (map (λ b. c * product bs / b) bs) ≡ c * others bs
scaled c [] a = omega arith
scaled c (b ∷ bs) a =
    let e : c * (b * product bs) ≡ b * (c * product bs) = omega arith in
    let f : c * (b * product bs) ≡ c * b * product bs = omega arith in
    let d : c * (b * product bs) / b ≡ c * product bs = rw e (mul-div_right (c * product bs) a.0.low) in
    let r : total (map (λ x. c * (b * product bs) / x) bs) ≡ c * b * others bs = rw f (scaled (c * b) bs a.1) in
    omega (arith, d, r)

-- The products of the others are the quotients P / bytes.
pub others_quotients : (bs : List ℕ) → All Counts bs → quotients bs ≡ others bs
others_quotients bs a =
    let e : 1 * product bs ≡ product bs = omega arith in
    let f : 1 * others bs ≡ others bs = omega arith in
    rw (e, f) at (scaled 1 bs a)

-- So the exact mean is the same by either.
pub whole_of : (bs : List ℕ) (h : ℕ) → All Counts bs → Whole bs h → WholePart bs h
whole_of bs h a w = let e = others_quotients bs a in record { not_above = rw e w.not_above; next_above = rw e w.next_above }

pub of_whole : (bs : List ℕ) (h : ℕ) → All Counts bs → WholePart bs h → Whole bs h
of_whole bs h a w = let e = others_quotients bs a in record { not_above = rw e at w.not_above; next_above = rw e at w.next_above }

none_zero : (bs : List ℕ) → All Counts bs → In 0 bs → ⊥
none_zero bs a i = omega (arith, (at_row Counts i a).low)

pub under_not_above : (bs : List ℕ) (x : ℕ) → All Counts bs → Under x bs → NotAbove x bs
under_not_above bs x a u = record { zero_if = λ i. absurd (none_zero bs a i); at_most = rw (others_quotients bs a) u }

-- What is less is not above the mean either.
pub not_above_less : (bs : List ℕ) (x y : ℕ) → x ≤ y → NotAbove y bs → NotAbove x bs
not_above_less bs x y h n =
    record { zero_if = λ i. omega (arith, n.zero_if i); at_most = omega (arith, mul-le-mul_right (quotients bs) h, n.at_most) }

-- ---- none of the samples is 0

not_or : (a b : Bool) → T (not (a || b)) → T (not a) × T (not b)
not_or true b t = absurd t
not_or false b t = (tt, t)

pub zero_in : (bs : List ℕ) → T (any is_zero bs) → In 0 bs
zero_in [] t = absurd t
zero_in (b ∷ bs) t =
    ⊎_elim (λ u. rw (eqb→eq b 0 u) here) (λ u. there (zero_in bs u)) ((T_or_iff (is_zero b) (any is_zero bs)).0 t)

pub counts : (l : List Sample) → All SampleInRange l → T (not (any is_zero (bytes_of l))) → All Counts (bytes_of l)
counts [] a t = tt
counts (x ∷ l) a t =
    let u = not_or (is_zero x.bytes) (any is_zero (bytes_of l)) t in
    let low : 1 ≤ x.bytes =
    ⊎_elim (λ v. leb→le 1 x.bytes v)
    (λ v. absurd (T_not (is_zero x.bytes) u.0 ((eqb_iff x.bytes 0).1 (omega (arith, nleb→lt 1 x.bytes v)))))
    (test (leb 1 x.bytes)) in
    (record { low = low; high = a.0.bytes_high }, counts l a.1 u.1)

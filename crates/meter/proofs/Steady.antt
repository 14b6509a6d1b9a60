-- Lemmas. A steady link: samples that all have the same bytes.
use Rattle.std.specs.Prelude.{ℕ, zero, suc, ◌+◌, ◌*◌, ◌-◌, ◌/◌, ◌^◌, ◌≤◌, ◌<◌, ◌≡◌, refl, false, List, ◌∷◌, map, ◌⊎◌, ◌↔◌, length, replicate}
use Rattle.std.proofs.Common.{sym, ap, ◌∙◌, inl, inr, ⊎_elim, arith, mul-le-mul_right, lt_of_mul-lt-mul_right, le-div_iff_mul-le, pow-add, ne_eqb}
use Rattle.std.proofs.Math.Nat.{mul-div-mul_left, two-pow-succ, one-le-pow, pow-le-pow_right}
use Rattle.std.proofs.lemmas.List.{length-replicate}
use Rattle.theory_basics.specs.Tests.{All, any}
use Rattle.meter.specs.Forecast.{is_zero, total, share, mean_of, forecast_of}
use Rattle.meter.specs.Harmonic.{product}
use Rattle.meter.proofs.Means.{Counts, others, Whole, share_is, share_wide, others_pos, mean_not_above, mean_near, one_less_at_most}

-- ---- factors of powers of two

half : (n : ℕ) → (h : ℕ) × ((n ≡ 2 * h) ⊎ (n ≡ 2 * h + 1))
half zero = (0, inl refl)
half (suc n) =
    let r = half n in
    let h = r.0 in
    ⊎_elim {C = (h : ℕ) × ((suc n ≡ 2 * h) ⊎ (suc n ≡ 2 * h + 1))} (λ e. (h, inr (omega (arith, e)))) (λ e. (h + 1, inl (omega (arith, e)))) r.1

unit_factor : (b c : ℕ) → b * c ≡ 1 → b ≡ 1
unit_factor zero c e = absurd (omega (arith, e))
unit_factor (suc b) zero e = absurd (omega (arith, e))
unit_factor (suc b) (suc c) e = omega (arith, e)

twice : (h b c : ℕ) → b ≡ 2 * h → b * c ≡ 2 * (h * c)
twice h b c e = rw e (omega arith)

odd_times : (h d b c : ℕ) → b ≡ 2 * h + 1 → c ≡ 2 * d + 1 → b * c ≡ 2 * (2 * (h * d) + h + d) + 1
odd_times h d b c e f = rw (e, f) (omega arith)

-- A factor of a power of two is a power of two.
power_factor : (n b c : ℕ) → b * c ≡ 2 ^ n → (i : ℕ) × (b ≡ 2 ^ i)
power_factor zero b c e = (0, unit_factor b c e)
power_factor (suc n) b c e =
    let h : ℕ = (half b).0 in
    let d : ℕ = (half c).0 in
    let w = two-pow-succ n in
    ⊎_elim
    (λ even.
    let r = power_factor n h c (omega (arith, e, w, twice h b c even)) in
    (suc r.0, omega (arith, r.1, two-pow-succ r.0, even)))
    (λ odd.
    ⊎_elim
    (λ even. power_factor n b d (omega (arith, e, w, twice d c b even)))
    (λ both. absurd (omega (arith, e, w, odd_times h d b c odd both)))
    (half c).1)
    (half b).1

-- ---- equal samples

module _ (b : ℕ) (low : 1 ≤ b) where
  none_zero : (k : ℕ) → any is_zero (replicate k b) ≡ false
  none_zero zero = refl
  none_zero (suc k) = rw (ne_eqb b 0 (λ e. omega arith), none_zero k)

  all_count : (k : ℕ) → b ≤ 16777216 → All Counts (replicate k b)
  all_count zero high = tt
  all_count (suc k) high = (record { low = low; high = high }, all_count k high)

shares_equal : (k b : ℕ) → total (map share (replicate k b)) ≡ k * share b
shares_equal zero b = omega arith
shares_equal (suc k) b = omega (arith, shares_equal k b)

others_equal : (k b : ℕ) → b * others (replicate k b) ≡ length (replicate k b) * product (replicate k b)
others_equal zero b = omega arith
others_equal (suc k) b = more (replicate k b) (others_equal k b)
  where
    more : (bs : List ℕ) → b * others bs ≡ length bs * product bs → b * others (b ∷ bs) ≡ length (b ∷ bs) * product (b ∷ bs)
    more bs e = omega (arith, ap (λ (x : ℕ). b * x) e)

-- What divides without a rest is the whole part.
even_part : (bs : List ℕ) (h : ℕ) → 0 < others bs → h * others bs ≡ length bs * product bs → Whole bs h
even_part bs h pos e = record { not_above = omega (arith, e); next_above = omega (arith, e, pos) }

module _ (k b : ℕ) (some : 1 ≤ k) (low : 1 ≤ b) (high : b ≤ 16777216) where
  steady_mean : forecast_of (replicate k b) ≡ mean_of (replicate k b)
  unfolding forecast_of
  steady_mean = rw (none_zero b low k)

  -- b is the exact mean, so the forecast is b or one less ..
  steady_near : (mean_of (replicate k b) ≡ b) ⊎ (mean_of (replicate k b) + 1 ≡ b)
  steady_near =
      let bs : List ℕ = replicate k b in
      let c = all_count b low k high in
      let l : 0 < length bs = omega (arith, length-replicate k b) in
      one_less_at_most bs b (mean_of bs) (even_part bs b (others_pos bs l c) (others_equal k b)) (mean_not_above bs l c) (mean_near bs l c)

  -- .. and it is b if and only if the share comes out even.
  steady_even : (b ≤ mean_of (replicate k b)) ↔ (b * share b ≡ 2 ^ 56)
  steady_even =
      let pos : 0 < share b = omega (arith, share_wide b (record { low = low; high = high })) in
      let e : mean_of (replicate k b) ≡ 2 ^ 56 / share b = rw (length-replicate k b, shares_equal k b) (mul-div-mul_left (2 ^ 56) (share b) some) in
      let d = le-div_iff_mul-le {k = share b} {x = b} {y = 2 ^ 56} pos in
      (λ h. omega (arith, d.0 (rw e at h), (share_is b low).0), λ h. rw e (d.1 (omega (arith, h))))

-- A power of two divides 2^56 without a rest.
power_even : (i : ℕ) → i ≤ 56 → 2 ^ i * share (2 ^ i) ≡ 2 ^ 56
power_even i h =
    let n : 56 - i + i ≡ 56 = omega arith in
    let e : 2 ^ (56 - i) * 2 ^ i ≡ 2 ^ 56 = sym (pow-add 2 (56 - i) i) ∙ ap (λ (x : ℕ). 2 ^ x) n in
    let pos : 1 ≤ 2 ^ i = one-le-pow i 2 (omega arith) in
    let is = share_is (2 ^ i) pos in
    let s : share (2 ^ i) < 2 ^ (56 - i) + 1 = lt_of_mul-lt-mul_right (2 ^ i) (omega (arith, is.1, e)) in
    let l : share (2 ^ i) ≤ 2 ^ (56 - i) = omega arith in
    omega (arith, mul-le-mul_right (2 ^ i) l, e, is.0)

pub power_steady : (k i : ℕ) → 1 ≤ k → i ≤ 24 → forecast_of (replicate k (2 ^ i)) ≡ 2 ^ i
power_steady k i some h =
    let low : 1 ≤ 2 ^ i = one-le-pow i 2 (omega arith) in
    let high : 2 ^ i ≤ 16777216 = pow-le-pow_right {n = 2} (omega arith) h in
    let least = (steady_even k (2 ^ i) some low high).1 (power_even i (omega arith)) in
    steady_mean k (2 ^ i) some low high ∙ ⊎_elim (λ e. e) (λ e. absurd (omega (arith, e, least))) (steady_near k (2 ^ i) some low high)

pub other_steady : (k b : ℕ) → 1 ≤ k → 1 ≤ b → b ≤ 16777216 → ((i : ℕ) → b ≡ 2 ^ i → ⊥) → forecast_of (replicate k b) + 1 ≡ b
other_steady k b some low high n =
    rw (steady_mean k b some low high)
    (⊎_elim
    (λ e. let r = power_factor 56 b (share b) ((steady_even k b some low high).0 (omega (arith, e))) in absurd (n r.0 r.1))
    (λ e. e)
    (steady_near k b some low high))

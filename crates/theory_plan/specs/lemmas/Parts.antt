-- Lemmas. A part of a forecast that starts at a slot: what it has after each slot. Assumes nothing.
use Rattle.std.specs.Prelude.{◌≡◌, refl, List, ◌++◌, ℕ, zero, suc, ◌+◌, ◌*◌, ◌-◌, ◌≤◌, ◌<◌, length, get_or, replicate, ltb}
use Rattle.std.proofs.Common.{sym, ◌∙◌, ⊎_elim, arith, add-one, length-append, get_or-append-add, ltb→lt, nltb→le}
use Rattle.std.proofs.lemmas.List.{length-replicate, get_or-replicate}
use Rattle.std.proofs.Math.ListN.{get_or-append}
use Rattle.theory_basics.specs.Sums.{pre}
use Rattle.theory_basics.specs.lemmas.Ranges.{pre_mono}
use Rattle.theory_basics.specs.lemmas.Tests.{test}

-- A table read as a function.
abbrev pub at : List ℕ → ℕ → ℕ
at l k = get_or l k 0

-- A part of the forecast that starts at a slot, as the forecast whose slots before that one have
-- nothing.
abbrev pub padded : ℕ → List ℕ → List ℕ
padded start part = replicate (start - 1) 0 ++ part

-- What a forecast has after slot t.
abbrev pub left_after : List ℕ → ℕ → ℕ
left_after f t = pre (λ u. at f (u - 1)) (length f) - pre (λ u. at f (u - 1)) t

-- No number is above 16,777,216.
abbrev pub Small : List ℕ → Type 0
Small l = (k : ℕ) → get_or l k 0 ≤ 16777216

-- A part of a forecast of at most 3,600 slots.
pub record ForecastPart (start : ℕ) (part : List ℕ) : Type 0 where
  pub low : 1 ≤ start
  pub high : start + length part ≤ 3601
  pub small : Small part

-- ---- what is left after a slot

pub left_none : (f : List ℕ) (t : ℕ) → length f ≤ t → left_after f t ≡ 0
left_none f t h = omega (arith, pre_mono (λ u. at f (u - 1)) (length f) t h)

pub left_step : (f : List ℕ) (t : ℕ) → t < length f → left_after f t ≡ left_after f (t + 1) + get_or f t 0
left_step f t h =
    let e : suc t - 1 ≡ t = omega arith in
    let s : pre (λ u. at f (u - 1)) (suc t) ≡ pre (λ u. at f (u - 1)) t + get_or f t 0 = rw e in
    rw add-one (omega (arith, s, pre_mono (λ u. at f (u - 1)) (suc t) (length f) (omega arith)))

pub padded_long : (start : ℕ) (part : List ℕ) → length (padded start part) ≡ start - 1 + length part
padded_long start part = length-append (replicate (start - 1) 0) part ∙ rw (length-replicate {A = ℕ} (start - 1) 0)

pub padded_at : (start : ℕ) (part : List ℕ) (v : ℕ) → get_or (padded start part) (start - 1 + v) 0 ≡ get_or part v 0
padded_at start part v =
    let e = length-replicate {A = ℕ} (start - 1) 0 in
    rw e at (get_or-append-add (replicate (start - 1) 0) part v 0)

zeros_at : (n : ℕ) (part : List ℕ) (k : ℕ) → k < n → get_or (replicate n 0 ++ part) k 0 ≡ 0
zeros_at n part k h = get_or-append (replicate n 0) part 0 k (omega (arith, length-replicate {A = ℕ} n 0)) ∙ get_or-replicate n k 0 0 h

zeros_sum : (n : ℕ) (part : List ℕ) (t : ℕ) → t ≤ n → pre (λ u. at (replicate n 0 ++ part) (u - 1)) t ≡ 0
zeros_sum n part zero h = refl
zeros_sum n part (suc t) h =
    let e : suc t - 1 ≡ t = omega arith in
    let z : get_or (replicate n 0 ++ part) (suc t - 1) 0 ≡ 0 = rw e (zeros_at n part t (omega arith)) in
    omega (arith, zeros_sum n part t (omega arith), z)

-- Before the part nothing is used up.
pub left_before : (start : ℕ) (part : List ℕ) (t : ℕ) → t ≤ start - 1 → left_after (padded start part) t ≡ left_after (padded start part) (start - 1)
left_before start part t h = omega (arith, zeros_sum (start - 1) part t h, zeros_sum (start - 1) part (start - 1) (omega arith))

pre_small : (f : List ℕ) → Small f → (n : ℕ) → pre (λ u. at f (u - 1)) n ≤ 16777216 * n
pre_small f h zero = omega arith
pre_small f h (suc n) = omega (arith, pre_small f h n, h (suc n - 1))

pub left_small : (f : List ℕ) → Small f → length f ≤ 3600 → (t : ℕ) → left_after f t ≤ 60397977600
left_small f h l t = omega (arith, pre_small f h (length f))

padded_small : (start : ℕ) (part : List ℕ) → Small part → Small (padded start part)
padded_small start part h k =
    ⊎_elim
    (λ t. rw (zeros_at (start - 1) part k (ltb→lt k (start - 1) t)) (omega arith))
    (λ t. let e : start - 1 + (k - (start - 1)) ≡ k = omega (arith, nltb→le k (start - 1) t) in rw e at (rw (sym (padded_at start part (k - (start - 1)))) at (h (k - (start - 1)))))
    (test (ltb k (start - 1)))

pub part_small : (start : ℕ) (part : List ℕ) → ForecastPart start part → (t : ℕ) → left_after (padded start part) t ≤ 60397977600
part_small start part p t = left_small (padded start part) (padded_small start part p.small) (omega (arith, padded_long start part, p.high, p.low)) t

-- Meaning. The exact harmonic mean of document 01, "Link meter", in whole numbers: of k byte counts
-- with the product P it is k × P / Σ (P / b), b each of them. Of 2, 3 and 6 bytes P is 36, Σ (P /
-- b) is 18 + 12 + 6 = 36, and the mean 3 × 36 / 36 = 3 (Edges, `worked`). If one of them is 0, the
-- mean is 0, which no quotient says, so it is said apart.
use Rattle.std.specs.Prelude.{ℕ, ◌+◌, ◌*◌, ◌/◌, ◌≤◌, ◌<◌, ◌≡◌, List, [], ◌∷◌, map, length}
use Rattle.theory_basics.specs.Tests.{In}
use Rattle.meter.specs.Forecast.{total}

-- P, the product of all.
abbrev pub product : List ℕ → ℕ
product [] = 1
product (b ∷ bs) = b * product bs

-- Σ (P / b).
abbrev pub quotients : List ℕ → ℕ
quotients bs = total (map (λ b. product bs / b) bs)

-- x is not above the exact harmonic mean.
pub record NotAbove (x : ℕ) (bs : List ℕ) : Type 0 where
  pub zero_if : In 0 bs → x ≡ 0
  pub at_most : x * quotients bs ≤ length bs * product bs

-- h is the whole part of the exact harmonic mean of counts above 0.
pub record WholePart (bs : List ℕ) (h : ℕ) : Type 0 where
  pub not_above : h * quotients bs ≤ length bs * product bs
  pub next_above : length bs * product bs < (h + 1) * quotients bs

-- Meaning. What `forecast` promises: the answer as document 01 computes it and request 3 rounds it,
-- and what that is beside the exact harmonic mean.
use Rattle.std.specs.Prelude.{ℕ, ◌+◌, ◌≤◌, ◌≡◌, List, ◌⊎◌}
use Rattle.theory_basics.specs.Tests.{In}
use Rattle.meter.specs.declared.Meter.{Meter}
use Rattle.std.specs.Prelude.{Result, Ok}
use Rattle.refusals.specs.declared.Refusal.{Refusal}
use Rattle.refusals.specs.Numbers.{by_number}
use Rattle.meter.specs.Meter.{samples_of}
use Rattle.meter.specs.Forecast.{answer_of, bytes_of}
use Rattle.meter.specs.Harmonic.{NotAbove, WholePart}

-- "Its forecast is 0 if one of them is 0." "The meter's promise becomes the whole part of the exact
-- harmonic mean or one less, and never more." A forecast is itself within the range of a job's.
pub record Forecasts (bs : List ℕ) (f : ℕ) : Type 0 where
  pub zero_if : In 0 bs → f ≡ 0
  pub mean_or_one_less : (In 0 bs → ⊥) → (h : ℕ) → WholePart bs h → (f ≡ h) ⊎ (f + 1 ≡ h)
  pub never_more : NotAbove f bs
  pub some_if : (In 0 bs → ⊥) → 1 ≤ f
  pub high : f ≤ 16777216

-- The promise of `forecast`.
pub record ForecastPromise (m : Meter) (r : Result ℕ Refusal) : Type 0 where
  -- "Its forecast is ..", or 10, or 12.
  pub answer : by_number r ≡ answer_of m
  -- What a forecast says of the samples kept.
  pub says : (f : ℕ) → r ≡ Ok f → Forecasts (bytes_of (samples_of m)) f

-- Meaning. The forecast of a meter: document 01, "Link meter", as request 3 of document 02 rounds
-- it; refusals 10 and 12.
use Rattle.std.specs.Prelude.{ℕ, ◌+◌, ◌*◌, ◌/◌, ◌^◌, Bool, cond, List, [], ◌∷◌, map, length, ltb, eqb, Result}
use Rattle.theory_basics.specs.Division.{divided_up}
use Rattle.theory_basics.specs.Tests.{any}
use Rattle.theory_basics.specs.Refusals.{unless, ◌or_else◌}
use Rattle.meter.specs.declared.Meter.{Meter}
use Rattle.refusals.specs.Numbers.{answered}
use Rattle.meter.specs.Meter.{Sample, samples_of, meter_refusal}

abbrev pub bytes_of : List Sample → List ℕ
bytes_of l = map (λ x. x.bytes) l

abbrev pub total : List ℕ → ℕ
total [] = 0
total (q ∷ qs) = q + total qs

-- "Each sample now gives 2^56 / bytes rounded up instead of down": the only rounding of a sample.
abbrev pub share : ℕ → ℕ
share b = divided_up (2 ^ 56) b

-- "the whole part of k × 2^56 / their sum".
abbrev pub mean_of : List ℕ → ℕ
mean_of bs = length bs * 2 ^ 56 / total (map share bs)

abbrev pub is_zero : ℕ → Bool
is_zero b = eqb b 0

-- "Its forecast is 0 if one of them is 0."
unfoldable pub forecast_of : List ℕ → ℕ
forecast_of bs = cond (any is_zero bs) 0 (mean_of bs)

-- 12: a forecast from a meter without samples; 10 comes first.
abbrev pub meter_forecast_refusal : List Sample → ℕ
meter_forecast_refusal l = meter_refusal l or_else unless 12 (ltb 0 (length l))

-- The forecast that a call answers.
unfoldable pub answer_of : Meter → Result ℕ ℕ
answer_of m =
    let l = samples_of m in
    let n = meter_forecast_refusal l in
    answered n (forecast_of (bytes_of l))

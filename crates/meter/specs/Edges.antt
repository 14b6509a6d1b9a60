-- Theorems. The refusals and the forecast of the meter at their edges, by computation on the
-- definitions that the public contracts cite.
use Rattle.std.specs.Prelude.{ℕ, ◌*◌, ◌≡◌, refl, [], ◌∷◌, ◌++◌, replicate}
use Rattle.std.proofs.Common.{arith}
use Rattle.meter.specs.declared.Meter.{Meter}
use Rattle.std.specs.Prelude.{Ok, Err}
use Rattle.meter.specs.Meter.{empty, taken}
use Rattle.meter.specs.Forecast.{forecast_of, answer_of}
use Rattle.meter.specs.Harmonic.{NotAbove, product, quotients}

-- A meter that keeps one sample of 9 bytes in slot 5.
abbrev pub one : Meter
one = record { slots = 5 ∷ replicate 9 0; bytes = 9 ∷ replicate 9 0; kept = 1 }

-- 16,777,216 bytes are taken, one more are refused by 10; so is slot 0.
pub bytes_edge : ((taken one 6 16777216).code ≡ 0) × ((taken one 6 16777217).code ≡ 10)
unfolding taken
bytes_edge = (refl, refl)

pub slot_edge : ((taken empty 1 9).code ≡ 0) × (((taken empty 0 9).code ≡ 10) × ((taken empty 65535 9).code ≡ 0))
unfolding taken
slot_edge = (refl, (refl, refl))

-- The last one's slot: 13, and the meter as it was; the next slot is taken.
pub late_edge : ((taken one 5 9).code ≡ 13) × (((taken one 5 9).meter ≡ one) × ((taken one 6 9).code ≡ 0))
unfolding taken
late_edge = (refl, (refl, refl))

-- Kept slots that do not rise, eleven samples, kept bytes out of range: 10 from a sample and from a
-- forecast.
abbrev pub level : Meter
level = record { slots = 5 ∷ 5 ∷ replicate 8 0; bytes = 9 ∷ 9 ∷ replicate 8 0; kept = 2 }

abbrev pub eleven : Meter
eleven = record { slots = 1 ∷ 2 ∷ 3 ∷ 4 ∷ 5 ∷ 6 ∷ 7 ∷ 8 ∷ 9 ∷ 10 ∷ []; bytes = replicate 10 9; kept = 11 }

abbrev pub wide : Meter
wide = record { slots = 5 ∷ replicate 9 0; bytes = 16777217 ∷ replicate 9 0; kept = 1 }

pub kept_refused : ((taken level 9 9).code ≡ 10) × (((taken eleven 99 9).code ≡ 10) × ((taken wide 9 9).code ≡ 10))
unfolding taken
kept_refused = (refl, (refl, refl))

pub forecast_refused : (answer_of level ≡ Err 10) × ((answer_of eleven ≡ Err 10) × (answer_of wide ≡ Err 10))
unfolding answer_of
forecast_refused = (refl, (refl, refl))

-- 10 before 13: late, and out of range as handed or as kept.
pub ten_before_thirteen : ((taken one 5 16777217).code ≡ 10) × ((taken level 5 9).code ≡ 10)
unfolding taken
ten_before_thirteen = (refl, refl)

-- Without samples 12. One sample of 9 bytes forecasts 8: 9 does not divide 2^56.
pub forecast_edge : (answer_of empty ≡ Err 12) × (answer_of one ≡ Ok 8)
unfolding answer_of forecast_of
forecast_edge = (refl, refl)

-- ---- the forecast of the largest and of the smallest samples, alone and ten of them

-- k samples of b bytes each, in slots 1 to 10.
abbrev pub equal : ℕ → ℕ → Meter
equal k b = record { slots = 1 ∷ 2 ∷ 3 ∷ 4 ∷ 5 ∷ 6 ∷ 7 ∷ 8 ∷ 9 ∷ 10 ∷ []; bytes = replicate 10 b; kept = k }

pub largest : (answer_of (equal 1 16777216) ≡ Ok 16777216) × (answer_of (equal 10 16777216) ≡ Ok 16777216)
unfolding answer_of forecast_of
largest = (refl, refl)

pub next_largest : (answer_of (equal 1 16777215) ≡ Ok 16777214) × (answer_of (equal 10 16777215) ≡ Ok 16777214)
unfolding answer_of forecast_of
next_largest = (refl, refl)

pub smallest : (answer_of (equal 1 1) ≡ Ok 1) × (answer_of (equal 10 1) ≡ Ok 1)
unfolding answer_of forecast_of
smallest = (refl, refl)

pub none_at_all : (answer_of (equal 1 0) ≡ Ok 0) × (answer_of (equal 10 0) ≡ Ok 0)
unfolding answer_of forecast_of
none_at_all = (refl, refl)

-- Nine of the largest and one of the smallest: the exact mean is a little below 10.
abbrev pub far_apart : Meter
far_apart = record { slots = 1 ∷ 2 ∷ 3 ∷ 4 ∷ 5 ∷ 6 ∷ 7 ∷ 8 ∷ 9 ∷ 10 ∷ []; bytes = replicate 9 16777216 ++ (1 ∷ []); kept = 10 }

pub far_apart_forecast : answer_of far_apart ≡ Ok 9
unfolding answer_of forecast_of
far_apart_forecast = refl

-- ---- the exact mean of 2, 3 and 6 bytes is 3

pub worked : (quotients (2 ∷ 3 ∷ 6 ∷ []) ≡ 36) × (3 * product (2 ∷ 3 ∷ 6 ∷ []) ≡ 3 * 36)
worked = (refl, refl)

-- ---- one byte above the mean

-- Of 15,000,000 and 10,000,100 bytes the exact mean is a little below 12,000,072, which shares
-- rounded down would forecast.
pub just_below : (forecast_of (15000000 ∷ 10000100 ∷ []) ≡ 12000071) × (NotAbove 12000072 (15000000 ∷ 10000100 ∷ []) → ⊥)
unfolding forecast_of
just_below = (refl, λ h. omega (arith, h.at_most))

-- Theorems. Document 01, "Jobs worked through": the rows marked † on the meter, by computation on
-- the definitions that the public contracts cite. The samples are handed to an empty meter in slots
-- 1, 2 and 3.
use Rattle.std.specs.Prelude.{◌≡◌, refl}
use Rattle.meter.specs.declared.Meter.{Meter}
use Rattle.std.specs.Prelude.{Ok}
use Rattle.meter.specs.Meter.{empty, taken}
use Rattle.meter.specs.Forecast.{forecast_of, answer_of}

abbrev pub six_three : Meter
unfolding taken
six_three = (taken (taken empty 1 6).meter 2 3).meter

-- Samples 6 then 3: forecast 3, as request 3 of document 02 amends the row.
pub six_three_forecast : answer_of six_three ≡ Ok 3
unfolding taken answer_of forecast_of
six_three_forecast = refl

-- With a third sample 0: 0.
pub third_zero_forecast : answer_of (taken six_three 3 0).meter ≡ Ok 0
unfolding taken answer_of forecast_of
third_zero_forecast = refl

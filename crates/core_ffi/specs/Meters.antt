-- Meaning. The meter as the caller's own storage: ten slots, ten bytes and how many are kept, in
-- three lent slices. A shorter slice holds no meter: 11, after the handed sample's own 10 and
-- before what is kept is judged. In longer ones the cells past the meter stay as they are.
use Rattle.std.specs.Prelude.{ℕ, ◌≡◌, ◌&&◌, List, [], ◌∷◌, length, get_or, take, leb}
use Rattle.theory_basics.specs.Lent.{lent_after}
use Rattle.theory_basics.specs.Refusals.{◌or_else◌, unless}
use Rattle.meter.specs.declared.Meter.{Meter}
use Rattle.meter.specs.Meter.{empty, sample, samples_of, sample_refusal, taken}
use Rattle.meter.specs.Forecast.{bytes_of, forecast_of, meter_forecast_refusal}
use Rattle.core_ffi.specs.Convention.{answered}

-- The three slices.
pub record Storage : Type 0 where
  pub slots : List ℕ
  pub bytes : List ℕ
  pub kept : List ℕ

abbrev pub storage : (slots bytes kept : List ℕ) → Storage
storage slots bytes kept = record { slots = slots; bytes = bytes; kept = kept }

-- The meter that they hold.
abbrev pub meter_in : Storage → Meter
meter_in s = record { slots = take 10 s.slots; bytes = take 10 s.bytes; kept = get_or s.kept 0 0 }

-- 11: a slice shorter than its part of a meter.
abbrev pub cells_refusal : Storage → ℕ
cells_refusal s = unless 11 (leb 10 (length s.slots) && (leb 10 (length s.bytes) && leb 1 (length s.kept)))

-- A meter put into them; on a refusal they are as they were.
abbrev pub stored_in : ℕ → Meter → Storage → Storage
stored_in refused m s =
    record { slots = lent_after refused m.slots s.slots; bytes = lent_after refused m.bytes s.bytes; kept = lent_after refused (m.kept ∷ []) s.kept }

-- `film_meter_new`.
pub record MeterNewReturned (s : Storage) (r : ℕ) (s' : Storage) : Type 0 where
  -- 0, or the refusal's number by the convention.
  pub number : r ≡ answered (cells_refusal s) 0
  -- A meter without samples; on a refusal the storage is as it was.
  pub storage_is : s' ≡ stored_in (cells_refusal s) empty s

-- The sample's 10, 11, then 10 and 13 as the meter gives them.
abbrev pub sampled_refusal : Storage → (slot bytes : ℕ) → ℕ
sampled_refusal s slot bytes = sample_refusal (sample slot bytes) or_else cells_refusal s or_else (taken (meter_in s) slot bytes).code

-- `film_meter_take`.
pub record MeterTakeReturned (s : Storage) (slot bytes : ℕ) (r : ℕ) (s' : Storage) : Type 0 where
  -- 0, or the refusal's number by the convention.
  pub number : r ≡ answered (sampled_refusal s slot bytes) 0
  -- "Brought up to date in its own storage"; on a refusal it is as it was.
  pub storage_is : s' ≡ stored_in (sampled_refusal s slot bytes) (taken (meter_in s) slot bytes).meter s

-- 11, then 10 and 12 as the meter gives them.
abbrev pub mean_refusal : Storage → ℕ
mean_refusal s = cells_refusal s or_else meter_forecast_refusal (samples_of (meter_in s))

-- `film_meter_forecast`: the forecast, or the refusal.
abbrev pub meter_forecast_answer : Storage → ℕ
meter_forecast_answer s = answered (mean_refusal s) (forecast_of (bytes_of (samples_of (meter_in s))))

-- Meaning. A plan over a meter's forecast: document 02, request 3: "In a plan for a job whose every
-- slot has the meter's forecast, no slot's rows sum to more than the exact mean." The exact mean in
-- whole numbers stands in crate meter, Harmonic.
use Rattle.std.specs.Prelude.{ℕ, ◌≤◌, ◌≡◌, List}
use Rattle.job.specs.Job.{Job, forecast, last_slot}
use Rattle.fetch.specs.Rows.{Row, bytes_in_slot}
use Rattle.meter.specs.Harmonic.{NotAbove}

-- Every slot of the job has the forecast f.
abbrev pub EverySlot : Job → ℕ → Type 0
EverySlot j f = (t : ℕ) → 1 ≤ t → t ≤ last_slot j → forecast j t ≡ f

-- No slot's rows sum to more than the exact mean of the samples' bytes, which is 0 where one of
-- them is.
abbrev pub NoSlotAbove : Job → List ℕ → List Row → Type 0
NoSlotAbove j bytes rows = (t : ℕ) → 1 ≤ t → t ≤ last_slot j → NotAbove (bytes_in_slot rows t) bytes

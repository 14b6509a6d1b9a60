-- Theorems. No refusal has the number 0, and no two have one number: a refusal's number tells which
-- it is.
use Rattle.std.specs.Prelude.{ℕ, ◌≡◌, ◌<◌, ◌-◌, List, [], ◌∷◌, slice_index_or}
use Rattle.std.proofs.Common.{refl, arith, ap, sym, ◌∙◌}
use Rattle.refusals.specs.declared.Refusal.{Refusal}
use Rattle.refusals.specs.declared.Refusal.TheVariants.{EndsEarly, UnknownMark, BytesAfter, Programmes, ProgrammeField, LayerSize}
use Rattle.refusals.specs.declared.Refusal.TheVariants.{Forecast, NotWhole, LongFile, Sample, ShortBuffer, NoSamples, LateSample}
use Rattle.refusals.specs.declared.Refusal.TheVariants.{TraceLine, TraceSlot, NoWait, Sequence, Sz, NotPassing, Release, Slot, Fetched}
use Rattle.refusals.specs.Numbers.{number_of}

-- The refusals in the order of their numbers, and the one of a number.
abbrev pub all_refusals : List Refusal
all_refusals =
    EndsEarly ∷ UnknownMark ∷ BytesAfter ∷ Programmes ∷ ProgrammeField ∷ LayerSize ∷ Forecast ∷ NotWhole ∷ LongFile
    ∷ Sample ∷ ShortBuffer ∷ NoSamples ∷ LateSample ∷ TraceLine ∷ TraceSlot ∷ NoWait ∷ Sequence ∷ Sz ∷ NotPassing
    ∷ Release ∷ Slot ∷ Fetched ∷ []

abbrev pub refusal_of : ℕ → Refusal
refusal_of n = slice_index_or all_refusals (n - 1) Fetched

pub refusal_of_number : (e : Refusal) → refusal_of (number_of e) ≡ e
refusal_of_number EndsEarly = refl
refusal_of_number UnknownMark = refl
refusal_of_number BytesAfter = refl
refusal_of_number Programmes = refl
refusal_of_number ProgrammeField = refl
refusal_of_number LayerSize = refl
refusal_of_number Forecast = refl
refusal_of_number NotWhole = refl
refusal_of_number LongFile = refl
refusal_of_number Sample = refl
refusal_of_number ShortBuffer = refl
refusal_of_number NoSamples = refl
refusal_of_number LateSample = refl
refusal_of_number TraceLine = refl
refusal_of_number TraceSlot = refl
refusal_of_number NoWait = refl
refusal_of_number Sequence = refl
refusal_of_number Sz = refl
refusal_of_number NotPassing = refl
refusal_of_number Release = refl
refusal_of_number Slot = refl
refusal_of_number Fetched = refl

-- No two refusals have one number.
pub same_number : (e f : Refusal) → number_of e ≡ number_of f → e ≡ f
same_number e f h = sym (refusal_of_number e) ∙ ap refusal_of h ∙ refusal_of_number f

-- 0 is no refusal's number.
pub number_above_0 : (e : Refusal) → 0 < number_of e
number_above_0 EndsEarly = omega arith
number_above_0 UnknownMark = omega arith
number_above_0 BytesAfter = omega arith
number_above_0 Programmes = omega arith
number_above_0 ProgrammeField = omega arith
number_above_0 LayerSize = omega arith
number_above_0 Forecast = omega arith
number_above_0 NotWhole = omega arith
number_above_0 LongFile = omega arith
number_above_0 Sample = omega arith
number_above_0 ShortBuffer = omega arith
number_above_0 NoSamples = omega arith
number_above_0 LateSample = omega arith
number_above_0 TraceLine = omega arith
number_above_0 TraceSlot = omega arith
number_above_0 NoWait = omega arith
number_above_0 Sequence = omega arith
number_above_0 Sz = omega arith
number_above_0 NotPassing = omega arith
number_above_0 Release = omega arith
number_above_0 Slot = omega arith
number_above_0 Fetched = omega arith

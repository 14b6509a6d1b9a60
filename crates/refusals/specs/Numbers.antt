-- Meaning. A call's refusal by its number in the documents, and what a call answers, told by
-- numbers: definitions of what calls mean speak of numbers alone.
use Rattle.std.specs.Prelude.{ℕ, cond, eqb, Result, Ok, Err}
use Rattle.refusals.specs.declared.Refusal.{Refusal}
use Rattle.refusals.specs.declared.Refusal.TheVariants.{EndsEarly, UnknownMark, BytesAfter, Programmes, ProgrammeField, LayerSize}
use Rattle.refusals.specs.declared.Refusal.TheVariants.{Forecast, NotWhole, LongFile, Sample, ShortBuffer, NoSamples, LateSample}
use Rattle.refusals.specs.declared.Refusal.TheVariants.{TraceLine, TraceSlot, NoWait, Sequence, Sz, NotPassing, Release, Slot, Fetched}

-- The documents' number of a refusal.
abbrev pub number_of : Refusal → ℕ
number_of EndsEarly = 1
number_of UnknownMark = 2
number_of BytesAfter = 3
number_of Programmes = 4
number_of ProgrammeField = 5
number_of LayerSize = 6
number_of Forecast = 7
number_of NotWhole = 8
number_of LongFile = 9
number_of Sample = 10
number_of ShortBuffer = 11
number_of NoSamples = 12
number_of LateSample = 13
number_of TraceLine = 14
number_of TraceSlot = 15
number_of NoWait = 16
number_of Sequence = 17
number_of Sz = 18
number_of NotPassing = 19
number_of Release = 20
number_of Slot = 21
number_of Fetched = 22

module _ {A : Type 0} where
  -- The number of the refusal that a call answers; 0 is none.
  abbrev pub refusal_number : Result A Refusal → ℕ
  refusal_number (Ok x) = 0
  refusal_number (Err e) = number_of e

  -- What a call answers, its refusal by the number.
  abbrev pub by_number : Result A Refusal → Result A ℕ
  by_number (Ok x) = Ok x
  by_number (Err e) = Err (number_of e)

  -- Refusal n, or where n is 0, x.
  abbrev pub answered : ℕ → A → Result A ℕ
  answered n x = cond (eqb n 0) (Ok x) (Err n)

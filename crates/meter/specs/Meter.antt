-- Meaning. What a meter is and what a sample does to it: document 01, "Link meter", refusals 10 and
-- 13. A meter means a list of samples, the newest last. The struct stores that list in its first
-- cells.
use Rattle.std.specs.Prelude.{ℕ, ◌-◌, ◌≤◌, ◌<◌, ◌≡◌, Bool, true, ◌&&◌, cond, List, [], ◌∷◌, ◌++◌, map, length, get_or, drop, replicate, leb, ltb, eqb, Result}
use Rattle.theory_basics.specs.Tests.{All, all}
use Rattle.theory_basics.specs.Lists.{up_to}
use Rattle.theory_basics.specs.Refusals.{unless, ◌or_else◌}
use Rattle.meter.specs.declared.Meter.{Meter}
use Rattle.refusals.specs.declared.Refusal.{Refusal}
use Rattle.refusals.specs.Numbers.{answered, refusal_number}

-- A slot and its bytes.
pub record Sample : Type 0 where
  pub slot : ℕ
  pub bytes : ℕ

abbrev pub sample : ℕ → ℕ → Sample
sample slot bytes = record { slot = slot; bytes = bytes }

-- ---- how a struct stores samples

-- The samples of a meter: those of its first cells, as many as it says it keeps.
abbrev pub samples_of : Meter → List Sample
samples_of m = up_to (λ k. sample (get_or m.slots k 0) (get_or m.bytes k 0)) m.kept

-- The samples l stored over m: they stand in the first cells, the cells past them are those of m,
-- and as many are kept.
abbrev pub storing : List Sample → Meter → Meter
storing l m = record {
  slots = map (λ x. x.slot) l ++ drop (length l) m.slots;
  bytes = map (λ x. x.bytes) l ++ drop (length l) m.bytes;
  kept = length l;
}

-- A meter without samples.
abbrev pub empty : Meter
empty = record { slots = replicate 10 0; bytes = replicate 10 0; kept = 0 }

-- ---- "It keeps the last ten samples, each a slot (1 to 65,535) and its bytes (0 to 16,777,216)."

pub record SampleInRange (x : Sample) : Type 0 where
  pub slot_low : 1 ≤ x.slot
  pub slot_high : x.slot ≤ 65535
  pub bytes_high : x.bytes ≤ 16777216

abbrev pub in_range : Sample → Bool
in_range x = leb 1 x.slot && (leb x.slot 65535 && leb x.bytes 16777216)

-- Slots rise strictly: the first is above s, each later one above the one before it.
abbrev pub Rising : ℕ → List Sample → Type 0
Rising s [] = Unit {0}
Rising s (x ∷ l) = (s < x.slot) × Rising x.slot l

abbrev pub rising : ℕ → List Sample → Bool
rising s [] = true
rising s (x ∷ l) = ltb s x.slot && rising x.slot l

-- The slot of the last sample; s if there is none.
abbrev pub last_sample_slot : ℕ → List Sample → ℕ
last_sample_slot s [] = s
last_sample_slot s (x ∷ l) = last_sample_slot x.slot l

-- What refusal 10 asks of the kept samples. Slots are counted from 1, so that the first one is
-- above 0.
pub record InOrder (l : List Sample) : Type 0 where
  pub few : length l ≤ 10
  pub each : All SampleInRange l
  pub rises : Rising 0 l

abbrev pub in_order : List Sample → Bool
in_order l = leb (length l) 10 && (all in_range l && rising 0 l)

-- The last ten; all, if there are no more.
abbrev pub last_ten : List Sample → List Sample
last_ten l = drop (length l - 10) l

-- ---- a sample is handed

-- 10: the handed sample out of range.
abbrev pub sample_refusal : Sample → ℕ
sample_refusal x = unless 10 (in_range x)

-- 10: a kept sample out of range, more than ten of them, or slots not rising.
abbrev pub meter_refusal : List Sample → ℕ
meter_refusal l = unless 10 (in_order l)

-- 13: a slot that is not above the last one's.
abbrev pub late_refusal : List Sample → Sample → ℕ
late_refusal l x = unless 13 (ltb (last_sample_slot 0 l) x.slot)

-- "13 .. after 10."
abbrev pub take_refusal : List Sample → Sample → ℕ
take_refusal l x = sample_refusal x or_else meter_refusal l or_else late_refusal l x

-- The samples after x: the last ten of the old ones with it.
abbrev pub with_sample : List Sample → Sample → List Sample
with_sample l x = last_ten (l ++ (x ∷ []))

-- A sample handed to m: 0 and m with the samples after it; or the refusal, and m as it was handed,
-- every cell.
pub record Taken : Type 0 where
  pub code : ℕ
  pub meter : Meter

unfoldable pub taken : Meter → ℕ → ℕ → Taken
taken m slot bytes =
    let l = samples_of m in
    let x = sample slot bytes in
    let n = take_refusal l x in
    record { code = n; meter = cond (eqb n 0) (storing (with_sample l x) m) m }

-- What `take` answers: the meter afterwards, or the refusal.
abbrev pub take_answer : Meter → ℕ → ℕ → Result Meter ℕ
take_answer m slot bytes = answered (taken m slot bytes).code (taken m slot bytes).meter

-- What `update` promises of a lent meter and a sample, with its answer and the meter afterwards.
pub record UpdatePromise (m : Meter) (slot bytes : ℕ) (r : Result Unit Refusal) (m' : Meter) : Type 0 where
  -- 0, or the refusal's number.
  pub code : refusal_number r ≡ (taken m slot bytes).code
  -- "The meter lent by the link reader is brought up to date in its own storage."
  pub meter : m' ≡ (taken m slot bytes).meter

-- Lemmas. The state of the loop that reads a job file, which the contracts of its private functions
-- cite: it stands for the records read so far. Assumes nothing.
use Rattle.std.specs.Prelude.{ℕ, ◌+◌, ◌*◌, ◌-◌, ◌≤◌, ◌<◌, ◌≡◌, refl, Bool, true, false, not, ◌&&◌, ◌||◌, List, [], ◌∷◌, ◌++◌, length, get_or, take, leb, eqb, Result, Ok, Err, Option, Some, None}
use Rattle.std.proofs.Common.{ap}
use Rattle.theory_basics.specs.Lists.{up_to}
use Rattle.theory_basics.specs.Refusals.{unless, ◌or_else◌}
use Rattle.refusals.specs.declared.Refusal.{Refusal}
use Rattle.refusals.specs.Numbers.{number_of}
use Rattle.records.specs.Fields.{h_at, w_at}
use Rattle.records.specs.File.{records_refusal}
use Rattle.records.specs.lemmas.Reading.{Reads}
use Rattle.job.specs.declared.Programme.{Programme}
use Rattle.job.specs.Job.{Job, Override, job_of, last_due}
use Rattle.job.specs.Refusal.{within, overrides_refusal}
use Rattle.jobrecords.specs.declared.Record.{Record}
use Rattle.jobrecords.specs.declared.Record.TheVariants.{Pg, Ly, Sz, Bw, En}
use Rattle.jobrecords.specs.declared.Progress.{Progress}
use Rattle.jobrecords.specs.declared.Step.{Step}
use Rattle.jobrecords.specs.declared.Step.TheVariants.{On, Done}
use Rattle.jobrecords.specs.Records.{is_end}
use Rattle.jobrecords.specs.Reader.{Buffers, read_at}
use Rattle.jobrecords.specs.Says.{has_programme, no_programme, programme_in, sizes_in, overrides_in, forecast_in}
use Rattle.jobrecords.specs.Refusal.{second_refusal, previous, place, is_run_of, follows, sequence_refusal, range_fault, run_fault, format, job_of_file}

abbrev pub no_records : Progress
no_records = record { place = 0; bytes = 0; seen = false; programme = no_programme; layers = 0; overrides = 0; ends = 0; slots = 0 }

-- The programme of a PG in front.
abbrev pub programme_on : List ℕ → Programme
programme_on s = record { chunks = h_at s 2; span = h_at s 4; delay = h_at s 6; limit = h_at s 8 }

-- 17 by the place of the record before and, if it is a run, its bytes.
abbrev pub run_bytes : Record → ℕ
run_bytes (Pg p) = 0
run_bytes (Ly size) = 0
run_bytes (Sz chunk layer bytes) = 0
run_bytes (Bw count bytes) = bytes
run_bytes En = 0

abbrev pub run_follows : ℕ → ℕ → ℕ → Bool
run_follows before last bytes = leb 1 before && (leb before 3 || not (eqb last bytes))

abbrev pub follows_at : ℕ → ℕ → Record → Bool
follows_at before last (Pg p) = eqb before 0
follows_at before last (Ly size) = within 1 2 before
follows_at before last (Sz chunk layer bytes) = within 1 3 before
follows_at before last (Bw count bytes) = run_follows before last bytes
follows_at before last En = true

abbrev pub sequence_at : Bool → ℕ → ℕ → Record → ℕ
sequence_at sequenced before last r = unless 17 (not sequenced || follows_at before last r)

run_follows_at : (q : Record) (bytes : ℕ) → run_follows (place q) (run_bytes q) bytes ≡ leb 1 (place q) && not (is_run_of bytes q)
run_follows_at (Pg p) bytes = refl
run_follows_at (Ly size) bytes = refl
run_follows_at (Sz chunk layer size) bytes = refl
run_follows_at (Bw count same) bytes = refl
run_follows_at En bytes = refl

follows_at_is : (q r : Record) → follows_at (place q) (run_bytes q) r ≡ follows q r
follows_at_is q (Pg p) = refl
follows_at_is q (Ly size) = refl
follows_at_is q (Sz chunk layer bytes) = refl
follows_at_is q (Bw count bytes) = run_follows_at q bytes
follows_at_is q En = refl

pub sequence_at_is : (sequenced : Bool) (q r : Record) → sequence_at sequenced (place q) (run_bytes q) r ≡ sequence_refusal sequenced q r
sequence_at_is sequenced q r = ap (λ (b : Bool). unless 17 (not sequenced || b)) (follows_at_is q r)

-- The fault of a record, by the state.
abbrev pub fault_after : Bool → Progress → Record → ℕ
fault_after sequenced j r = second_refusal j.seen r or_else sequence_at sequenced j.place j.bytes r or_else range_fault j.layers j.slots r

-- A record that is not EN, no second PG and in range can be taken.
pub record Fine (j : Progress) (r : Record) : Type 0 where
  pub no_end : is_end r ≡ false
  pub first : second_refusal j.seen r ≡ 0
  pub ranges : range_fault j.layers j.slots r ≡ 0

-- ---- the SZs, which stand in the file one after the other

-- The SZ at a place, and so many from a place on.
abbrev pub override_on : List ℕ → ℕ → Override
override_on s at = record { chunk = h_at s (at + 2); layer = get_or s (at + 4) 0; bytes = w_at s (at + 5) }

abbrev pub overrides_on : List ℕ → ℕ → ℕ → List Override
overrides_on s from n = up_to (λ k. override_on s (from + 9 * k)) n

-- Those that the state counts.
abbrev pub counted : List ℕ → Progress → List Override
counted s j = overrides_on s (j.ends - 9 * j.overrides) j.overrides

-- The job that the state stands for, with the sizes in the table z and the slots in the table f.
abbrev pub job_from : List ℕ → Progress → List ℕ → List ℕ → Job
job_from s j z f = job_of j.programme (take j.layers z) (counted s j) (take j.slots f)

-- ---- at EN

-- 4, 6, 18, 7 at EN, by the state.
abbrev pub end_refusal : List ℕ → Progress → List ℕ → ℕ
end_refusal s j z =
    unless 4 j.seen
    or_else unless 6 (leb 1 j.layers)
    or_else overrides_refusal j.programme (take j.layers z) (counted s j)
    or_else unless 7 (eqb j.slots (last_due j.programme))

-- EN with so many bytes after it, by the state.
abbrev pub end_code : List ℕ → Progress → ℕ → List ℕ → ℕ
end_code s j after z = unless 3 (eqb after 0) or_else end_refusal s j z

-- ---- what the state stands for

-- The SZs that the state counts stand in the file.
pub record Inside (s : List ℕ) (j : Progress) : Type 0 where
  pub overrides_below : 9 * j.overrides ≤ j.ends
  pub ends_in : j.ends ≤ length s

-- A table with room for every layer,
pub record Sized (j : Progress) (z : List ℕ) : Type 0 where
  pub chunks_in : j.programme.chunks ≤ 500
  pub layers_in : j.layers ≤ 4
  pub sizes_room : length z ≡ 4

-- and one with room for every slot.
pub record Room (j : Progress) (z f : List ℕ) : Type 0 where
  pub sized : Sized j z
  pub slots_in : j.slots ≤ 3600
  pub slots_room : length f ≡ 3600

-- The state, with the sizes in the table z and the slots in the table f, stands for some records.
pub record StandsFor (j : Progress) (z f : List ℕ) (rs : List Record) : Type 0 where
  pub room : Room j z f
  pub place_is : j.place ≡ place (previous rs)
  pub bytes_is : j.bytes ≡ run_bytes (previous rs)
  pub seen_is : j.seen ≡ has_programme rs
  pub programme_is : j.programme ≡ programme_in rs
  pub sizes_are : take j.layers z ≡ sizes_in rs
  pub forecast_is : take j.slots f ≡ forecast_in rs

-- The SZs among some records of the file s, read up to a place, are those that the state counts:
-- none before the first SZ, and after an SZ the next would stand behind it.
pub record Counts (s : List ℕ) (at : ℕ) (j : Progress) (rs : List Record) : Type 0 where
  pub are : overrides_in rs ≡ counted s j
  pub room : 9 * j.overrides ≤ j.ends
  pub inside : j.ends ≤ at
  pub none_yet : place (previous rs) ≤ 2 → j.overrides ≡ 0
  pub behind : place (previous rs) ≡ 3 → j.ends ≡ at

module _ (sequenced : Bool) where
  -- The file s is read up to a place without a refusal.
  pub record OneStepPre (s : List ℕ) (at : ℕ) (j : Progress) (z f : List ℕ) : Type 0 where
    pub before : List Record
    pub reads : Reads (format sequenced) s at before
    pub stands : StandsFor j z f before
    pub counts : Counts s at j before

  -- The file s is read to its end.
  pub record Complete (s : List ℕ) (j : Progress) (z f : List ℕ) : Type 0 where
    pub none : records_refusal (format sequenced) s ≡ 0
    pub room : Room j z f
    pub inside : Inside s j
    pub job_is : job_from s j z f ≡ job_of_file sequenced s

  -- The file s is refused.
  abbrev pub Refuses : List ℕ → Refusal → Type 0
  Refuses s e = records_refusal (format sequenced) s ≡ number_of e

  abbrev pub ReadAllPost : List ℕ → List ℕ → List ℕ → Result Progress Refusal → Type 0
  ReadAllPost s z f (Ok j) = Complete s j z f
  ReadAllPost s z f (Err e) = Refuses s e

  -- What a turn leaves.
  abbrev pub OneStepPost : List ℕ → ℕ → List ℕ → List ℕ → Result Step Refusal → Type 0
  OneStepPost s at z f (Ok (On j next)) = (at < next) × OneStepPre s next j z f
  OneStepPost s at z f (Ok (Done j)) = Complete s j z f
  OneStepPost s at z f (Err e) = Refuses s e

-- ---- the state with a record more

-- The state after a PG; after an LY, with so many layers in all; after n SZs more, the last of which
-- ends at a place; after runs, the last one of so many bytes, with so many slots in all.
abbrev pub with_programme : Progress → Programme → Progress
with_programme j p = record { place = 1; bytes = 0; seen = true; programme = p; layers = j.layers; overrides = j.overrides; ends = j.ends; slots = j.slots }

abbrev pub with_layers : Progress → ℕ → Progress
with_layers j layers = record { place = 2; bytes = 0; seen = j.seen; programme = j.programme; layers = layers; overrides = j.overrides; ends = j.ends; slots = j.slots }

abbrev pub with_overrides : Progress → ℕ → ℕ → Progress
with_overrides j n ends = record { place = 3; bytes = 0; seen = j.seen; programme = j.programme; layers = j.layers; overrides = j.overrides + n; ends = ends; slots = j.slots }

abbrev pub with_runs : Progress → ℕ → ℕ → Progress
with_runs j slots bytes = record { place = 4; bytes = bytes; seen = j.seen; programme = j.programme; layers = j.layers; overrides = j.overrides; ends = j.ends; slots = slots }

-- ---- runs and SZs that follow one of their kind

-- A run stands at a place and has no fault after another of the bytes `last` and so many slots.
pub record SoundAt (s : List ℕ) (at slots last count bytes : ℕ) : Type 0 where
  pub inside : at + 8 ≤ length s
  pub reads : (sequenced : Bool) → Ok (Bw count bytes, at + 8) ≡ read_at sequenced s at
  pub turn : run_follows 4 last bytes ≡ true
  pub ranges : run_fault slots count bytes ≡ 0

abbrev pub SoundRunPost : List ℕ → ℕ → ℕ → ℕ → Option (ℕ × ℕ) → Type 0
SoundRunPost s at slots last (Some run) = SoundAt s at slots last run.0 run.1
SoundRunPost s at slots last None = Unit {0}

-- A record was taken that ends at a place.
pub record Reached (s : List ℕ) (from : ℕ) (j : Progress) : Type 0 where
  pub inside : from ≤ length s
  pub overrides_below : 9 * j.overrides ≤ from
  pub slots_in : j.slots ≤ 3600

-- On from that place: what was left of a turn is left of one with some records more.
pub record GoesOn (q : Bool) (s : List ℕ) (from : ℕ) (j : Progress) (f : List ℕ) (r : Progress × ℕ) (f' : List ℕ) : Type 0 where
  pub ahead : from ≤ r.1
  pub reached : (z : List ℕ) → OneStepPre q s from j z f → OneStepPre q s r.1 r.0 z f'

-- Runs are the same to both readers, and SZs change no slot.
pub record TakeRunsPost (s : List ℕ) (from : ℕ) (j : Progress) (f : List ℕ) (r : Progress × ℕ) (f' : List ℕ) : Type 0 where
  pub goes_on : (q : Bool) → GoesOn q s from j f r f'

pub record TakeOverridesPost (s : List ℕ) (from : ℕ) (j : Progress) (r : Progress × ℕ) : Type 0 where
  pub goes_on : (f : List ℕ) → GoesOn true s from j f r f

-- How many SZs there are, and the place after the last, with a record more that ends at a place.
abbrev pub more_overrides : ℕ → Record → ℕ
more_overrides n (Pg p) = n
more_overrides n (Ly size) = n
more_overrides n (Sz chunk layer bytes) = n + 1
more_overrides n (Bw count bytes) = n
more_overrides n En = n

abbrev pub ends_after : ℕ → ℕ → Record → ℕ
ends_after ends next (Pg p) = ends
ends_after ends next (Ly size) = ends
ends_after ends next (Sz chunk layer bytes) = next
ends_after ends next (Bw count bytes) = ends
ends_after ends next En = ends

-- A record without a fault that ends at a place goes into the tables: whatever the state stood for,
-- it then stands for that record too.
pub record TakeRecordPost (j : Progress) (z f : List ℕ) (r : Record) (next : ℕ) (j' : Progress) (z' f' : List ℕ) : Type 0 where
  pub stands : (rs : List Record) → StandsFor j z f rs → StandsFor j' z' f' (rs ++ (r ∷ []))
  pub overrides_are : j'.overrides ≡ more_overrides j.overrides r
  pub ends_are : j'.ends ≡ ends_after j.ends next r

-- 11 unless the buffers hold so many layers, SZs and slots.
abbrev pub room_by : (layers overrides slots : ℕ) → Buffers → ℕ
room_by layers overrides slots lent =
    unless 11
    (leb layers (length lent.sizes)
    && (leb overrides (length lent.size_chunks)
    && (leb overrides (length lent.size_layers)
    && (leb overrides (length lent.size_bytes)
    && leb slots (length lent.forecast)))))

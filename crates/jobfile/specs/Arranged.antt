-- Meaning. The mixed files of document 01: "`PG` may stand anywhere before `EN`, and `LY` and `BW`
-- may mix."
use Rattle.std.specs.Prelude.{ℕ, suc, ◌≤◌, ◌≡◌, List, [], ◌∷◌, ◌++◌}
use Rattle.theory_basics.specs.Tests.{All}
use Rattle.records.specs.File.{encode_all}
use Rattle.job.specs.Job.{Accepted}
use Rattle.jobrecords.specs.declared.Record.{Record}
use Rattle.jobrecords.specs.declared.Record.TheVariants.{Pg, Ly, Sz, Bw, En}
use Rattle.jobrecords.specs.Records.{encode}
use Rattle.jobrecords.specs.Says.{job_in}

-- A record that may stand anywhere before EN: a PG, an LY, or a BW of at least one slot.
abbrev pub MayStand : Record → Type 0
MayStand (Pg p) = Unit {0}
MayStand (Ly size) = Unit {0}
MayStand (Sz chunk layer bytes) = ⊥
MayStand (Bw count bytes) = 1 ≤ count
MayStand En = ⊥

-- How many PGs are among some records.
abbrev pub programmes : List Record → ℕ
programmes [] = 0
programmes (Pg p ∷ rs) = suc (programmes rs)
programmes (Ly size ∷ rs) = programmes rs
programmes (Sz chunk layer bytes ∷ rs) = programmes rs
programmes (Bw count bytes ∷ rs) = programmes rs
programmes (En ∷ rs) = programmes rs

-- Such records in any order, one PG among them, that say an accepted job.
pub record Arrangement (rs : List Record) : Type 0 where
  pub kinds : All MayStand rs
  pub one_programme : programmes rs ≡ 1
  pub accepted : Accepted (job_in rs)

-- The bytes of some records one after the other, then EN.
abbrev pub with_end : List Record → List ℕ
with_end rs = encode_all encode rs ++ encode En

-- A string of bytes that is an arrangement and EN.
pub record Arranged (s : List ℕ) : Type 0 where
  pub records : List Record
  pub arrangement : Arrangement records
  pub is : with_end records ≡ s

-- Lemmas. What the functions of stretch.rt hand each other, and the choice that a trial is.
use Rattle.std.specs.Prelude.{ℕ, suc, ◌+◌, ◌*◌, ◌-◌, ◌/◌, ◌≤◌, min, ◌≡◌, cond, List, map, get_or, drop, leb, ltb, eqb}
use Rattle.theory_basics.specs.Sums.{sum}
use Rattle.job.specs.declared.Programme.{Programme}
use Rattle.job.specs.Job.{Accepted, Job, chunks, due_slot, last_due, layers, size}
use Rattle.theory_plan.specs.Plan as Plan
use Rattle.theory_plan.specs.Plan.{picked}
use Rattle.theory_plan.specs.Statement.{CanCarry, Choice}
use Rattle.theory_reasons.specs.Lines.{stretch_of}
use Rattle.core_reasons.specs.declared.passes.Stretch.{Stretch}
use Rattle.core_reasons.specs.lemmas.Passes.{spelled}

-- ---- the trial

-- Layer n of chunk i added to what is settled before it: the layers up to n of the chunks after i,
-- and at most `cap` of those before it. With cap n it is document 01's trial; with n 0 and cap 1 it
-- is all bases kept, and this one.
abbrev pub trial : (ℕ → ℕ) → ℕ → ℕ → ℕ → ℕ → ℕ
trial plan i n cap k = cond (eqb k i) (suc n) (min (plan k) (cond (ltb i k) (suc n) cap))

-- The same from a table of levels, chunk k at place k - 1.
abbrev pub level_in : List ℕ → ℕ → ℕ → ℕ → ℕ → ℕ
level_in levels i n cap k = trial (λ k. get_or levels (k - 1) 0) i n cap k

-- The bytes of the first m layers of chunk k.
abbrev pub bytes_in : List ℕ → ℕ → ℕ → ℕ
bytes_in sums k m = get_or sums ((k - 1) * 4 + (m - 1)) 0

-- The kept chunks of the trial.
abbrev pub chunks_in : Programme → List ℕ → ℕ → ℕ → ℕ → List ℕ
chunks_in p levels i n cap = picked (λ k. leb 1 (level_in levels i n cap k)) 0 p.chunks

-- ---- the tables

pub record SetTablesPre (p : Programme) (n cap : ℕ) : Type 0 where
  pub few : p.chunks ≤ 500
  pub ends : last_due p ≤ 3600
  pub layer : n ≤ 3
  pub cap_in : cap ≤ 4

pub record SetTablesPost (p : Programme) (sums levels : List ℕ) (i n cap first : ℕ) (dues bytes : List ℕ) : Type 0 where
  pub within : first ≤ 500
  pub due_slots : drop first dues ≡ map (due_slot p) (chunks_in p levels i n cap)
  pub carried : drop first bytes ≡ map (λ k. bytes_in sums k (level_in levels i n cap k)) (chunks_in p levels i n cap)

-- ---- the stretch of a trial

-- The tables of a job and a plan.
pub record Given (j : Job) (plan : ℕ → ℕ) (p : Programme) (sums after levels : List ℕ) : Type 0 where
  pub same : j.programme ≡ p
  pub sizes : (k m : ℕ) → 1 ≤ k → k ≤ chunks j → 1 ≤ m → m ≤ layers j → bytes_in sums k m ≡ sum (size j k) m
  pub forecasts : (t : ℕ) → get_or after t 0 ≡ Plan.after j t
  pub carried : (k : ℕ) → 1 ≤ k → k ≤ chunks j → get_or levels (k - 1) 0 ≡ plan k

pub record FindShortPre (p : Programme) (held : ℕ) (after : List ℕ) (n cap : ℕ) : Type 0 where
  pub few : p.chunks ≤ 500
  pub late : 1 ≤ p.delay
  pub ends : last_due p ≤ 3600
  pub held_is : held ≡ p.limit / p.span
  pub layer : n ≤ 3
  pub cap_in : cap ≤ 4
  pub forecasts : (t : ℕ) → get_or after t 0 ≤ 60397977600

-- The stretch is the one named, for every job and plan of which these are the tables.
pub record FindShortPost (p : Programme) (sums after levels : List ℕ) (i n cap : ℕ) (s : Stretch) : Type 0 where
  pub found :
      (j : Job) → Accepted j → (plan : ℕ → ℕ) → Given j plan p sums after levels → Choice j (trial plan i n cap) →
      (CanCarry j (trial plan i n cap) → ⊥) → spelled s ≡ stretch_of j (trial plan i n cap)

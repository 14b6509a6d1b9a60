-- Lemmas. What the functions of this crate hand each other: a table of maxima, and tables of
-- 500 places whose end, from a first place on, holds the kept chunks in playing order. The
-- definition behind them is theory_plan's `kept_after`.
use Rattle.std.specs.Prelude.{ℕ, ◌+◌, ◌*◌, ◌-◌, ◌/◌, ◌≤◌, ◌<◌, max, ◌≡◌, Bool, cond, not, ◌&&◌, List, map, length, drop, replicate, leb, ltb, eqb}
use Rattle.theory_basics.specs.Lists.{has}
use Rattle.theory_basics.specs.Tests.{all_to}
use Rattle.job.specs.declared.Programme.{Programme}
use Rattle.job.specs.Job.{Within, due_slot, last_due}
use Rattle.theory_plan.specs.Bases.{kept_after, Asc}
use Rattle.theory_plan.specs.Plan.{picked}
use Rattle.theory_plan.specs.lemmas.Parts.{at}

-- ---- where request 9 settles the bases: `by_moore_hodgson` of a job, over its programme and sizes

abbrev pub equal_in : ℕ → (ℕ → ℕ → ℕ) → Bool
equal_in c size = all_to c (λ i. eqb (size i 0) (size 1 0))

abbrev pub applies_in : Programme → (ℕ → ℕ → ℕ) → Bool
applies_in p size = leb p.chunks (p.limit / p.span) && not (equal_in p.chunks size)

-- ---- the table of maxima

-- The larger of the two places under q.
abbrev pub under : List ℕ → ℕ → ℕ
under t q = max (at t (2 * q)) (at t (2 * q + 1))

-- Each place below 512 has the larger of the two under it.
pub record Maxima (t : List ℕ) : Type 0 where
  pub right : (q : ℕ) → 1 ≤ q → q < 512 → at t q ≡ under t q

-- A leaf of such a table.
pub record LeafPre (leaf : ℕ) (t : List ℕ) : Type 0 where
  pub low : 512 ≤ leaf
  pub high : leaf < 1024
  pub maxima : Maxima t

-- A leaf got v, the others have what they had.
pub record LeafPost (leaf v : ℕ) (old new : List ℕ) : Type 0 where
  pub maxima : Maxima new
  pub leaves : (q : ℕ) → 512 ≤ q → at new q ≡ cond (eqb q leaf) v (at old q)

-- The leaf of the largest, the first among equals. Place 1 has as much.
pub record FindLargestPost (t : List ℕ) (leaf : ℕ) : Type 0 where
  pub low : 512 ≤ leaf
  pub high : leaf < 1024
  pub same : at t leaf ≡ at t 1
  pub top : (q : ℕ) → 512 ≤ q → q < 1024 → at t q ≤ at t leaf
  pub first : (q : ℕ) → 512 ≤ q → q < leaf → at t q < at t leaf

-- The leaves are the bytes of the kept chunks, and 0 elsewhere.
pub record Shows (s : ℕ → ℕ) (t ks : List ℕ) : Type 0 where
  pub maxima : Maxima t
  pub leaf : (k : ℕ) → k < 512 → at t (512 + k) ≡ cond (has ks k) (s k) 0

-- ---- the algorithm

-- What the bases due by chunk i's due slot may sum to; A t: what is forecast after slot t.
abbrev pub room_in : Programme → (ℕ → ℕ) → ℕ → ℕ
room_in p A i = A 0 - A (due_slot p i)

-- The chunks that are kept: `moore_hodgson` of a job, over its programme, sizes and sums
-- (theory_plan, MooreHodgson, `kept_by_after`).
abbrev pub moore_hodgson_in : Programme → (ℕ → ℕ → ℕ) → (ℕ → ℕ) → List ℕ
moore_hodgson_in p size A = kept_after (λ k. size k 0) (room_in p A) p.chunks

-- What is asked of the programme, the bases and the sums of the forecast.
pub record Fit (p : Programme) (size : ℕ → ℕ → ℕ) (after : List ℕ) : Type 0 where
  pub few : p.chunks ≤ 500
  pub ends : last_due p ≤ 3600
  pub bases : (i : ℕ) → 1 ≤ i → i ≤ p.chunks → Within 1 16777216 (size i 0)
  pub sums : (t : ℕ) → at after t ≤ 60397977600
  pub slots : length after ≡ 3601

pub record KeepOrDropPre (p : Programme) (size : ℕ → ℕ → ℕ) (after tree : List ℕ) : Type 0 where
  pub fit : Fit p size after
  pub zeros : tree ≡ replicate 1024 0

abbrev pub KeepOrDropPost : Programme → (ℕ → ℕ → ℕ) → List ℕ → List ℕ → Type 0
KeepOrDropPost p size after tree = Shows (λ k. size k 0) tree (moore_hodgson_in p size (at after))

-- ---- the kept chunks, at the end of the tables

abbrev pub Long : List ℕ → List ℕ → List ℕ → Type 0
Long ids dues bytes = (length ids ≡ 500) × (length dues ≡ 500) × (length bytes ≡ 500)

-- Chunk i is kept.
abbrev pub stands : List ℕ → ℕ → Bool
stands tree i = ltb 0 (at tree (512 + i))

pub record GatherPre (p : Programme) : Type 0 where
  pub few : p.chunks ≤ 500
  pub ends : last_due p ≤ 3600

pub record GatherPost (p : Programme) (tree : List ℕ) (first : ℕ) (ids dues bytes : List ℕ) : Type 0 where
  pub within : first ≤ 500
  pub kept : drop first ids ≡ picked (stands tree) 0 p.chunks
  pub due_slots : drop first dues ≡ map (due_slot p) (drop first ids)
  pub base_bytes : drop first bytes ≡ map (λ i. at tree (512 + i)) (drop first ids)

-- ---- the whole

pub record KeepMostPre (p : Programme) (size : ℕ → ℕ → ℕ) (after ids dues bytes : List ℕ) : Type 0 where
  pub fit : Fit p size after
  pub long : Long ids dues bytes

-- The kept chunks ks stand at the end of the tables, in playing order, each with its due slot and
-- its base's bytes.
pub record KeptIn (p : Programme) (size : ℕ → ℕ → ℕ) (ks : List ℕ) (first : ℕ) (ids dues bytes : List ℕ) : Type 0 where
  pub within : first ≤ 500
  pub kept : drop first ids ≡ ks
  pub due_slots : drop first dues ≡ map (due_slot p) (drop first ids)
  pub base_bytes : drop first bytes ≡ map (λ k. size k 0) (drop first ids)
  pub ascending : Asc 1 p.chunks (drop first ids)
  pub long : Long ids dues bytes

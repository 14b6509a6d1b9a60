-- Lemmas. What the functions of decide.rt hand each other: tables of 500 places whose end, from a
-- first place on, holds the kept chunks in playing order. The definitions behind them are those of
-- theory_plan, Trials.
use Rattle.std.specs.Prelude.{ℕ, suc, ◌+◌, ◌*◌, ◌-◌, ◌/◌, ◌≤◌, ◌≡◌, cond, List, [], ◌∷◌, map, length, get_or, take, drop, replicate}
use Rattle.theory_basics.specs.Tests.{All}
use Rattle.job.specs.declared.Programme.{Programme}
use Rattle.job.specs.Job.{Job, Override, Within, job_of, size_in, due, due_slot, held_most, last_due}
use Rattle.core_moore_hodgson.specs.lemmas.Tables.{KeptIn, moore_hodgson_in, applies_in}
use Rattle.theory_plan.specs.Plan.{after, kept, plan}
use Rattle.theory_plan.specs.lemmas.Trials.{bases, level_mark, Kept, back, decided_on, kept_at, on_layers}
use Rattle.theory_plan.specs.lemmas.Parts.{ForecastPart, at, left_after, padded}
use Rattle.theory_plan.specs.lemmas.Queue.{releases}

-- The sums of a forecast that can be: 3,600 slots of 16,777,216 bytes.
abbrev pub Sums : List ℕ → Type 0
Sums after = (k : ℕ) → get_or after k 0 ≤ 60397977600

-- A table holds what is left after each slot.
pub record SumTable (start : ℕ) (part after : List ℕ) : Type 0 where
  pub long : length after ≡ 3601
  pub is : (t : ℕ) → get_or after t 0 ≡ left_after (padded start part) t

-- ---- the base

pub record KeepBasesPre (p : Programme) (size : ℕ → ℕ → ℕ) (after ids dues bytes needs : List ℕ) : Type 0 where
  pub few : p.chunks ≤ 500
  pub late : 1 ≤ p.delay
  pub ends : last_due p ≤ 3600
  pub small : (i n : ℕ) → size i n ≤ 16777216
  pub sums : Sums after
  pub long : (length after ≡ 3601) × (length ids ≡ 500) × (length dues ≡ 500) × (length bytes ≡ 500) × (length needs ≡ 500)

-- The chunks that document 01's stack keeps; A t: what is forecast after slot t.
abbrev pub stack_in : Programme → (ℕ → ℕ → ℕ) → (ℕ → ℕ) → List ℕ
stack_in p size A = (bases (λ k. size k 0) (due_slot p) A (p.limit / p.span) 0 p.chunks).chunks

-- The chunks whose base is kept: by Moore-Hodgson where request 9 settles them, else by the stack.
abbrev pub bases_in : Programme → (ℕ → ℕ → ℕ) → (ℕ → ℕ) → List ℕ
bases_in p size A = cond (applies_in p size) (moore_hodgson_in p size A) (stack_in p size A)

-- What both ask.
pub record SettleBasesPre (p : Programme) (size : ℕ → ℕ → ℕ) (after ids dues bytes needs : List ℕ) : Type 0 where
  pub from : KeepBasesPre p size after ids dues bytes needs
  pub least : (i : ℕ) → 1 ≤ i → i ≤ p.chunks → 1 ≤ size i 0

-- ---- a further layer

-- The kept chunks that four tables hold.
abbrev pub kept_of : List ℕ → List ℕ → List ℕ → List ℕ → List Kept
kept_of [] ds bs ms = []
kept_of (i ∷ is) [] bs ms = []
kept_of (i ∷ is) (d ∷ ds) [] ms = []
kept_of (i ∷ is) (d ∷ ds) (b ∷ bs) [] = []
kept_of (i ∷ is) (d ∷ ds) (b ∷ bs) (m ∷ ms) = record { chunk = i; due = d; bytes = b; mark = m } ∷ kept_of is ds bs ms

-- A slot that a table of sums has.
abbrev pub Slot : ℕ → Type 0
Slot t = Within 1 3600 t

pub record TryLayerPre (size : ℕ → ℕ → ℕ) (n : ℕ) (after ids dues room : List ℕ) (first : ℕ) (bytes mark : List ℕ) : Type 0 where
  pub low : 1 ≤ n
  pub high : n ≤ 3
  pub chunks_in : All (Within 1 500) (drop first ids)
  pub small : (i n : ℕ) → size i n ≤ 16777216
  pub sums : Sums after
  pub slots : All Slot (drop first dues)
  pub within : first ≤ 500
  pub carried : All (λ b. b ≤ n * 16777216) (drop first bytes)
  pub long : (length after ≡ 3601) × (length ids ≡ 500) × (length dues ≡ 500) × (length room ≡ 500) × (length bytes ≡ 500) × (length mark ≡ 500)

pub record TryLayerPost (size : ℕ → ℕ → ℕ) (n : ℕ) (after ids dues room : List ℕ) (first : ℕ) (bytes mark bytes' mark' : List ℕ) : Type 0 where
  pub kept :
      kept_of (drop first ids) (drop first dues) (drop first bytes') (drop first mark')
      ≡ (back size (at after) n (drop first room) (kept_of (drop first ids) (drop first dues) (drop first bytes) (drop first mark))).kept
  pub carried : All (λ b. b ≤ suc n * 16777216) (drop first bytes')
  pub long : (length bytes' ≡ 500) × (length mark' ≡ 500)

-- ---- all layers

pub record SettleLayersPre (layers : ℕ) (size : ℕ → ℕ → ℕ) (after ids dues ready : List ℕ) (first : ℕ) (bytes room mark : List ℕ) : Type 0 where
  pub some : 1 ≤ layers
  pub few : layers ≤ 4
  pub chunks_in : All (Within 1 500) (drop first ids)
  pub small : (i n : ℕ) → size i n ≤ 16777216
  pub sums : Sums after
  pub due_slots : All Slot (drop first dues)
  pub release_slots : All Slot (drop first ready)
  pub within : first ≤ 500
  pub carried : All (λ b. b ≤ 16777216) (drop first bytes)
  pub long : (length after ≡ 3601) × (length ids ≡ 500) × (length dues ≡ 500) × (length ready ≡ 500) × (length bytes ≡ 500) × (length room ≡ 500) × (length mark ≡ 500)

pub record SettleLayersPost (layers : ℕ) (size : ℕ → ℕ → ℕ) (all : ℕ) (after ids dues ready : List ℕ) (first : ℕ) (bytes mark bytes' mark' : List ℕ) : Type 0 where
  pub kept :
      kept_of (drop first ids) (drop first dues) (drop first bytes') (drop first mark')
      ≡ on_layers size (at after) all (drop first ready) (layers - 1) (kept_of (drop first ids) (drop first dues) (drop first bytes) (drop first mark))
  pub long : (length bytes' ≡ 500) × (length mark' ≡ 500)

-- ---- kept chunks, however they were found

-- What the layers above their bases ask for; left: what is forecast after each slot.
pub record SettleKeptPre (p : Programme) (layers : ℕ) (size : ℕ → ℕ → ℕ) (left : List ℕ) (first : ℕ) (ids dues bytes room ready mark : List ℕ) : Type 0 where
  pub few : p.chunks ≤ 500
  pub late : 1 ≤ p.delay
  pub ends : last_due p ≤ 3600
  pub some : 1 ≤ layers
  pub few_layers : layers ≤ 4
  pub small : (i n : ℕ) → size i n ≤ 16777216
  pub sums : Sums left
  pub kept : KeptIn p size (drop first ids) first ids dues bytes
  pub long : (length left ≡ 3601) × (length room ≡ 500) × (length ready ≡ 500)
  pub marks : mark ≡ replicate 500 1

-- The tables hold the chunks of a choice, their releases, and their marks.
pub record Decides (j : Job) (x : ℕ → ℕ) (first : ℕ) (ids ready mark : List ℕ) : Type 0 where
  pub within : first ≤ 500
  pub chunks : drop first ids ≡ kept j x
  pub releases_are : drop first ready ≡ take (500 - first) (releases (due j) (held_most j) (kept j x))
  pub marks : drop first mark ≡ map (λ k. level_mark (x k)) (kept j x)
  pub long : (length ids ≡ 500) × (length ready ≡ 500) × (length mark ≡ 500)

-- So for every job that the handed numbers say, however its sizes are stored, and the choice that
-- the passes over these chunks decide.
abbrev pub SettleKeptPost : Programme → ℕ → (ℕ → ℕ → ℕ) → List ℕ → ℕ → List ℕ → List ℕ → List ℕ → Type 0
SettleKeptPost p layers size left first ids ready mark =
    (sizes : List ℕ) (overrides : List Override) (forecast : List ℕ) → layers ≡ length sizes → size ≡ size_in sizes overrides →
    at left ≡ after (job_of p sizes overrides forecast) → (x : ℕ → ℕ) → drop first ids ≡ kept (job_of p sizes overrides forecast) x →
    decided_on (job_of p sizes overrides forecast) (drop first ids)
    ≡ map (kept_at (job_of p sizes overrides forecast) x) (kept (job_of p sizes overrides forecast) x) →
    Decides (job_of p sizes overrides forecast) x first ids ready mark

-- ---- the whole decision

-- The job of which a part of the forecast is handed.
abbrev pub job_from : Programme → List ℕ → List Override → ℕ → List ℕ → Job
job_from p sizes overrides start part = job_of p sizes overrides (padded start part)

pub record DecidePre (p : Programme) (layers : ℕ) (size : ℕ → ℕ → ℕ) (start : ℕ) (part ids ready mark : List ℕ) : Type 0 where
  pub few : p.chunks ≤ 500
  pub late : 1 ≤ p.delay
  pub ends : last_due p ≤ 3600
  pub some : 1 ≤ layers
  pub few_layers : layers ≤ 4
  pub small : (i n : ℕ) → size i n ≤ 16777216
  pub least : (i : ℕ) → 1 ≤ i → i ≤ p.chunks → 1 ≤ size i 0
  pub part_in : ForecastPart start part
  pub slots : start - 1 + length part ≡ last_due p
  pub long : (length ids ≡ 500) × (length ready ≡ 500)
  pub marks : mark ≡ replicate 500 1

-- The tables hold the plan, of every job that the handed numbers say.
abbrev pub DecidePost : Programme → ℕ → (ℕ → ℕ → ℕ) → ℕ → List ℕ → ℕ → List ℕ → List ℕ → List ℕ → Type 0
DecidePost p layers size start part first ids ready mark =
    (sizes : List ℕ) (overrides : List Override) → layers ≡ length sizes → size ≡ size_in sizes overrides →
    Decides (job_from p sizes overrides start part) (plan (job_from p sizes overrides start part)) first ids ready mark

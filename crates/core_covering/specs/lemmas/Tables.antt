-- Lemmas. What the functions of this crate hand each other: levels by chunk number, and sets of
-- bases as slices of chunk numbers with the level that they have used. Each function is called
-- with tables of some accepted job, and answers for every job that they are tables of.
use Rattle.std.specs.Prelude.{ℕ, ◌+◌, ◌*◌, ◌-◌, ◌<◌, ◌≤◌, max, ◌≡◌, Bool, true, List, length, get_or, take, drop}
use Rattle.job.specs.declared.Programme.{Programme}
use Rattle.job.specs.Job.{Accepted, Job, chunks, held_most}
use Rattle.theory_plan.specs.Bases.{base_size}
use Rattle.theory_plan.specs.Plan.{after}
use Rattle.theory_most.specs.Statement.{Covers, LeastAfter, Set, after_set, end_of, least, next_from, open_of}
use Rattle.theory_most.specs.Search.{forward}
use Rattle.theory_most.specs.lemmas.InTables.{EachJob, Says, SomeJob}

-- ---- levels by chunk

-- A table by chunk number holds f for chunks 1 to C.
pub record ByChunk (j : Job) (f : ℕ → ℕ) (table : List ℕ) : Type 0 where
  pub is : (k : ℕ) → 1 ≤ k → k ≤ chunks j → get_or table k 0 ≡ f k

-- A number for each i that no base after chunk i is below.
pub record LeastBases (j : Job) (smallest : List ℕ) : Type 0 where
  pub is : (i : ℕ) → 1 ≤ i → i ≤ chunks j → LeastAfter j i (get_or smallest i 0)
  pub small : (i : ℕ) → 1 ≤ i → i ≤ chunks j → get_or smallest i 0 ≤ 16777216

pub record LevelsOf (j : Job) (ends opens bases smallest : List ℕ) : Type 0 where
  pub ends_are : ByChunk j (end_of j) ends
  pub opens_are : ByChunk j (open_of j) opens
  pub bases_are : ByChunk j (base_size j) bases
  pub least_are : LeastBases j smallest

abbrev pub SetLevelsPre : Programme → (ℕ → ℕ → ℕ) → List ℕ → Type 0
SetLevelsPre p sizes left = SomeJob p (λ j. Says j sizes left)

abbrev pub SetLevelsPost : Programme → (ℕ → ℕ → ℕ) → List ℕ → List ℕ → List ℕ → List ℕ → List ℕ → Type 0
SetLevelsPost p sizes left ends opens bases smallest = EachJob p (λ j. Says j sizes left → LevelsOf j ends opens bases smallest)

-- ---- a set and what it waits for

-- A set of the first i chunks of a job whose limit holds some chunk.
pub record SetOf (j : Job) (held : ℕ) (opens set : List ℕ) : Type 0 where
  pub chunk : ℕ
  pub inside : chunk ≤ chunks j
  pub is_set : Set j chunk set
  pub accepted : Accepted j
  pub held_is : held ≡ held_most j
  pub held_some : 1 ≤ held
  pub opens_are : ByChunk j (open_of j) opens

pub record WaitPre (held : ℕ) (opens set : List ℕ) (q : ℕ) : Type 0 where
  pub job : Job
  pub set_in : SetOf job held opens set
  pub inside : q < held

abbrev pub WaitPost : ℕ → List ℕ → List ℕ → ℕ → ℕ → Type 0
WaitPost held opens set q r = (j : Job) → SetOf j held opens set → r ≡ (after_set j set).waits q

abbrev pub NextFromPost : ℕ → List ℕ → List ℕ → ℕ → ℕ → Type 0
NextFromPost held opens set used r = (j : Job) → SetOf j held opens set → used ≡ (after_set j set).used → r ≡ next_from j (after_set j set)

-- ---- hopeless

-- The row of the chunks behind i.
pub record RowOf (j : Job) (i : ℕ) (row : List ℕ) : Type 0 where
  pub is : (c : ℕ) → c ≤ chunks j → get_or row c 0 ≡ least j i c
  pub long : length row ≡ 501

pub record HopelessFor (j : Job) (target held : ℕ) (row opens set : List ℕ) (used : ℕ) : Type 0 where
  pub set_in : SetOf j held opens set
  pub used_is : used ≡ (after_set j set).used
  pub target_in : target ≤ chunks j
  pub row_is : RowOf j set_in.chunk row

pub record HopelessPre (target held : ℕ) (row opens set : List ℕ) (used : ℕ) : Type 0 where
  pub job : Job
  pub holds : HopelessFor job target held row opens set used

-- What is said of a hopeless set.
pub record Hopeless (j : Job) (target i : ℕ) (set : List ℕ) : Type 0 where
  pub fewer : length set < target
  pub too_much : after j 0 < next_from j (after_set j set) + least j i (target - length set)

abbrev pub HopelessPost : ℕ → ℕ → ℕ → List ℕ → List ℕ → List ℕ → ℕ → Bool → Type 0
HopelessPost target held all row opens set used r =
    (j : Job) (h : HopelessFor j target held row opens set used) → all ≡ after j 0 → r ≡ true → Hopeless j target h.set_in.chunk set

-- ---- covering

-- Two sets of the same first chunks, with what they have used; no later base is below `smallest`.
pub record TwoSets (j : Job) (held smallest : ℕ) (opens u : List ℕ) (used_u : ℕ) (s : List ℕ) (usedS : ℕ) : Type 0 where
  pub chunk : ℕ
  pub inside : chunk ≤ chunks j
  pub set_u : Set j chunk u
  pub set_s : Set j chunk s
  pub u_is : used_u ≡ (after_set j u).used
  pub s_is : usedS ≡ (after_set j s).used
  pub small : smallest ≤ 16777216
  pub accepted : Accepted j
  pub held_is : held ≡ held_most j
  pub held_some : 1 ≤ held
  pub opens_are : ByChunk j (open_of j) opens

pub record CoversPre (held smallest : ℕ) (opens u : List ℕ) (used_u : ℕ) (s : List ℕ) (usedS : ℕ) : Type 0 where
  pub job : Job
  pub holds : TwoSets job held smallest opens u used_u s usedS

-- What is said of a set that another covers.
pub record CoveredBy (j : Job) (smallest : ℕ) (u s : List ℕ) : Type 0 where
  pub no_fewer : length s ≤ length u
  pub covers : Covers j smallest (length u - length s) (after_set j u) (after_set j s)

abbrev pub CoversPost : ℕ → ℕ → List ℕ → List ℕ → ℕ → List ℕ → ℕ → Bool → Type 0
CoversPost held smallest opens u used_u s usedS r =
    (j : Job) → TwoSets j held smallest opens u used_u s usedS → r ≡ true → CoveredBy j smallest u s

pub record WaitsCoveredPre (held smallest : ℕ) (opens u : List ℕ) (lead : ℕ) (s : List ℕ) (usedS : ℕ) : Type 0 where
  pub job : Job
  pub used_u : ℕ
  pub holds : TwoSets job held smallest opens u used_u s usedS
  pub lead_is : length u ≡ lead + length s
  pub lead_in : lead < held

abbrev pub WaitsCoveredPost : ℕ → ℕ → List ℕ → List ℕ → ℕ → List ℕ → ℕ → Bool → Type 0
WaitsCoveredPost held smallest opens u lead s usedS r =
    (j : Job) (used_u : ℕ) → TwoSets j held smallest opens u used_u s usedS → r ≡ true → (q : ℕ) → q + lead < held →
    (after_set j u).waits q ≤ max ((after_set j s).used + (q + lead) * smallest) ((after_set j s).waits (q + lead))

-- ---- forward, where H is at most 1

pub record ForwardFor (j : Job) (count held : ℕ) (ends opens bases : List ℕ) : Type 0 where
  pub accepted : Accepted j
  pub count_is : count ≡ chunks j
  pub held_is : held ≡ held_most j
  pub held_few : held ≤ 1
  pub ends_are : ByChunk j (end_of j) ends
  pub opens_are : ByChunk j (open_of j) opens
  pub bases_are : ByChunk j (base_size j) bases

pub record ForwardPre (count held : ℕ) (ends opens bases : List ℕ) : Type 0 where
  pub job : Job
  pub holds : ForwardFor job count held ends opens bases

pub record ForwardOf (j : Job) (r : ℕ) (ids : List ℕ) : Type 0 where
  pub kept : take r ids ≡ forward j (chunks j)
  pub few : r ≤ chunks j
  pub long : length ids ≡ 500

abbrev pub ForwardPost : ℕ → ℕ → List ℕ → List ℕ → List ℕ → ℕ → List ℕ → Type 0
ForwardPost count held ends opens bases r ids = (j : Job) → ForwardFor j count held ends opens bases → ForwardOf j r ids

-- ---- a set at the end of a table

pub record PlacedPost (set : List ℕ) (first : ℕ) (ids : List ℕ) : Type 0 where
  pub within : first + length set ≡ 500
  pub kept : drop first ids ≡ set

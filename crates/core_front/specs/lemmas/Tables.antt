-- Lemmas. What the functions of this crate hand each other: the sets of a front.
-- Each function is called with sets of some accepted job, and answers for every job that they
-- are sets of.
use Rattle.std.specs.Prelude.{ℕ, zero, suc, ◌*◌, ◌<◌, ◌≤◌, ◌≡◌, Bool, true, List, [], ◌∷◌, ◌⊎◌, length, get_or, take, drop}
use Rattle.theory_basics.specs.Tests.{In}
use Rattle.job.specs.Job.{Accepted, Job, chunks, held_most}
use Rattle.theory_plan.specs.Plan.{after}
use Rattle.theory_most.specs.Statement.{LeastAfter, Set, Settled, after_set, open_of}
use Rattle.core_covering.specs.lemmas.Tables.{ByChunk, CoveredBy, Hopeless, RowOf}
use Rattle.core_front.specs.declared.Measure.{Measure}
use Rattle.core_front.specs.declared.Front.{Front}
use Rattle.core_front.specs.declared.Sets.{Sets}

-- ---- the sets of a front

-- Set a: as many chunks as are counted, from place 500 a on.
abbrev pub set_at : Sets → ℕ → List ℕ
set_at sets a = take (get_or sets.counts a 0) (drop (a * 500) sets.chunks)

-- The first n sets.
abbrev pub front_of : Sets → ℕ → List (List ℕ)
front_of sets zero = []
front_of sets (suc n) = set_at sets n ∷ front_of sets n

pub record Long (sets : Sets) : Type 0 where
  pub sets_long : length sets.chunks ≡ 32500
  pub counts_long : length sets.counts ≡ 65
  pub useds_long : length sets.useds ≡ 65

-- A set of the first i chunks stands in place a, with what it has used.
pub record SetIn (j : Job) (i : ℕ) (sets : Sets) (a : ℕ) : Type 0 where
  pub is_set : Set j i (set_at sets a)
  pub used_is : get_or sets.useds a 0 ≡ (after_set j (set_at sets a)).used
  pub few : get_or sets.counts a 0 ≤ 500

-- The first n places each hold one.
pub record FrontIn (j : Job) (i : ℕ) (sets : Sets) (n : ℕ) : Type 0 where
  pub each : (a : ℕ) → a < n → SetIn j i sets a
  pub long : Long sets

-- ---- copies

pub record CopySetPre (sets : Sets) (a : ℕ) (toSets : Sets) (b : ℕ) : Type 0 where
  pub from_long : Long sets
  pub to_long : Long toSets
  pub from_in : a < 65
  pub to_in : b < 65
  pub few : get_or sets.counts a 0 ≤ 500
  -- What stands before place b fits into its places.
  pub others_few : (c : ℕ) → c < b → get_or toSets.counts c 0 ≤ 500

-- Place b holds what place a of the other front holds, the places before b what they held.
pub record CopySetPost (sets : Sets) (a : ℕ) (toSets : Sets) (b : ℕ) (toSets' : Sets) : Type 0 where
  pub long : Long toSets'
  pub copied : set_at toSets' b ≡ set_at sets a
  pub count_is : get_or toSets'.counts b 0 ≡ get_or sets.counts a 0
  pub used_is : get_or toSets'.useds b 0 ≡ get_or sets.useds a 0
  pub others : (c : ℕ) → c < b → set_at toSets' c ≡ set_at toSets c
  pub other_counts : (c : ℕ) → c < b → get_or toSets'.counts c 0 ≡ get_or toSets.counts c 0
  pub other_useds : (c : ℕ) → c < b → get_or toSets'.useds c 0 ≡ get_or toSets.useds c 0

pub record MoveSetPre (sets : Sets) (a b : ℕ) : Type 0 where
  pub long : Long sets
  pub from_in : a < 65
  pub up : b ≤ a
  pub few : get_or sets.counts a 0 ≤ 500

-- Place b holds what place a held.
pub record Same (sets : Sets) (a : ℕ) (sets' : Sets) (b : ℕ) : Type 0 where
  pub set_is : set_at sets' b ≡ set_at sets a
  pub count_is : get_or sets'.counts b 0 ≡ get_or sets.counts a 0
  pub used_is : get_or sets'.useds b 0 ≡ get_or sets.useds a 0

-- So after a move; the other places, if what they hold fits into them, hold what they held.
pub record MoveSetPost (sets : Sets) (a b : ℕ) (sets' : Sets) : Type 0 where
  pub long : Long sets'
  pub moved : Same sets a sets' b
  pub others : (c : ℕ) → (c < b) ⊎ (b < c) → c < 65 → get_or sets.counts c 0 ≤ 500 → Same sets c sets' c

-- ---- what sets are judged by

-- After chunk i: the measure is the job's.
pub record MeasureOf (j : Job) (i : ℕ) (by : Measure) (opens : List ℕ) : Type 0 where
  pub accepted : Accepted j
  pub inside : i ≤ chunks j
  pub target_in : by.target ≤ chunks j
  pub held_is : by.held ≡ held_most j
  pub held_some : 1 ≤ by.held
  pub all_is : by.all ≡ after j 0
  pub least_is : LeastAfter j i by.smallest
  pub least_small : by.smallest ≤ 16777216
  pub opens_are : ByChunk j (open_of j) opens

-- A front after chunk i, with the set that is being settled in place n.
pub record TrialFor (j : Job) (i : ℕ) (by : Measure) (opens : List ℕ) (sets : Sets) (n : ℕ) : Type 0 where
  pub measure : MeasureOf j i by opens
  pub front : FrontIn j i sets (suc n)
  pub room : n ≤ 64

pub record TrialPre (by : Measure) (opens : List ℕ) (sets : Sets) (n : ℕ) : Type 0 where
  pub job : Job
  pub chunk : ℕ
  pub holds : TrialFor job chunk by opens sets n

-- ---- one set against another

pub record SetCoversFor (j : Job) (i : ℕ) (by : Measure) (opens : List ℕ) (sets : Sets) (a b : ℕ) : Type 0 where
  pub measure : MeasureOf j i by opens
  pub one : SetIn j i sets a
  pub other : SetIn j i sets b

pub record SetCoversPre (by : Measure) (opens : List ℕ) (sets : Sets) (a b : ℕ) : Type 0 where
  pub job : Job
  pub chunk : ℕ
  pub holds : SetCoversFor job chunk by opens sets a b
  pub long : Long sets
  pub one_in : a < 65
  pub other_in : b < 65

abbrev pub SetCoversPost : Measure → List ℕ → Sets → ℕ → ℕ → Bool → Type 0
SetCoversPost by opens sets a b r =
    (j : Job) (i : ℕ) → SetCoversFor j i by opens sets a b → r ≡ true →
    CoveredBy j by.smallest (set_at sets a) (set_at sets b)

-- ---- settling a set

-- One of the first n sets that covers the one in place n.
pub record CoveredIn (j : Job) (by : Measure) (sets : Sets) (n : ℕ) : Type 0 where
  pub place : ℕ
  pub inside : place < n
  pub covered : CoveredBy j by.smallest (set_at sets place) (set_at sets n)

abbrev pub IsCoveredPost : Measure → List ℕ → Sets → ℕ → Bool → Type 0
IsCoveredPost by opens sets n r =
    (j : Job) (i : ℕ) → TrialFor j i by opens sets n → r ≡ true → CoveredIn j by sets n

-- The sets that are left, and the one in place n, which stays: each that is gone is covered by it.
pub record TakenOut (j : Job) (i : ℕ) (by : Measure) (sets : Sets) (n r : ℕ) (sets' : Sets) : Type 0 where
  pub front : FrontIn j i sets' r
  pub trial : SetIn j i sets' n
  pub trial_is : set_at sets' n ≡ set_at sets n
  pub stay_or_covered : (a : ℕ) → a < n → In (set_at sets a) (front_of sets' r) ⊎ CoveredBy j by.smallest (set_at sets n) (set_at sets a)

pub record TakeOutPost (by : Measure) (opens : List ℕ) (sets : Sets) (n r : ℕ) (sets' : Sets) : Type 0 where
  pub each : (j : Job) (i : ℕ) → TrialFor j i by opens sets n → TakenOut j i by sets n r sets'
  pub fewer : r ≤ n

pub record SettleFor (j : Job) (i : ℕ) (by : Measure) (row opens : List ℕ) (sets : Sets) (n : ℕ) : Type 0 where
  pub trial : TrialFor j i by opens sets n
  pub row_is : RowOf j i row

pub record SettlePre (by : Measure) (row opens : List ℕ) (sets : Sets) (n : ℕ) : Type 0 where
  pub job : Job
  pub chunk : ℕ
  pub holds : SettleFor job chunk by row opens sets n

abbrev pub IsHopelessPost : Measure → List ℕ → List ℕ → Sets → ℕ → Bool → Type 0
IsHopelessPost by row opens sets n r =
    (j : Job) (i : ℕ) → SettleFor j i by row opens sets n → r ≡ true → Hopeless j by.target i (set_at sets n)

-- The front afterwards. If it is whole, each set that was there, and the one that was settled, is
-- settled in it.
pub record SettledOf (j : Job) (i : ℕ) (by : Measure) (sets : Sets) (n : ℕ) (r : Front) (sets' : Sets) : Type 0 where
  pub front : FrontIn j i sets' r.sets
  pub settled : r.whole ≡ true → (ks : List ℕ) → In ks (front_of sets (suc n)) → Settled j by.target i (front_of sets' r.sets) ks

pub record SettlePost (by : Measure) (row opens : List ℕ) (sets : Sets) (n : ℕ) (r : Front) (sets' : Sets) : Type 0 where
  pub each : (j : Job) (i : ℕ) → SettleFor j i by row opens sets n → SettledOf j i by sets n r sets'
  pub room : r.sets ≤ 64

-- Lemmas. What the functions of this crate hand each other: two fronts in tables (core_front), the
-- levels of the chunks (core_covering) and the rows of needs (core_bounds). Each function is called
-- with tables of some accepted job, and answers for every job that they are tables of.
use Rattle.std.specs.Prelude.{ℕ, suc, ◌+◌, ◌*◌, ◌<◌, ◌≤◌, ◌≡◌, true, List, [], ◌∷◌, ◌++◌, length, get_or, drop}
use Rattle.theory_basics.specs.Tests.{In}
use Rattle.job.specs.Job.{Accepted, Job, chunks, held_most}
use Rattle.theory_plan.specs.Bases.{base_size}
use Rattle.theory_plan.specs.Plan.{after}
use Rattle.theory_most.specs.Statement.{Next, NoneAboveInOrder, Pass, Set, Settled, after_set, bound, end_of, used_with}
use Rattle.theory_most.specs.lemmas.InTables.{RowsFrom}
use Rattle.core_covering.specs.lemmas.Tables.{LevelsOf, RowOf}
use Rattle.core_front.specs.declared.Front.{Front}
use Rattle.core_front.specs.declared.Measure.{Measure}
use Rattle.core_front.specs.declared.Sets.{Sets}
use Rattle.core_front.specs.lemmas.Tables.{FrontIn, Long, MeasureOf, SetIn, front_of, set_at}
use Rattle.core_passes.specs.declared.Chunk.{Chunk}
use Rattle.core_passes.specs.declared.Film.{Film}
use Rattle.core_passes.specs.declared.Found.{Found}
use Rattle.core_passes.specs.declared.Sought.{Sought}

-- ---- a chunk behind a set

pub record AppendPre (sets : Sets) (b : ℕ) : Type 0 where
  pub long : Long sets
  pub inside : b < 65
  pub few : get_or sets.counts b 0 < 500
  pub others_few : (c : ℕ) → c < b → get_or sets.counts c 0 ≤ 500

pub record AppendPost (number used : ℕ) (sets : Sets) (b : ℕ) (sets' : Sets) : Type 0 where
  pub long : Long sets'
  pub appended : set_at sets' b ≡ set_at sets b ++ (number ∷ [])
  pub count_is : get_or sets'.counts b 0 ≡ get_or sets.counts b 0 + 1
  pub used_is : get_or sets'.useds b 0 ≡ used
  pub others : (c : ℕ) → c < b → set_at sets' c ≡ set_at sets c
  pub other_counts : (c : ℕ) → c < b → get_or sets'.counts c 0 ≡ get_or sets.counts c 0
  pub other_useds : (c : ℕ) → c < b → get_or sets'.useds c 0 ≡ get_or sets.useds c 0

-- ---- a set offered to the next front

-- Set a stands in a front after chunk i, and the next front has n sets so far.
pub record OfferFor (j : Job) (i : ℕ) (by : Measure) (row opens : List ℕ) (sets : Sets) (a : ℕ) (nextSets : Sets) (n : ℕ) : Type 0 where
  pub inside : i < chunks j
  pub measure : MeasureOf j (suc i) by opens
  pub row_is : RowOf j (suc i) row
  pub one : SetIn j i sets a
  pub long : Long sets
  pub place_in : a < 65
  pub next : FrontIn j (suc i) nextSets n
  pub room : n ≤ 64

pub record OfferPre (by : Measure) (row opens : List ℕ) (sets : Sets) (a : ℕ) (nextSets : Sets) (n : ℕ) : Type 0 where
  pub job : Job
  pub chunk : ℕ
  pub holds : OfferFor job chunk by row opens sets a nextSets n

-- A next front, in which, if it is whole, the sets that were there are settled, and so is one more.
pub record Offered (j : Job) (i target : ℕ) (set : List ℕ) (nextSets : Sets) (n : ℕ) (r : Front) (nextSets' : Sets) : Type 0 where
  pub front : FrontIn j (suc i) nextSets' r.sets
  pub still : r.whole ≡ true → (ks : List ℕ) → In ks (front_of nextSets n) → Settled j target (suc i) (front_of nextSets' r.sets) ks
  pub offered : r.whole ≡ true → Settled j target (suc i) (front_of nextSets' r.sets) set

pub record OfferPost (by : Measure) (row opens : List ℕ) (sets : Sets) (a : ℕ) (nextSets : Sets) (n : ℕ) (r : Front) (nextSets' : Sets) : Type 0 where
  pub each :
      (j : Job) (i : ℕ) → OfferFor j i by row opens sets a nextSets n →
      Offered j i by.target (set_at sets a) nextSets n r nextSets'
  pub room : r.sets ≤ 64

-- The next chunk of a job.
pub record ChunkOf (j : Job) (i : ℕ) (chunk : Chunk) : Type 0 where
  pub number_is : chunk.number ≡ suc i
  pub base_is : chunk.base ≡ base_size j (suc i)
  pub end_is : chunk.end ≡ end_of j (suc i)

pub record KeepFor (j : Job) (i : ℕ) (by : Measure) (chunk : Chunk) (row opens : List ℕ) (sets : Sets) (a : ℕ) (nextSets : Sets) (n : ℕ) : Type 0 where
  pub offer : OfferFor j i by row opens sets a nextSets n
  pub chunk_is : ChunkOf j i chunk

pub record KeepPre (by : Measure) (chunk : Chunk) (row opens : List ℕ) (sets : Sets) (a : ℕ) (nextSets : Sets) (n : ℕ) : Type 0 where
  pub job : Job
  pub before : ℕ
  pub holds : KeepFor job before by chunk row opens sets a nextSets n

-- The set with the chunk is settled if the chunk is in time behind it.
pub record Kept (j : Job) (i target : ℕ) (set : List ℕ) (nextSets : Sets) (n : ℕ) (r : Front) (nextSets' : Sets) : Type 0 where
  pub front : FrontIn j (suc i) nextSets' r.sets
  pub still : r.whole ≡ true → (ks : List ℕ) → In ks (front_of nextSets n) → Settled j target (suc i) (front_of nextSets' r.sets) ks
  pub kept :
      r.whole ≡ true → used_with j (after_set j set) (suc i) ≤ end_of j (suc i) →
      Settled j target (suc i) (front_of nextSets' r.sets) (set ++ (suc i ∷ []))

pub record KeepPost (by : Measure) (chunk : Chunk) (row opens : List ℕ) (sets : Sets) (a : ℕ) (nextSets : Sets) (n : ℕ) (r : Front) (nextSets' : Sets) : Type 0 where
  pub each :
      (j : Job) (i : ℕ) → KeepFor j i by chunk row opens sets a nextSets n →
      Kept j i by.target (set_at sets a) nextSets n r nextSets'
  pub room : r.sets ≤ 64

-- ---- the next front

pub record StepFor (j : Job) (i : ℕ) (by : Measure) (chunk : Chunk) (row opens : List ℕ) (sets : Sets) (n : ℕ) : Type 0 where
  pub inside : i < chunks j
  pub measure : MeasureOf j (suc i) by opens
  pub row_is : RowOf j (suc i) row
  pub chunk_is : ChunkOf j i chunk
  pub front : FrontIn j i sets n
  pub room : n ≤ 64

pub record StepPre (by : Measure) (chunk : Chunk) (row opens : List ℕ) (sets : Sets) (n : ℕ) (nextSets : Sets) : Type 0 where
  pub job : Job
  pub before : ℕ
  pub holds : StepFor job before by chunk row opens sets n
  pub long : Long nextSets

pub record Stepped (j : Job) (i target : ℕ) (sets : Sets) (n : ℕ) (r : Front) (nextSets' : Sets) : Type 0 where
  pub front : FrontIn j (suc i) nextSets' r.sets
  pub next : r.whole ≡ true → Next j target i (front_of sets n) (front_of nextSets' r.sets)

pub record StepPost (by : Measure) (chunk : Chunk) (row opens : List ℕ) (sets : Sets) (n : ℕ) (r : Front) (nextSets' : Sets) : Type 0 where
  pub each :
      (j : Job) (i : ℕ) → StepFor j i by chunk row opens sets n →
      Stepped j i by.target sets n r nextSets'
  pub room : r.sets ≤ 64

pub record CopyFrontPre (sets : Sets) (n : ℕ) (toSets : Sets) : Type 0 where
  pub long : Long sets
  pub to_long : Long toSets
  pub few : (a : ℕ) → a < n → get_or sets.counts a 0 ≤ 500
  pub room : n ≤ 64

pub record CopyFrontPost (sets : Sets) (n : ℕ) (toSets' : Sets) : Type 0 where
  pub long : Long toSets'
  pub same : (a : ℕ) → a < n → set_at toSets' a ≡ set_at sets a
  pub same_counts : (a : ℕ) → a < n → get_or toSets'.counts a 0 ≡ get_or sets.counts a 0
  pub same_useds : (a : ℕ) → a < n → get_or toSets'.useds a 0 ≡ get_or sets.useds a 0

-- ---- a turn: the next front, in the place of the front

-- The film is a job's, with its levels and rows of needs.
pub record FilmOf (j : Job) (film : Film) (ends opens bases smallest work : List ℕ) : Type 0 where
  pub accepted : Accepted j
  pub count_is : film.count ≡ chunks j
  pub held_is : film.held ≡ held_most j
  pub held_some : 1 ≤ film.held
  pub all_is : film.all ≡ after j 0
  pub levels : LevelsOf j ends opens bases smallest
  pub rows : RowsFrom j 0 work
  pub long : (chunks j + 1) * 501 ≤ length work

-- A front after chunk i.
pub record TurnFor (j : Job) (film : Film) (target i : ℕ) (ends opens bases smallest work : List ℕ) (sets : Sets) (n : ℕ) : Type 0 where
  pub film_is : FilmOf j film ends opens bases smallest work
  pub target_in : target ≤ chunks j
  pub inside : i < chunks j
  pub front : FrontIn j i sets n
  pub room : n ≤ 64

pub record TurnPre (film : Film) (target i : ℕ) (ends opens bases smallest work : List ℕ) (sets : Sets) (n : ℕ) (nextSets : Sets) : Type 0 where
  pub job : Job
  pub holds : TurnFor job film target i ends opens bases smallest work sets n
  pub next_long : Long nextSets

pub record TurnPost (film : Film) (target i : ℕ) (ends opens bases smallest work : List ℕ) (sets : Sets) (n : ℕ) (r : Front) (sets' nextSets' : Sets) : Type 0 where
  pub each :
      (j : Job) → TurnFor j film target i ends opens bases smallest work sets n →
      Stepped j i target sets n r sets'
  pub room : r.sets ≤ 64
  pub next_long : Long nextSets'

-- ---- a pass

pub record PassPre (film : Film) (target : ℕ) (ends opens bases smallest work : List ℕ) (sets nextSets : Sets) : Type 0 where
  pub job : Job
  pub film_is : FilmOf job film ends opens bases smallest work
  pub target_in : target ≤ film.count
  pub long : Long sets
  pub next_long : Long nextSets

-- The sets at the end, and, if none was dropped, that they are what a pass ends with.
pub record Passed (j : Job) (target : ℕ) (r : Front) (sets' : Sets) : Type 0 where
  pub front : FrontIn j (chunks j) sets' r.sets
  pub pass : r.whole ≡ true → Pass j target (chunks j) (front_of sets' r.sets)

pub record PassPost (film : Film) (target : ℕ) (ends opens bases smallest work : List ℕ) (r : Front) (sets' nextSets' : Sets) : Type 0 where
  pub each : (j : Job) → FilmOf j film ends opens bases smallest work → target ≤ chunks j → Passed j target r sets'
  pub room : r.sets ≤ 64
  pub long : Long sets'
  pub next_long : Long nextSets'

pub record LargestPost (counts : List ℕ) (n r : ℕ) : Type 0 where
  pub inside : r ≤ 64
  pub one : 0 < n → r < n
  pub most : (a : ℕ) → a < n → get_or counts a 0 ≤ get_or counts r 0

-- ---- the search

-- The bound in playing order, and room for two fronts.
pub record LookPre (film : Film) (most : ℕ) (ends opens bases smallest work : List ℕ) (sets nextSets : Sets) : Type 0 where
  pub job : Job
  pub film_is : FilmOf job film ends opens bases smallest work
  pub bound_is : most ≡ bound job
  pub long : Long sets
  pub next_long : Long nextSets

-- A bound that is no higher; where the set found has more than `has` chunks, it is one of the job.
pub record LookedOf (j : Job) (has : ℕ) (r : Found) (sets' : Sets) : Type 0 where
  pub none_above : NoneAboveInOrder j r.bound
  pub no_higher : r.bound ≤ bound j
  pub set_in : has < r.count → Set j (chunks j) (set_at sets' r.place)

pub record LookPost (film : Film) (most has : ℕ) (ends opens bases smallest work : List ℕ) (r : Found) (sets' : Sets) : Type 0 where
  pub each : (j : Job) → FilmOf j film ends opens bases smallest work → most ≡ bound j → LookedOf j has r sets'
  pub long : Long sets'
  pub place_in : r.place < 65
  pub few : r.count ≤ 500
  pub count_is : has < r.count → r.count ≡ get_or sets'.counts r.place 0

pub record SeekFor (j : Job) (film : Film) (most : ℕ) (ends opens bases smallest work : List ℕ) (first : ℕ) (ids : List ℕ) : Type 0 where
  pub film_is : FilmOf j film ends opens bases smallest work
  pub bound_is : most ≡ bound j
  pub set_in : Set j (chunks j) (drop first ids)

pub record SeekPre (film : Film) (most : ℕ) (ends opens bases smallest work : List ℕ) (first : ℕ) (ids : List ℕ) : Type 0 where
  pub job : Job
  pub holds : SeekFor job film most ends opens bases smallest work first ids
  pub within : first ≤ 500

-- A set no smaller, and a bound that is no higher.
pub record SoughtOf (j : Job) (first : ℕ) (r : Sought) (ids' : List ℕ) : Type 0 where
  pub set_in : Set j (chunks j) (drop r.first ids')
  pub no_fewer : r.first ≤ first
  pub none_above : NoneAboveInOrder j r.bound
  pub no_higher : r.bound ≤ bound j

pub record SeekPost (film : Film) (most : ℕ) (ends opens bases smallest work : List ℕ) (first : ℕ) (ids : List ℕ) (r : Sought) (ids' : List ℕ) : Type 0 where
  pub each : (j : Job) → SeekFor j film most ends opens bases smallest work first ids → SoughtOf j first r ids'
  pub within : r.first ≤ 500
  pub long : length ids' ≡ 500

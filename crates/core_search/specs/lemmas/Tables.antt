-- Lemmas. What the functions of this crate hand each other: tables of 500 places, and the search of
-- crate theory_search over what they hold.
use Rattle.std.specs.Prelude.{ℕ, ◌+◌, ◌-◌, ◌/◌, ◌≤◌, ◌<◌, ◌≡◌, Bool, List, length, get_or, set, drop, ltb}
use Rattle.job.specs.declared.Programme.{Programme}
use Rattle.job.specs.Job.{due_slot, last_due}
use Rattle.theory_plan.specs.Bases.{Asc}
use Rattle.theory_plan.specs.lemmas.Parts.{at}
use Rattle.theory_plan.specs.lemmas.Trials.{Stack, candidate, keeps}
use Rattle.core_moore_hodgson.specs.lemmas.Tables.{KeptIn, Long}
use Rattle.core_decide.specs.lemmas.Decision.{Sums}
use Rattle.theory_search.specs.Search.{Walked, better, start}
use Rattle.theory_search.specs.lemmas.Stack.{empty, search_stack}
use Rattle.core_search.specs.declared.Outcome.{Outcome}

-- ---- tables

-- A table read as a function of the chunk number: chunk 1 has place 0.
abbrev pub of : List ℕ → ℕ → ℕ
of l i = get_or l (i - 1) 0

-- The base's bytes of a chunk.
abbrev pub base_of : (ℕ → ℕ → ℕ) → ℕ → ℕ
base_of size k = size k 0

-- The kept chunks with their needs, from place first on.
abbrev pub stack_at : ℕ → List ℕ → List ℕ → Stack
stack_at first ids needs = record { needs = drop first needs; chunks = drop first ids }

-- The best set: as many chunks as are counted, at the end of its table.
abbrev pub best_at : ℕ → List ℕ → List ℕ
best_at count best = drop (500 - count) best

-- Where the walk stands. left is one more than the steps of the budget not yet taken, and 0 once a
-- step was wanted beyond them.
abbrev pub walked : ℕ → ℕ → List ℕ → Walked
walked left count best = record { left = left - 1; best = best_at count best; ended = ltb 0 left }

-- ---- a set is met

pub record KeepBestPost (k : ℕ) (ids best : List ℕ) (count : ℕ) (best' : List ℕ) (count' : ℕ) : Type 0 where
  pub is : best_at count' best' ≡ better (best_at count best) (drop k ids)
  pub more : count ≤ count'
  pub few : count' ≤ 500
  pub long : length best' ≡ 500

-- ---- the test

-- What can be: sizes, due slots of the chunks up to i, and sums of a forecast.
pub record Given (i held : ℕ) (size : ℕ → ℕ → ℕ) (dues after : List ℕ) : Type 0 where
  pub most_held : held ≤ 65535
  pub few : i ≤ 500
  pub small : (k n : ℕ) → size k n ≤ 16777216
  pub early : (k : ℕ) → k < i → 1 ≤ get_or dues k 0
  pub late : (k : ℕ) → k < i → get_or dues k 0 ≤ 3600
  pub sums : Sums after
  pub long : (length dues ≡ 500) × (length after ≡ 3601)

pub record CanKeepPre (i first held : ℕ) (size : ℕ → ℕ → ℕ) (dues after needs : List ℕ) : Type 0 where
  pub given : Given i held size dues after
  pub some : 1 ≤ i
  pub room : i ≤ first
  pub within : first ≤ 500
  pub top : get_or needs first 0 ≤ get_or after 0 0
  pub long : length needs ≡ 500

pub record CanKeepPost (i first held : ℕ) (size : ℕ → ℕ → ℕ) (dues after needs needs' : List ℕ) (r : Bool) : Type 0 where
  pub is : r ≡ keeps (base_of size) (of dues) (at after) held (drop first needs) i
  pub wrote : needs' ≡ set needs (first - 1) (candidate (base_of size) (of dues) (at after) (drop first needs) i)

-- ---- the search

pub record SearchPre (i first held : ℕ) (size : ℕ → ℕ → ℕ) (dues after ids needs best : List ℕ) (count : ℕ) : Type 0 where
  pub given : Given i held size dues after
  pub room : i ≤ first
  pub within : first ≤ 500
  pub top : get_or needs first 0 ≤ get_or after 0 0
  pub few : count ≤ 500
  pub long : (length ids ≡ 500) × (length needs ≡ 500) × (length best ≡ 500)

pub record SearchPost (i first held : ℕ) (size : ℕ → ℕ → ℕ) (dues after ids needs best : List ℕ) (count left : ℕ) (ids' needs' best' : List ℕ) (count' left' : ℕ) : Type 0 where
  -- Where the walk stands is where the search of crate theory_search leads.
  pub is : walked left' count' best' ≡ search_stack (base_of size) (of dues) (at after) held i (stack_at first ids needs) (walked left count best)
  -- The kept chunks and their needs are as they were.
  pub same_ids : drop first ids' ≡ drop first ids
  pub same_needs : drop first needs' ≡ drop first needs
  pub less : left' ≤ left
  pub more : count ≤ count'
  pub few : count' ≤ 500
  pub long : (length ids' ≡ 500) × (length needs' ≡ 500) × (length best' ≡ 500)

-- ---- due slots and bytes of chunks

-- The due slots of the chunks 1 to n stand at the front of a table.
pub record DueTable (p : Programme) (n : ℕ) (dues : List ℕ) : Type 0 where
  pub is : (k : ℕ) → k < n → get_or dues k 0 ≡ due_slot p (k + 1)
  pub long : length dues ≡ 500

pub record PlaceBestPre (p : Programme) (first : ℕ) (ids dues bytes : List ℕ) : Type 0 where
  pub few : p.chunks ≤ 500
  pub ends : last_due p ≤ 3600
  pub within : first ≤ 500
  pub ascending : Asc 1 p.chunks (drop first ids)
  pub long : Long ids dues bytes

-- ---- the whole

pub record FindBestPre (p : Programme) (size : ℕ → ℕ → ℕ) (after ids dues bytes : List ℕ) : Type 0 where
  pub few : p.chunks ≤ 500
  pub late : 1 ≤ p.delay
  pub ends : last_due p ≤ 3600
  pub small : (i n : ℕ) → size i n ≤ 16777216
  pub sums : Sums after
  pub slots : length after ≡ 3601
  pub long : Long ids dues bytes

-- Where the walk over the programme's chunks stands when it ends or is cut; A t: what is forecast
-- after slot t.
abbrev pub walk_in : Programme → (ℕ → ℕ → ℕ) → (ℕ → ℕ) → ℕ → Walked
walk_in p size A budget = search_stack (base_of size) (due_slot p) A (p.limit / p.span) p.chunks empty (start budget)

-- The best set stands at the end of the tables, from place first on.
pub record FindBestPost (p : Programme) (size : ℕ → ℕ → ℕ) (after : List ℕ) (budget : ℕ) (r : Outcome) (ids dues bytes : List ℕ) : Type 0 where
  pub kept : KeptIn p size (walk_in p size (at after) budget).best r.first ids dues bytes
  pub steps : r.steps ≡ budget - (walk_in p size (at after) budget).left
  pub ended : r.ended ≡ (walk_in p size (at after) budget).ended

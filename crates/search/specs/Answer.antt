-- Meaning. What the search within a budget hands over: document 02, request 13, "The result is the
-- best set met .., the steps .. actually taken, whether the walk ended .., and a shortfall", with
-- the plan over that set, or a refusal's number. The walk, the plan over a set and what is claimed
-- of both are stated in theory_search: Statement; they are computed in theory_search: Search.
use Rattle.std.specs.Prelude.{ℕ, ◌*◌, ◌-◌, ◌≤◌, ◌≡◌, Bool, List, map, length, get_or, Result}
use Rattle.theory_basics.specs.Lent.{lent_after}
use Rattle.theory_basics.specs.Lists.{has}
use Rattle.theory_basics.specs.Refusals.{unless, ◌or_else◌}
use Rattle.job.specs.Job.{EqualChunks, Job, chunks}
use Rattle.job.specs.Input.{JobInput, job_in, job_refusal}
use Rattle.fetch.specs.Marks.{bit}
use Rattle.fetch.specs.Rows.{Row, row_slot, row_chunk, row_layer, row_bytes}
use Rattle.fetch.specs.Slices.{ListSlices, room}
use Rattle.theory_plan.specs.Own.{own_list}
use Rattle.theory_plan.specs.Statement.{Same, SettledByTrials, count_of, counts_of, marks_of}
use Rattle.refusals.specs.declared.Refusal.{Refusal}
use Rattle.refusals.specs.Numbers.{answered, by_number}
use Rattle.theory_search.specs.Statement.{Found, GoodEnough, IsFound, IsPlanOver}
use Rattle.theory_search.specs.Search.{found, plan_over}
use Rattle.search.specs.declared.Searched.{Searched}

-- ---- the plan that is handed over

-- "The upper layers, rows and counts then follow document 01's way, and that plan is handed over
-- too."
abbrev pub plan_found : Job → ℕ → ℕ → ℕ
plan_found j budget = plan_over j (found j budget).kept

abbrev pub rows_found : Job → ℕ → List Row
rows_found j budget = own_list j (plan_found j budget)

-- ---- the refusals

-- 11: "A lent buffer is shorter than the whole result".
abbrev pub holds_found : Job → ℕ → ListSlices → Bool
holds_found j budget lent = room lent (chunks j) (length (rows_found j budget))

-- 5, 6, 18, 7, then 11; 0 for none.
abbrev pub search_refusal : JobInput → ℕ → ListSlices → ℕ
search_refusal h budget l = job_refusal h or_else unless 11 (holds_found (job_in h) budget l)

-- ---- what is handed over

-- How many rows "that plan" has, and its counts, in "document 01's way"; "the steps of that fixed
-- walk actually taken, whether the walk ended (also yes if its last step spends the budget), and a
-- shortfall."
abbrev pub search_numbers : Job → ℕ → Searched
search_numbers j budget =
    record {
      rows = length (rows_found j budget);
      counts = counts_of j (plan_found j budget);
      steps = (found j budget).steps;
      ended = (found j budget).ended;
      shortfall = (found j budget).shortfall;
    }

-- A lent slice at exit: the result, then the old contents; on a refusal the old contents alone.
abbrev pub slice_after : JobInput → ℕ → ListSlices → List ℕ → List ℕ → List ℕ
slice_after h budget l result old = lent_after (search_refusal h budget l) result old

-- What is answered, and what stands in the lent slices.
pub record SearchOutput (h : JobInput) (budget : ℕ) (lent : ListSlices) (r : Result Searched Refusal) (lent' : ListSlices) : Type 0 where
  -- What is said of the set found and the plan over it, or a refusal's number alone.
  pub answer : by_number r ≡ answered (search_refusal h budget lent) (search_numbers (job_in h) budget)
  -- "The best set met, that of most chunks, first met among equals", as bit 0 of the marks, and the
  -- plan's upper layers above it.
  pub marks_are : lent'.marks ≡ slice_after h budget lent (marks_of (job_in h) (plan_found (job_in h) budget)) lent.marks
  -- The plan's rows, a slice for each of their four numbers.
  pub slots_are : lent'.slots ≡ slice_after h budget lent (map row_slot (rows_found (job_in h) budget)) lent.slots
  pub chunks_are : lent'.chunks ≡ slice_after h budget lent (map row_chunk (rows_found (job_in h) budget)) lent.chunks
  pub layers_are : lent'.layers ≡ slice_after h budget lent (map row_layer (rows_found (job_in h) budget)) lent.layers
  pub bytes_are : lent'.bytes ≡ slice_after h budget lent (map row_bytes (rows_found (job_in h) budget)) lent.bytes

-- ---- what holds of it

-- What is found, and the plan over it.
pub record Walks (j : Job) (budget : ℕ) : Type 0 where
  -- It is what the walk cut at the budget says: set, steps, whether it ended, shortfall;
  pub is_found : IsFound j budget (found j budget)
  -- and nothing else is.
  pub only_found : (other : Found) → IsFound j budget other → other ≡ found j budget
  -- "The upper layers, rows and counts then follow document 01's way": a plan over the set found;
  pub is_over : IsPlanOver j (found j budget).kept (plan_found j budget)
  -- and there is no other.
  pub only_over : (other : ℕ → ℕ) → IsPlanOver j (found j budget).kept other → Same j other (plan_found j budget)
  -- The set found stands in bit 0 of the marks, chunk by chunk.
  pub in_marks : (i : ℕ) → 1 ≤ i → i ≤ chunks j → bit (get_or (marks_of j (plan_found j budget)) (i - 1) 0) 0 ≡ has (found j budget).kept i

abbrev pub FoundByWalk : JobInput → ℕ → Type 0
FoundByWalk h budget = job_refusal h ≡ 0 → Walks (job_in h) budget

-- The plan passes and is in playing order, and none is better by more than the shortfall.
abbrev pub GoodEnoughFound : JobInput → ℕ → Type 0
GoodEnoughFound h budget =
    job_refusal h ≡ 0 → GoodEnough (job_in h) budget (found (job_in h) budget) (plan_found (job_in h) budget) (rows_found (job_in h) budget)

-- What more steps bring.
pub record Steps (j : Job) (budget : ℕ) : Type 0 where
  -- "A larger budget never finds fewer."
  pub larger : (more : ℕ) → budget ≤ more → length (found j budget).kept ≤ length (found j more).kept
  -- With two steps a chunk at least as many bases are found as document 01's way carries,
  pub two_a_chunk : 2 * chunks j ≤ budget → (p : ℕ → ℕ) → SettledByTrials j p → count_of j p 0 ≤ length (found j budget).kept
  -- and for equal chunks its own plan is handed over. (The papers do not ask for these two.)
  pub equal_chunks : EqualChunks j → 2 * chunks j ≤ budget → (p : ℕ → ℕ) → SettledByTrials j p → Same j p (plan_found j budget)

abbrev pub MoreSteps : JobInput → ℕ → Type 0
MoreSteps h budget = job_refusal h ≡ 0 → Steps (job_in h) budget

-- The promise of `search`.
pub record SearchPromise (h : JobInput) (budget : ℕ) (lent : ListSlices) (r : Result Searched Refusal) (lent' : ListSlices) : Type 0 where
  -- "The result is the best set met .., the steps .. actually taken, whether the walk ended .., and
  -- a shortfall", with the plan over that set, or the refusal's number; every lent byte, on a
  -- refusal too.
  pub output : SearchOutput h budget lent r lent'
  -- The set is the walk's, cut at the budget, and the plan the one over it.
  pub found : FoundByWalk h budget
  -- It passes and is in playing order, and none is better by more than the shortfall.
  pub enough : GoodEnoughFound h budget
  -- "A larger budget never finds fewer."
  pub more_steps : MoreSteps h budget

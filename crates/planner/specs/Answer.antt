-- Meaning. What the planner's public calls hand over: the plan of a job as document 01 decides and
-- lists it, or a refusal's number. The plan itself, its marks, counts and own list, and demand 3,
-- are stated in theory_plan: Statement, Own.
use Rattle.std.specs.Prelude.{ℕ, ◌≤◌, ◌<◌, ◌≡◌, Bool, cond, List, [], ◌∷◌, map, length, ltb, Result}
use Rattle.theory_basics.specs.Refusals.{unless, ◌or_else◌}
use Rattle.job.specs.Job.{EqualBases, EqualChunks, HoldsAll, Job, chunks, layers}
use Rattle.job.specs.Input.{JobInput, job_in, job_refusal}
use Rattle.fetch.specs.Rows.{Row, layer_count, row_slot, row_chunk, row_layer, row_bytes}
use Rattle.fetch.specs.Rules.{Keeps, PlayingOrder}
use Rattle.fetch.specs.Slices.{ListSlices, room}
use Rattle.theory_plan.specs.Own.{Ascending, own_list}
use Rattle.theory_plan.specs.Plan.{plan}
use Rattle.theory_plan.specs.Statement.{BasesMooreHodgson, Best, IsPlan, MostPictures, Same as SameChoice, SettledByTrials, count_of, counts_of, marks_of}
use Rattle.theory_sensitivity.specs.Statement.{Steady}
use Rattle.refusals.specs.declared.Refusal.{Refusal}
use Rattle.refusals.specs.Numbers.{answered, by_number}
use Rattle.std.specs.declared.cmp.Ordering.{Ordering}
use Rattle.std.specs.declared.cmp.Ordering.TheVariants.{Less, Equal, Greater}
use Rattle.planner.specs.declared.Planned.{Planned}
use Rattle.theory_basics.specs.Lent.{lent_after}

-- The plan's own list.
abbrev pub plan_rows : Job → List Row
plan_rows j = own_list j (plan j)

-- 11: "A lent buffer is shorter than the whole result": the marks have one byte a chunk, the rows
-- are the plan's own.
abbrev pub holds : Job → ListSlices → Bool
holds j lent = room lent (chunks j) (length (plan_rows j))

-- 5, 6, 18, 7, then 11; 0 for none.
abbrev pub plan_refusal : JobInput → ListSlices → ℕ
plan_refusal h l = job_refusal h or_else unless 11 (holds (job_in h) l)

-- How many rows, and the four counts: "The four layer counts say how many chunks carry each layer,
-- 0 for absent layers."
abbrev pub plan_numbers : Job → Planned
plan_numbers j = record { rows = length (plan_rows j); counts = counts_of j (plan j) }

-- A lent slice at exit: the result, then the old contents; on a refusal the old contents alone.
abbrev pub slice_after : JobInput → ListSlices → List ℕ → List ℕ → List ℕ
slice_after h l result old = lent_after (plan_refusal h l) result old

-- What a call of the planner hands over, and what it leaves in the lent slices.
pub record PlanOutput (h : JobInput) (lent : ListSlices) (r : Result Planned Refusal) (lent' : ListSlices) : Type 0 where
  -- "The marks, rows and counts that the planner, lent enough room, hands over for the job alone",
  -- or a refusal's number alone.
  pub answer : by_number r ≡ answered (plan_refusal h lent) (plan_numbers (job_in h))
  -- The marks; in the lent slices "the bytes past the result stay unchanged", on a refusal all of
  -- them.
  pub marks_are : lent'.marks ≡ slice_after h lent (marks_of (job_in h) (plan (job_in h))) lent.marks
  -- The rows, a slice for each of their numbers: "the planner hands them by slot, chunk, layer."
  pub slots_are : lent'.slots ≡ slice_after h lent (map row_slot (plan_rows (job_in h))) lent.slots
  pub chunks_are : lent'.chunks ≡ slice_after h lent (map row_chunk (plan_rows (job_in h))) lent.chunks
  pub layers_are : lent'.layers ≡ slice_after h lent (map row_layer (plan_rows (job_in h))) lent.layers
  pub bytes_are : lent'.bytes ≡ slice_after h lent (map row_bytes (plan_rows (job_in h))) lent.bytes

-- ---- what holds of the plan of an accepted job

-- "The plan's own list with its marks then passes the checker, is in playing order, and carries
-- each layer for exactly as many chunks as the plan's count for it says": of uneven film too.
pub record OwnListCarries (j : Job) (choice : ℕ → ℕ) : Type 0 where
  pub passes : Keeps j (marks_of j choice) (own_list j choice)
  pub in_order : PlayingOrder j (own_list j choice)
  pub counted : (n : ℕ) → n < layers j → layer_count j (own_list j choice) n ≡ count_of j choice n
  -- "One row per slot, chunk and layer", and "the planner hands them by slot, chunk, layer".
  pub ascending : Ascending (own_list j choice)
  -- "It has at most 5,599 rows."
  pub few_rows : length (own_list j choice) ≤ 5599

-- Document 02, request 9, "Most pictures from uneven film".
pub record Pictures (j : Job) (choice : ℕ → ℕ) : Type 0 where
  -- Where H is at least C "no passing list, in any order, then carries more bases."
  pub most : MostPictures j choice
  -- "For equal sizes the marks are those of document 01": every layer is settled in its way, the
  -- base too. `IsPlan` says as much;
  pub equal_bases : EqualBases j → SettledByTrials j choice
  -- "and that too is to be shown": where H is at least C the bases are those that request 9 keeps,
  -- for equal sizes too, where it is document 01 that settles them. So the two ways agree there.
  pub either_way : HoldsAll j → BasesMooreHodgson j choice

-- The promise of `plan`: for every input, what is handed over (`output`); and for every accepted
-- job what document 01 and requests 9 and 10 say of it.
pub record PlanPromise (h : JobInput) (lent : ListSlices) (r : Result Planned Refusal) (lent' : ListSlices) : Type 0 where
  -- The plan's marks, rows and counts, or the refusal's number; every lent byte, on a refusal too.
  pub output : PlanOutput h lent r lent'
  -- "The plan carries a layer of a chunk if and only if, beside the layers already settled, some
  -- fetch list in playing order still keeps them all"; for bases that request 9 settles, `IsPlan`
  -- has the Moore-Hodgson algorithm instead.
  pub decided : job_refusal h ≡ 0 → IsPlan (job_in h) (plan (job_in h))
  -- There is no other plan.
  pub only : job_refusal h ≡ 0 → (other : ℕ → ℕ) → IsPlan (job_in h) other → SameChoice (job_in h) other (plan (job_in h))
  -- The plan's own list, of uneven film too.
  pub carried : job_refusal h ≡ 0 → OwnListCarries (job_in h) (plan (job_in h))
  -- Request 9.
  pub pictures : job_refusal h ≡ 0 → Pictures (job_in h) (plan (job_in h))
  -- Demand 3: "Take any accepted job of equal chunks, whatever its layer sizes, forecast, deadlines
  -- and buffer limit."
  pub best : job_refusal h ≡ 0 → EqualChunks (job_in h) → Best (job_in h) (plan (job_in h)) (plan_rows (job_in h))
  -- Request 10: this job against every other accepted one that differs in one slot.
  pub steady : job_refusal h ≡ 0 → EqualChunks (job_in h) → Steady (job_in h) (λ k. counts_of k (plan k))

-- Counts "compared entry by entry from the base": at the first entry where they differ.
abbrev pub compared : List ℕ → List ℕ → Ordering
compared [] bs = Equal
compared (a ∷ as') [] = Equal
compared (a ∷ as') (b ∷ bs) = cond (ltb a b) Less (cond (ltb b a) Greater (compared as' bs))

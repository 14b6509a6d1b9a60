-- Meaning. What the call for most pictures returns: a set of bases, the plan over it, and two
-- bounds, or a refusal's number. Which set is found is free; what holds of it, of the plan over it
-- and of the bounds is stated in theory_most: Statement (`Most`, `Shown`). A refusal is settled by
-- the job and the lengths of the slices, before anything is written.
use Rattle.std.specs.Prelude.{ℕ, ◌+◌, ◌*◌, ◌≡◌, Bool, false, ◌&&◌, List, map, length, eqb, leb, Result}
use Rattle.theory_basics.specs.Lent.{lent_after}
use Rattle.theory_basics.specs.Refusals.{unless, ◌or_else◌}
use Rattle.job.specs.Job.{Job, chunks}
use Rattle.job.specs.Input.{JobInput, job_in, job_refusal}
use Rattle.fetch.specs.Rows.{Row, row_slot, row_chunk, row_layer, row_bytes}
use Rattle.fetch.specs.Slices.{ListSlices}
use Rattle.theory_plan.specs.Own.{own_list}
use Rattle.theory_plan.specs.Statement.{Same, counts_of, marks_of}
use Rattle.refusals.specs.declared.Refusal.{Refusal}
use Rattle.refusals.specs.Numbers.{answered, by_number}
use Rattle.theory_search.specs.Statement.{IsPlanOver}
use Rattle.theory_search.specs.Search.{plan_over}
use Rattle.theory_most.specs.Statement.{Most, Shown, bound_any}
use Rattle.most.specs.declared.MostPlan.{MostPlan}

-- ---- the refusals

-- 11: "A lent buffer is shorter than the whole result". Which plan is found is free, so there must
-- be room for any plan of the job: a mark for each chunk and 5,599 rows; and in the work slice 501
-- numbers for each of C + 1 rows of needs.
abbrev pub has_room : (count work marks slots cs layers bytes : ℕ) → Bool
has_room count work marks slots cs layers bytes =
    leb ((count + 1) * 501) work
    && (leb count marks && (leb 5599 slots && (leb 5599 cs && (leb 5599 layers && leb 5599 bytes))))

abbrev pub lent_room : Job → ListSlices → List ℕ → Bool
lent_room j lent work =
    has_room (chunks j) (length work) (length lent.marks) (length lent.slots) (length lent.chunks) (length lent.layers) (length lent.bytes)

-- 5, 6, 18, 7, then 11; 0 for none.
abbrev pub most_refusal : JobInput → ListSlices → List ℕ → ℕ
most_refusal h lent work = job_refusal h or_else unless 11 (lent_room (job_in h) lent work)

-- Where nothing is refused.
abbrev pub given : JobInput → ListSlices → List ℕ → Bool
given h lent work = eqb (most_refusal h lent work) 0

-- ---- what is returned

-- The plan over a set of bases, and its rows.
abbrev pub rows_over : Job → List ℕ → List Row
rows_over j set = own_list j (plan_over j set)

-- How many rows the plan over a set of bases has, how many chunks carry each layer, the bounds, and
-- whether the set has as many bases as the bound in playing order.
abbrev pub most_numbers : Job → List ℕ → ℕ → MostPlan
most_numbers j set bound =
    record {
      rows = length (rows_over j set);
      counts = counts_of j (plan_over j set);
      bound = bound;
      bound_any = bound_any j;
      exact = eqb (length set) bound;
    }

-- A caller's slice at exit: the result, then the old contents; on a refusal the old contents alone.
abbrev pub slice_after : JobInput → ListSlices → List ℕ → List ℕ → List ℕ → List ℕ
slice_after h lent work result old = lent_after (most_refusal h lent work) result old

-- For a set of bases and a bound in playing order.
pub record MostOutput (h : JobInput) (set : List ℕ) (bound : ℕ) (lent : ListSlices) (work : List ℕ) (r : Result MostPlan Refusal) (lent' : ListSlices) (work' : List ℕ) : Type 0 where
  -- What is said of the plan over the set and the bounds, or a refusal's number alone.
  pub answer : by_number r ≡ answered (most_refusal h lent work) (most_numbers (job_in h) set bound)
  -- The plan's marks and rows, a slice for each of their four numbers.
  pub marks_are : lent'.marks ≡ slice_after h lent work (marks_of (job_in h) (plan_over (job_in h) set)) lent.marks
  pub slots_are : lent'.slots ≡ slice_after h lent work (map row_slot (rows_over (job_in h) set)) lent.slots
  pub chunks_are : lent'.chunks ≡ slice_after h lent work (map row_chunk (rows_over (job_in h) set)) lent.chunks
  pub layers_are : lent'.layers ≡ slice_after h lent work (map row_layer (rows_over (job_in h) set)) lent.layers
  pub bytes_are : lent'.bytes ≡ slice_after h lent work (map row_bytes (rows_over (job_in h) set)) lent.bytes
  -- The work slice keeps its length, and on a refusal every number.
  pub work_long : length work' ≡ length work
  pub work_kept : (given h lent work ≡ false) → work' ≡ work

-- ---- what holds of it

-- Of an accepted job, the set found and the bound.
pub record Finds (j : Job) (set : List ℕ) (bound : ℕ) : Type 0 where
  -- Some passing list in playing order carries exactly these bases, they are no fewer than the
  -- plan's, and none carries more than the bound.
  pub most : Most j set bound
  -- "The upper layers, rows and counts then follow document 01's way": the plan over the set, and
  -- there is no other.
  pub is_over : IsPlanOver j set (plan_over j set)
  pub only_over : (other : ℕ → ℕ) → IsPlanOver j set other → Same j other (plan_over j set)
  -- The plan passes, is in playing order and carries each layer as often as its counts say; no
  -- list in playing order shows more pictures than the bound, none at all more than the bound in
  -- any order; where bases have one size, or the limit holds the programme, it shows as many.
  pub shown : Shown j bound (bound_any j) (plan_over j set) (rows_over j set)

-- The promise of `most_pictures`.
pub record MostPromise (h : JobInput) (lent : ListSlices) (work : List ℕ) (r : Result MostPlan Refusal) (lent' : ListSlices) (work' : List ℕ) : Type 0 where
  -- A set of bases and a bound,
  pub set : List ℕ
  pub bound : ℕ
  -- which the result and the slices say,
  pub output : MostOutput h set bound lent work r lent' work'
  -- and of which this holds.
  pub finds : job_refusal h ≡ 0 → Finds (job_in h) set bound

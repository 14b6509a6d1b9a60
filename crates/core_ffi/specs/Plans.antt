-- Meaning. The calls that hand over a plan to callers in C or Rust: beside the marks and rows of
-- the library's own calls they are lent four numbers for the counts; the answer is the number of
-- rows.
use Rattle.std.specs.Prelude.{ℕ, ◌≡◌, cond, ◌&&◌, List, [], ◌∷◌, map, length, get_or, eqb, leb}
use Rattle.theory_basics.specs.Lent.{lent_after}
use Rattle.theory_basics.specs.Lists.{up_to}
use Rattle.theory_basics.specs.Refusals.{◌or_else◌, unless}
use Rattle.fetch.specs.Rows.{Row, row_bytes, row_chunk, row_layer, row_slot}
use Rattle.job.specs.Input.{JobInput, job_in, job_refusal}
use Rattle.fetch.specs.Slices.{ListSlices, slices_of}
use Rattle.theory_plan.specs.Plan.{plan}
use Rattle.theory_plan.specs.Statement.{counts_of, marks_of}
use Rattle.planner.specs.Answer.{plan_refusal, plan_rows}
use Rattle.std.specs.declared.cmp.Ordering.{Ordering}
use Rattle.std.specs.declared.cmp.Ordering.TheVariants.{Less, Equal, Greater}
use Rattle.replan.specs.Answer.{ReplanInput, job_on, plan_afresh, refusal_on, rows_on}
use Rattle.theory_search.specs.Statement.{Found}
use Rattle.theory_search.specs.Search.{found, plan_over}
use Rattle.search.specs.Answer.{plan_found, rows_found, search_refusal}
use Rattle.theory_most.specs.Statement.{bound_any}
use Rattle.most.specs.Promise.{Finds, most_refusal, rows_over}
use Rattle.core_ffi.specs.Convention.{answered}

-- 11 also for the counts, after a call's own refusals.
unfoldable pub with_counts : ℕ → List ℕ → ℕ
with_counts refused counts = refused or_else unless 11 (leb 4 (length counts))

-- The slices of a plan, as lent or as handed over.
pub record PlanSlices : Type 0 where
  pub marks : List ℕ
  pub slots : List ℕ
  pub chunks : List ℕ
  pub layers : List ℕ
  pub bytes : List ℕ
  pub counts : List ℕ

abbrev pub plan_slices : (marks slots chunks layers bytes counts : List ℕ) → PlanSlices
plan_slices marks slots chunks layers bytes counts =
    record { marks = marks; slots = slots; chunks = chunks; layers = layers; bytes = bytes; counts = counts }

-- The library's own of them.
abbrev pub room_of : PlanSlices → ListSlices
room_of lent = slices_of lent.marks lent.slots lent.chunks lent.layers lent.bytes

-- A plan's marks, rows and counts at the start of the lent slices; on a refusal they are as they
-- were.
abbrev pub slices_after : ℕ → (marks : List ℕ) (rows : List Row) (counts : List ℕ) → PlanSlices → PlanSlices
slices_after refused marks rows counts lent =
    record {
      marks = lent_after refused marks lent.marks;
      slots = lent_after refused (map row_slot rows) lent.slots;
      chunks = lent_after refused (map row_chunk rows) lent.chunks;
      layers = lent_after refused (map row_layer rows) lent.layers;
      bytes = lent_after refused (map row_bytes rows) lent.bytes;
      counts = lent_after refused counts lent.counts;
    }

-- What a call answers that hands over a plan.
pub record Returned (refused : ℕ) (marks : List ℕ) (rows : List Row) (counts : List ℕ) (lent : PlanSlices) (r : ℕ) (lent' : PlanSlices) : Type 0 where
  -- How many rows the plan has, or the refusal's number by the convention.
  pub number : r ≡ answered refused (length rows)
  -- The marks, rows and counts, each then the old contents; on a refusal these alone.
  pub slices_are : lent' ≡ slices_after refused marks rows counts lent

-- The plan of a job: what `film_plan` hands over. What holds of this plan is the promise of the
-- library's call, planner/Answer.PlanPromise.
abbrev pub PlanReturned : JobInput → (lent : PlanSlices) (r : ℕ) (lent' : PlanSlices) → Type 0
PlanReturned h lent r lent' =
    Returned
    (with_counts (plan_refusal h (room_of lent)) lent.counts)
    (marks_of (job_in h) (plan (job_in h)))
    (plan_rows (job_in h))
    (counts_of (job_in h) (plan (job_in h)))
    lent
    r
    lent'

-- The plan made afresh, its rows from slot p on: what `film_replan` hands over. What holds of this
-- plan is the promise of the library's call, replan/Answer.ReplanPromise.
abbrev pub ReplanReturned : JobInput → ReplanInput → (lent : PlanSlices) (r : ℕ) (lent' : PlanSlices) → Type 0
ReplanReturned h o lent r lent' =
    Returned
    (with_counts (refusal_on h o (room_of lent)) lent.counts)
    (marks_of (job_on h o) (plan_afresh h o))
    (rows_on h o)
    (counts_of (job_on h o) (plan_afresh h o))
    lent
    r
    lent'

-- ---- the search

-- The steps taken, 1 if the walk ended, else 0, and the shortfall.
abbrev pub walk_of : Found → List ℕ
walk_of f = f.steps ∷ cond f.ended 1 0 ∷ f.shortfall ∷ []

-- 11 also for the counts and these three, after the search's own refusals.
unfoldable pub with_walk : ℕ → (counts walk : List ℕ) → ℕ
with_walk refused counts walk = refused or_else unless 11 (leb 4 (length counts) && leb 3 (length walk))

-- What `film_search` hands over. What holds of this plan and of the walk is the promise of the
-- library's call, search/Answer.SearchPromise.
pub record SearchReturned (h : JobInput) (budget : ℕ) (lent : PlanSlices) (walk : List ℕ) (r : ℕ) (lent' : PlanSlices) (walk' : List ℕ) : Type 0 where
  -- The plan over the set found: its number of rows, its marks, rows and counts.
  pub plan :
      Returned
      (with_walk (search_refusal h budget (room_of lent)) lent.counts walk)
      (marks_of (job_in h) (plan_found (job_in h) budget))
      (rows_found (job_in h) budget)
      (counts_of (job_in h) (plan_found (job_in h) budget))
      lent
      r
      lent'
  -- "The steps of that fixed walk actually taken, whether the walk ended .., and a shortfall."
  pub walk_is :
      walk' ≡ lent_after (with_walk (search_refusal h budget (room_of lent)) lent.counts walk) (walk_of (found (job_in h) budget)) walk

-- ---- most pictures

-- The bound in playing order, the bound in any order, and 1 if the set has as many bases as the
-- first of the two, else 0.
abbrev pub bounds_of : JobInput → (set : List ℕ) (bound : ℕ) → List ℕ
bounds_of h set bound = bound ∷ bound_any (job_in h) ∷ cond (eqb (length set) bound) 1 0 ∷ []

-- 11 also for the counts and these three, after the library's own refusals.
abbrev pub most_refused : JobInput → (lent : PlanSlices) (bounds work : List ℕ) → ℕ
most_refused h lent bounds work = with_walk (most_refusal h (room_of lent) work) lent.counts bounds

-- What `film_most` returns, for some set of bases and some bound.
pub record MostReturned (h : JobInput) (lent : PlanSlices) (bounds work : List ℕ) (r : ℕ) (lent' : PlanSlices) (bounds' work' : List ℕ) : Type 0 where
  pub set : List ℕ
  pub bound : ℕ
  -- Of these holds what the library's call promises, most/Promise.
  pub finds : job_refusal h ≡ 0 → Finds (job_in h) set bound
  -- The plan over the set: its number of rows, its marks, rows and counts.
  pub plan :
      Returned
      (most_refused h lent bounds work)
      (marks_of (job_in h) (plan_over (job_in h) set))
      (rows_over (job_in h) set)
      (counts_of (job_in h) (plan_over (job_in h) set))
      lent
      r
      lent'
  -- The bounds, and whether the first is met.
  pub bounds_are : bounds' ≡ lent_after (most_refused h lent bounds work) (bounds_of h set bound) bounds
  -- The work slice keeps its length, and on a refusal every number.
  pub work_long : length work' ≡ length work
  pub work_kept : (most_refused h lent bounds work ≡ 0 → ⊥) → work' ≡ work

-- ---- two plans' counts

-- Four counts out of a slice: "0 for absent layers", and what stands past the fourth is not looked
-- at.
abbrev pub four_counts : List ℕ → List ℕ
four_counts counts = up_to (λ k. get_or counts k 0) 4

-- 0 if they are the same; at the first entry where they differ 1 if the first has fewer, 2 if it
-- has more.
abbrev pub order_number : Ordering → ℕ
order_number Equal = 0
order_number Less = 1
order_number Greater = 2

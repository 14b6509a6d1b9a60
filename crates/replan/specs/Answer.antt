-- Meaning. What planning afresh hands over: document 02, request 12, "The result is the marks, the
-- counts and only the rows from p on", or a refusal's number. The plan made afresh, its rows and
-- its refusals are stated in theory_replan: Statement, Own, Refusal.
use Rattle.std.specs.Prelude.{ℕ, ◌-◌, ◌≤◌, ◌≡◌, Bool, List, [], ◌++◌, map, length, drop, Result}
use Rattle.theory_basics.specs.Lent.{lent_after}
use Rattle.theory_basics.specs.Refusals.{◌or_else◌, unless}
use Rattle.job.specs.Input.{JobInput, job_in, job_refusal}
use Rattle.job.specs.Job.{Job, chunks, last_slot}
use Rattle.fetch.specs.Input.{list_refusal}
use Rattle.fetch.specs.Rows.{Permuted, Row, row_bytes, row_chunk, row_layer, row_slot, rows_of}
use Rattle.fetch.specs.VerdictFrom.{verdict_from}
use Rattle.fetch.specs.Slices.{ListSlices, room}
use Rattle.theory_plan.specs.Own.{own_list}
use Rattle.theory_plan.specs.Statement.{Same, SettledByTrials, counts_of, marks_of}
use Rattle.refusals.specs.declared.Refusal.{Refusal}
use Rattle.refusals.specs.Numbers.{answered, by_number}
use Rattle.planner.specs.declared.Planned.{Planned}
use Rattle.theory_replan.specs.Promised.{Replans}
use Rattle.theory_replan.specs.Own.{own_rest}
use Rattle.theory_replan.specs.Plan.{replan}
use Rattle.theory_replan.specs.Refusal.{replan_refusal}
use Rattle.theory_replan.specs.Statement.{joined, rows_before, rows_from}

-- ---- what is handed on

-- "It hands on the rows fetched before p and the forecast from the replanning slot onward".
pub record ReplanInput : Type 0 where
  pub from : ℕ
  pub slots : List ℕ
  pub chunks : List ℕ
  pub layers : List ℕ
  pub bytes : List ℕ
  pub onward : List ℕ

abbrev pub replan_input : ℕ → (slots chunks layers bytes onward : List ℕ) → ReplanInput
replan_input from slots chunks layers bytes onward =
    record { from = from; slots = slots; chunks = chunks; layers = layers; bytes = bytes; onward = onward }

-- The rows fetched.
abbrev pub fetched : ReplanInput → List Row
fetched o = rows_of o.slots o.chunks o.layers o.bytes

-- The job on the joined forecast, the plan made afresh of it, and its rows from p on.
abbrev pub job_on : JobInput → ReplanInput → Job
job_on h o = joined (job_in h) o.from o.onward

abbrev pub plan_afresh : JobInput → ReplanInput → ℕ → ℕ
plan_afresh h o = replan (job_on h o) o.from (fetched o)

abbrev pub rows_on : JobInput → ReplanInput → List Row
rows_on h o = own_rest (job_on h o) o.from (fetched o) (plan_afresh h o)

-- ---- the refusals

-- 5, 6, 18, 7 by the job; 8 for a row not handed whole, of rows alone: no marks are handed; then
-- 21, 7 and 22.
abbrev pub input_refusal : JobInput → ReplanInput → ℕ
input_refusal h o =
    job_refusal h
    or_else list_refusal 0 [] o.slots o.chunks o.layers o.bytes
    or_else replan_refusal (job_in h) o.from (fetched o) o.onward

-- 11: "A lent buffer is shorter than the whole result".
abbrev pub holds_on : JobInput → ReplanInput → ListSlices → Bool
holds_on h o lent = room lent (chunks (job_in h)) (length (rows_on h o))

abbrev pub refusal_on : JobInput → ReplanInput → ListSlices → ℕ
refusal_on h o l = input_refusal h o or_else unless 11 (holds_on h o l)

-- ---- what is handed over

-- How many rows, and the four counts.
abbrev pub numbers_on : JobInput → ReplanInput → Planned
numbers_on h o = record { rows = length (rows_on h o); counts = counts_of (job_on h o) (plan_afresh h o) }

-- What is answered, and what stands in the lent slices: the result, then the old contents; on a refusal the old
-- contents alone.
pub record ReplanOutput (h : JobInput) (o : ReplanInput) (lent : ListSlices) (r : Result Planned Refusal) (lent' : ListSlices) : Type 0 where
  -- "Only the rows from p on": how many, and "the counts"; or the refusal's number alone.
  pub answer : by_number r ≡ answered (refusal_on h o lent) (numbers_on h o)
  -- "The marks".
  pub marks_are : lent'.marks ≡ lent_after (refusal_on h o lent) (marks_of (job_on h o) (plan_afresh h o)) lent.marks
  -- The rows from p on, "listed in document 01's way": a slice for each of their four numbers.
  pub slots_are : lent'.slots ≡ lent_after (refusal_on h o lent) (map row_slot (rows_on h o)) lent.slots
  pub chunks_are : lent'.chunks ≡ lent_after (refusal_on h o lent) (map row_chunk (rows_on h o)) lent.chunks
  pub layers_are : lent'.layers ≡ lent_after (refusal_on h o lent) (map row_layer (rows_on h o)) lent.layers
  pub bytes_are : lent'.bytes ≡ lent_after (refusal_on h o lent) (map row_bytes (rows_on h o)) lent.bytes

-- ---- what holds of it

-- The plan made afresh is settled as request 12 says, and there is no other (theory_replan,
-- Promised).
pub record Settled (h : JobInput) (o : ReplanInput) : Type 0 where
  -- "Layers whole before p are carried. Chunks due before p are settled by what they have. Others
  -- are settled as in document 01, bases too, over lists that begin with the rows fetched."
  pub replans : Replans (job_on h o) o.from (fetched o) (plan_afresh h o)
  -- The rows from p on: "together with the handed rows they pass that call."
  pub passes : verdict_from (job_on h o) o.from (marks_of (job_on h o) (plan_afresh h o)) (fetched o ++ rows_on h o) ≡ 0

abbrev pub SettledAfresh : JobInput → ReplanInput → Type 0
SettledAfresh h o = input_refusal h o ≡ 0 → Settled h o

-- "If the standing plan was settled for the whole job in document 01's way, bases too, the rows are
-- all its own before p and the forecast hasn't changed, the new rows are exactly the rest of that
-- plan": whoever it is settled by, in whatever order its rows are handed.
pub record GoesOn (h : JobInput) (o : ReplanInput) (q : ℕ → ℕ) : Type 0 where
  -- Neither 21, 7 nor 22 refuses what is handed on.
  pub accepted : replan_refusal (job_in h) o.from (fetched o) o.onward ≡ 0
  -- The plan made afresh is the standing one,
  pub same : Same (job_in h) (plan_afresh h o) q
  -- and "the new rows are exactly the rest of that plan."
  pub rest : rows_on h o ≡ rows_from o.from (own_list (job_in h) q)

abbrev pub StandingGoesOn : JobInput → ReplanInput → Type 0
StandingGoesOn h o =
    job_refusal h ≡ 0 → (q : ℕ → ℕ) → SettledByTrials (job_in h) q → 1 ≤ o.from → o.from ≤ last_slot (job_in h) →
    Permuted (fetched o) (rows_before o.from (own_list (job_in h) q)) → o.onward ≡ drop (o.from - 1) h.forecast → GoesOn h o q

-- The promise of `replan`.
pub record ReplanPromise (h : JobInput) (o : ReplanInput) (lent : ListSlices) (r : Result Planned Refusal) (lent' : ListSlices) : Type 0 where
  -- "The result is the marks, the counts and only the rows from p on", or the refusal's number;
  -- every lent byte, on a refusal too.
  pub output : ReplanOutput h o lent r lent'
  -- "Layers whole before p are carried. Chunks due before p are settled by what they have. Others
  -- are settled as in document 01, bases too, over lists that begin with the rows fetched."
  -- "Together with the handed rows they pass that call."
  pub settled : SettledAfresh h o
  -- "The new rows are exactly the rest of that plan."
  pub standing : StandingGoesOn h o

-- Theorems. Document 01, "Jobs worked through": the rows marked † about plans, by computation. Each
-- is stated of every plan of the job in the sense of Statement; that there is one, and one only, is
-- proved for every accepted job (Theorems of crate theory_plan). Then plans of uneven chunks.
use Rattle.std.specs.Prelude.{ℕ, ◌<◌, List, [], ◌∷◌, ◌≡◌, refl, get_or}
use Rattle.std.proofs.Common.{sym, ap, ◌∙◌, arith}
use Rattle.job.specs.Job.{Accepted, HoldsAll, Job, job_of, size_in}
use Rattle.job.specs.Refusal.{refusal}
use Rattle.job.specs.Theorems.{accepted_iff}
use Rattle.fetch.specs.Rows.{Row, layer_count}
use Rattle.fetch.specs.Rules.{Passes}
use Rattle.fetch.specs.Verdict.{verdict}
use Rattle.theory_plan.specs.Own.{own_list}
use Rattle.theory_plan.specs.Plan.{plan}
use Rattle.theory_plan.specs.Statement.{IsPlan, count_of, counts_of, marks_of}
use Rattle.theory_plan.proofs.Theorems.{passes_iff, plan_counts_unique, plan_exists, plan_marks_unique, plan_rows_unique}
use Rattle.theory_examples.specs.Worked.{A, A_rows, better, row, uneven, uneven_rows}

-- The job is accepted, and its plan has these marks, counts and rows.
pub record PlanIs (j : Job) (marks counts : List ℕ) (rows : List Row) : Type 0 where
  pub accepted : Accepted j
  pub marks_are : (p : ℕ → ℕ) → IsPlan j p → marks_of j p ≡ marks
  pub counts_are : (p : ℕ → ℕ) → IsPlan j p → counts_of j p ≡ counts
  pub rows_are : (p : ℕ → ℕ) → IsPlan j p → own_list j p ≡ rows

-- What is computed of the computed plan holds of every plan.
pub planned :
    (j : Job) (marks counts : List ℕ) (rows : List Row) → refusal j ≡ 0 → marks_of j (plan j) ≡ marks →
    counts_of j (plan j) ≡ counts → own_list j (plan j) ≡ rows → PlanIs j marks counts rows
planned j marks counts rows ok m c r =
    let a = (accepted_iff j).0 ok in
    let d = plan_exists j a in
    record {
      accepted = a;
      marks_are = λ p is. plan_marks_unique j p (plan j) is d ∙ m;
      counts_are = λ p is. plan_counts_unique j p (plan j) is d ∙ c;
      rows_are = λ p is. plan_rows_unique j p (plan j) is d ∙ r;
    }

-- ---- job A

-- Job A with another limit or another forecast.
abbrev pub A_with : ℕ → List ℕ → Job
A_with limit forecast = job_of (record { chunks = 3; span = 2; delay = 2; limit = limit }) (2 ∷ 1 ∷ []) [] forecast

-- A: marks 0, 3, 1. Rows (1,2,0,2) (1,2,1,1) (5,3,0,2).
pub A_plan : PlanIs A (0 ∷ 3 ∷ 1 ∷ []) (2 ∷ 1 ∷ 0 ∷ 0 ∷ []) A_rows
unfolding refusal plan own_list size_in
A_plan = planned A _ _ _ refl refl refl refl

-- A with limit 3: the same.
pub A_limit_3 :
    PlanIs (A_with 3 (3 ∷ 0 ∷ 1 ∷ 0 ∷ 2 ∷ 0 ∷ [])) (0 ∷ 3 ∷ 1 ∷ []) (2 ∷ 1 ∷ 0 ∷ 0 ∷ []) A_rows
unfolding refusal plan own_list size_in
A_limit_3 = planned _ _ _ _ refl refl refl refl

-- A with limit 6: marks 1, 1, 1. Rows (1,1,0,2) (1,2,0,1) (3,2,0,1) (5,3,0,2).
pub A_limit_6 :
    PlanIs (A_with 6 (3 ∷ 0 ∷ 1 ∷ 0 ∷ 2 ∷ 0 ∷ [])) (1 ∷ 1 ∷ 1 ∷ []) (3 ∷ 0 ∷ 0 ∷ 0 ∷ []) (row 1 1 0 2 ∷ row 1 2 0 1 ∷ row 3 2 0 1 ∷ row 5 3 0 2 ∷ [])
unfolding refusal plan own_list size_in
A_limit_6 = planned _ _ _ _ refl refl refl refl

-- A with B all 0: marks 0, no rows.
pub A_no_forecast : PlanIs (A_with 2 (0 ∷ 0 ∷ 0 ∷ 0 ∷ 0 ∷ 0 ∷ [])) (0 ∷ 0 ∷ 0 ∷ []) (0 ∷ 0 ∷ 0 ∷ 0 ∷ []) []
unfolding refusal plan own_list size_in
A_no_forecast = planned _ _ _ _ refl refl refl refl

-- ---- one chunk

-- C 1, L 1, size 5.
abbrev pub one_chunk : ℕ → ℕ → List ℕ → Job
one_chunk delay limit forecast = job_of (record { chunks = 1; span = 1; delay = delay; limit = limit }) (5 ∷ []) [] forecast

-- C 1, L 1, s 1, limit 0, size 5: B = 5 gives marks 1;
pub one_chunk_5 : PlanIs (one_chunk 1 0 (5 ∷ [])) (1 ∷ []) (1 ∷ 0 ∷ 0 ∷ 0 ∷ []) (row 1 1 0 5 ∷ [])
unfolding refusal plan own_list size_in
one_chunk_5 = planned _ _ _ _ refl refl refl refl

-- B = 4 gives 0.
pub one_chunk_4 : PlanIs (one_chunk 1 0 (4 ∷ [])) (0 ∷ []) (0 ∷ 0 ∷ 0 ∷ 0 ∷ []) []
unfolding refusal plan own_list size_in
one_chunk_4 = planned _ _ _ _ refl refl refl refl

-- The same with s 2, B = 5, 0: marks 0;
pub one_chunk_late : PlanIs (one_chunk 2 0 (5 ∷ 0 ∷ [])) (0 ∷ []) (0 ∷ 0 ∷ 0 ∷ 0 ∷ []) []
unfolding refusal plan own_list size_in
one_chunk_late = planned _ _ _ _ refl refl refl refl

-- with limit 1: marks 1.
pub one_chunk_held : PlanIs (one_chunk 2 1 (5 ∷ 0 ∷ [])) (1 ∷ []) (1 ∷ 0 ∷ 0 ∷ 0 ∷ []) (row 1 1 0 5 ∷ [])
unfolding refusal plan own_list size_in
one_chunk_held = planned _ _ _ _ refl refl refl refl

-- ---- "so the last clause of demand 3 needs a limit that holds the programme"

-- On A the list `better` passes. Its counts 2, 2 beat the plan's 2, 1: equal at layer 0, higher at
-- layer 1. A's limit does not hold the programme.
pub record Beats (j : Job) (other : List Row) : Type 0 where
  pub passes : Passes j other
  pub same_bases : (p : ℕ → ℕ) → IsPlan j p → layer_count j other 0 ≡ count_of j p 0
  pub more_of_1 : (p : ℕ → ℕ) → IsPlan j p → count_of j p 1 < layer_count j other 1
  pub not_all_held : HoldsAll j → ⊥

pub better_beats : Beats A better
unfolding verdict size_in
better_beats =
    record {
      passes = (passes_iff A better).0 refl;
      same_bases = λ p is. sym (ap (λ (l : List ℕ). get_or l 0 0) (A_plan.counts_are p is));
      more_of_1 = λ p is. let e : count_of A p 1 ≡ 1 = ap (λ (l : List ℕ). get_or l 1 0) (A_plan.counts_are p is) in omega arith;
      not_all_held = λ h. omega arith;
    }

-- ---- uneven chunks

-- A with chunk 2's base of 3 bytes: the marks of A, other rows.
pub uneven_plan : PlanIs (uneven 2) (0 ∷ 3 ∷ 1 ∷ []) (2 ∷ 1 ∷ 0 ∷ 0 ∷ []) uneven_rows
unfolding refusal plan own_list size_in
uneven_plan = planned _ _ _ _ refl refl refl refl

-- A with chunk 3's base of 3 bytes: chunk 1 plays, and chunk 2 is skipped.
pub uneven_marks : PlanIs (uneven 3) (3 ∷ 0 ∷ 1 ∷ []) (2 ∷ 1 ∷ 0 ∷ 0 ∷ []) (row 1 1 0 2 ∷ row 1 1 1 1 ∷ row 3 3 0 1 ∷ row 5 3 0 2 ∷ [])
unfolding refusal plan own_list size_in
uneven_marks = planned _ _ _ _ refl refl refl refl

-- "That no list carries more is claimed only for jobs whose sizes don't vary by chunk": C 3, L 1, s
-- 1, limit 2, bases 1, 1 and 2, B = 1, 1, 0. The plan carries the base of chunk 3 alone, and a
-- passing list those of chunks 1 and 2.
abbrev smoke : Job
smoke = job_of (record { chunks = 3; span = 1; delay = 1; limit = 2 }) (1 ∷ []) (record { chunk = 3; layer = 0; bytes = 2 } ∷ []) (1 ∷ 1 ∷ 0 ∷ [])

pub smoke_plan : PlanIs smoke (0 ∷ 0 ∷ 1 ∷ []) (1 ∷ 0 ∷ 0 ∷ 0 ∷ []) (row 1 3 0 1 ∷ row 2 3 0 1 ∷ [])
unfolding refusal plan own_list size_in
smoke_plan = planned _ _ _ _ refl refl refl refl

abbrev two_bases : List Row
two_bases = row 1 1 0 1 ∷ row 2 2 0 1 ∷ []

pub uneven_more : Passes smoke two_bases × ((p : ℕ → ℕ) → IsPlan smoke p → count_of smoke p 0 < layer_count smoke two_bases 0)
unfolding verdict size_in
uneven_more = (
  (passes_iff smoke two_bases).0 refl,
  λ p is. let e : count_of smoke p 0 ≡ 1 = ap (λ (l : List ℕ). get_or l 0 0) (smoke_plan.counts_are p is) in omega arith,
)

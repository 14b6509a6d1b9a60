-- Theorems. Request 9 by computation: where document 01's way is poor, which of equals is dropped,
-- and which base is the largest.
use Rattle.std.specs.Prelude.{ℕ, ◌≡◌, refl, [], ◌∷◌, get_or}
use Rattle.std.proofs.Common.{◌∙◌}
use Rattle.job.specs.Job.{Accepted, Job, job_of, size_in}
use Rattle.job.specs.Refusal.{refusal}
use Rattle.job.specs.Theorems.{accepted_iff}
use Rattle.theory_plan.specs.Bases.{kept_after, moore_hodgson}
use Rattle.theory_plan.specs.Plan.{plan, plan_by_trials}
use Rattle.theory_plan.specs.Statement.{IsPlan, SettledByTrials, marks_of}
use Rattle.theory_plan.proofs.Theorems.{plan_exists, plan_marks_unique, same_marks, trials_exist, trials_unique}

-- C 3, L 1, s 1, bases 1, 1, 2, forecast 1, 1, 0.
abbrev pub with_limit : ℕ → Job
with_limit limit =
    job_of (record { chunks = 3; span = 1; delay = 1; limit = limit }) (1 ∷ []) (record { chunk = 3; layer = 0; bytes = 2 } ∷ []) (1 ∷ 1 ∷ 0 ∷ [])

-- With limit 3, so H is C.
abbrev pub poor : Job
poor = with_limit 3

poor_accepted : Accepted poor
unfolding refusal
poor_accepted = (accepted_iff poor).0 refl

-- Document 01's way keeps one base,
pub poor_by_trials : (p : ℕ → ℕ) → SettledByTrials poor p → marks_of poor p ≡ 0 ∷ 0 ∷ 1 ∷ []
unfolding size_in plan_by_trials
poor_by_trials p d = same_marks poor p (plan_by_trials poor) (trials_unique poor p (plan_by_trials poor) d (trials_exist poor poor_accepted)) ∙ refl

-- the plan two.
pub poor_plan : (p : ℕ → ℕ) → IsPlan poor p → marks_of poor p ≡ 1 ∷ 1 ∷ 0 ∷ []
unfolding size_in plan
poor_plan p d = plan_marks_unique poor p (plan poor) d (plan_exists poor poor_accepted) ∙ refl

-- With limit 2 the plan is document 01's.
limit_2_accepted : Accepted (with_limit 2)
unfolding refusal
limit_2_accepted = (accepted_iff (with_limit 2)).0 refl

pub limit_2_plan : (p : ℕ → ℕ) → IsPlan (with_limit 2) p → marks_of (with_limit 2) p ≡ 0 ∷ 0 ∷ 1 ∷ []
unfolding size_in plan
limit_2_plan p d = plan_marks_unique (with_limit 2) p (plan (with_limit 2)) d (plan_exists (with_limit 2) limit_2_accepted) ∙ refl

-- What Moore-Hodgson keeps.
pub poor_kept : moore_hodgson poor ≡ 1 ∷ 2 ∷ []
unfolding size_in
poor_kept = refl

-- Of equals the earliest is dropped: four bases of 3 bytes, room for 7.
pub equals_kept : kept_after (λ k. 3) (λ i. 7) 4 ≡ 3 ∷ 4 ∷ []
equals_kept = refl

-- The largest is dropped, wherever it stands: bases 1, 5, 4, 5, room for 6, 6, 6, 9.
pub largest_dropped : kept_after (λ k. get_or (0 ∷ 1 ∷ 5 ∷ 4 ∷ 5 ∷ []) k 0) (λ i. get_or (0 ∷ 6 ∷ 6 ∷ 6 ∷ 9 ∷ []) i 0) 4 ≡ 1 ∷ 3 ∷ []
largest_dropped = refl

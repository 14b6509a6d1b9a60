-- Meaning. What the search hands over, computed, so that a contract can name it: by recursion over
-- the chunk number, which falls at each call, carrying the best set so far (document 01, "Forms we
-- want to see"), with the budget left threaded through. What is to be found says Statement
-- (`IsFound`); that this is it, and nothing else is, say `found_is_found` and `found_unique` of
-- Theorems. So nobody has to believe this recursion, nor the test of theory_plan that decides a
-- keep.
use Rattle.std.specs.Prelude.{ℕ, zero, suc, ◌-◌, Bool, true, false, cond, ◌&&◌, List, [], ◌∷◌, length, ltb}
use Rattle.job.specs.Job.{Job, chunks}
use Rattle.theory_plan.specs.Plan.{fits, plan_on}
use Rattle.theory_search.specs.Statement.{Found, bases_of, shortfall_of}

-- ---- where the walk stands

-- The steps of the budget not yet taken, the best set so far, and that no step was wanted that the
-- budget does not have.
pub record Walked : Type 0 where
  pub left : ℕ
  pub best : List ℕ
  pub ended : Bool

-- The set of more chunks, the first one among equals.
abbrev pub better : List ℕ → List ℕ → List ℕ
better a b = cond (ltb (length a) (length b)) b a

abbrev pub goes_on : Walked → Bool
goes_on s = s.ended && ltb 0 s.left

abbrev pub spend : Walked → Walked
spend s = record { left = s.left - 1; best = s.best; ended = s.ended }

abbrev pub cut : Walked → Walked
cut s = record { left = s.left; best = s.best; ended = false }

abbrev pub meet : List ℕ → Walked → Walked
meet ks s = record { left = s.left; best = better s.best ks; ended = s.ended }

-- A step, and what it leads to.
abbrev pub step : (Walked → Walked) → Walked → Walked
step on s = let next = on (spend s) in cond (goes_on s) next (cut s)

-- ---- the recursion

-- The chunks i down to 1, beside the kept ones: each is tried kept and then skipped. What is kept
-- after a skip was met before.
abbrev pub search : (List ℕ → Bool) → ℕ → List ℕ → Walked → Walked
search allowed zero ks s = s
search allowed (suc i) ks s =
    step (search allowed i ks)
    (step (λ r. let next = search allowed i (suc i ∷ ks) (meet (suc i ∷ ks) r) in cond (allowed (suc i ∷ ks)) next r) s)

-- The empty set is met before the first step.
abbrev pub start : ℕ → Walked
start budget = record { left = budget; best = []; ended = true }

-- What is handed over.
abbrev pub found_by : Job → ℕ → Walked → Found
found_by j budget s =
    record { kept = s.best; steps = budget - s.left; ended = s.ended; shortfall = shortfall_of j s.ended s.best }

-- A keep is decided by the test whether the bases fit (theory_plan, Plan).
abbrev pub fitting : Job → List ℕ → Bool
fitting j ks = fits j (bases_of ks)

abbrev pub found : Job → ℕ → Found
found j budget = found_by j budget (search (fitting j) (chunks j) [] (start budget))

-- ---- the plan over a set

abbrev pub plan_over : Job → List ℕ → ℕ → ℕ
plan_over j ks = plan_on j (bases_of ks)

-- Meaning, tried. Job A of document 01, and an uneven job under a binding limit (C 3, L 1, s 2,
-- limit 1, bases 2, 1, 3, forecast 4, 1, 1, 0) in which the first 2C steps find one base, document
-- 01's, and the whole walk two.
use Rattle.std.specs.Prelude.{ℕ, ◌≡◌, refl, Bool, true, false, List, [], ◌∷◌}
use Rattle.job.specs.Job.{Job, size_in}
use Rattle.theory_plan.specs.Plan.{fits}
use Rattle.theory_plan.specs.lemmas.Feasible.{feas}
use Rattle.theory_search.specs.Statement.{Found, met, most_without_limit, refused, whole_walk}
use Rattle.theory_search.specs.Search.{fitting, found}

abbrev job_a : Job
job_a =
    record {
      programme = record { chunks = 3; span = 2; delay = 2; limit = 2 };
      sizes = 2 ∷ 1 ∷ [];
      overrides = [];
      forecast = 3 ∷ 0 ∷ 1 ∷ 0 ∷ 2 ∷ 0 ∷ [];
    }

abbrev result : List ℕ → ℕ → Bool → ℕ → Found
result kept steps ended shortfall = record { kept = kept; steps = steps; ended = ended; shortfall = shortfall }

a_none : found job_a 0 ≡ result [] 0 false 3
unfolding size_in fits feas most_without_limit
a_none = refl

a_two : found job_a 2 ≡ result (2 ∷ 3 ∷ []) 2 false 1
unfolding size_in fits feas most_without_limit
a_two = refl

-- One step before the end, and the last step spends the budget.
a_short : found job_a 13 ≡ result (2 ∷ 3 ∷ []) 13 false 1
unfolding size_in fits feas most_without_limit
a_short = refl

a_ends : found job_a 14 ≡ result (2 ∷ 3 ∷ []) 14 true 0
unfolding size_in fits feas most_without_limit
a_ends = refl

-- ---- uneven

abbrev uneven : Job
uneven =
    record {
      programme = record { chunks = 3; span = 1; delay = 2; limit = 1 };
      sizes = 2 ∷ [];
      overrides = record { chunk = 2; layer = 0; bytes = 1 } ∷ record { chunk = 3; layer = 0; bytes = 3 } ∷ [];
      forecast = 4 ∷ 1 ∷ 1 ∷ 0 ∷ [];
    }

-- The whole walk.
uneven_walk :
    whole_walk uneven (fitting uneven)
    ≡ met (3 ∷ [])
    ∷ refused
    ∷ met (3 ∷ [])
    ∷ refused
    ∷ met (3 ∷ [])
    ∷ met []
    ∷ met (2 ∷ [])
    ∷ met (1 ∷ 2 ∷ [])
    ∷ met (2 ∷ [])
    ∷ met []
    ∷ met (1 ∷ [])
    ∷ met []
    ∷ []
unfolding size_in fits feas
uneven_walk = refl

uneven_early : found uneven 6 ≡ result (3 ∷ []) 6 false 2
unfolding size_in fits feas most_without_limit
uneven_early = refl

uneven_cut : found uneven 8 ≡ result (1 ∷ 2 ∷ []) 8 false 1
unfolding size_in fits feas most_without_limit
uneven_cut = refl

uneven_ends : found uneven 4294967295 ≡ result (1 ∷ 2 ∷ []) 12 true 0
unfolding size_in fits feas most_without_limit
uneven_ends = refl

-- Lemmas. Of an accepted job: what keeps the promise of a set of bases and a bound. Assumes
-- nothing.
use Rattle.std.specs.Prelude.{ℕ, ◌≤◌, List, length, ltb}
use Rattle.std.proofs.Common.{ap, arith}
use Rattle.std.proofs.Math.Dec.{leb}
use Rattle.theory_basics.specs.lemmas.Ranges.{count_cong}
use Rattle.job.specs.Job.{Accepted, Job, chunks}
use Rattle.theory_plan.specs.Plan.{after, kept, plan}
use Rattle.theory_plan.proofs.Theorems.{plan_exists, plan_unique}
use Rattle.theory_search.specs.Search.{plan_over}
use Rattle.theory_search.proofs.Theorems.{over_exists, over_unique}
use Rattle.theory_search.specs.lemmas.Fitting.{count_kept}
use Rattle.theory_most.specs.Statement.{Most, NoneAboveInOrder, Set, any_row, bound, bound_any, least}
use Rattle.theory_most.proofs.Theorems.{bound_in_order, plan_set, set_carried, set_within, shown}
use Rattle.theory_most.proofs.Bounds.{largest_le}
use Rattle.most.specs.Promise.{Finds}

-- ---- the bounds are small, and what a set and a bound must say

module _ (j : Job) (ok : Accepted j) where
  pub bound_small : bound j ≤ 500
  unfolding bound
  bound_small = omega (arith, largest_le (λ c. leb (least j 0 c) (after j 0)) (chunks j), ok.chunks_in.high)

  pub bound_any_small : bound_any j ≤ 500
  unfolding bound_any
  bound_any_small = omega (arith, largest_le (λ c. leb (any_row j (chunks j) c) (after j 0)) (chunks j), ok.chunks_in.high)

  pub plan_is_set : Set j (chunks j) (kept j (plan j))
  plan_is_set = plan_set j ok (plan j) (plan_exists j ok)

  pub set_most :
      (set : List ℕ) (most : ℕ) → Set j (chunks j) set → length (kept j (plan j)) ≤ length set → NoneAboveInOrder j most → most ≤ bound j → Most j set most
  set_most set most s few none high =
      let is = plan_exists j ok in
      record {
        ascending = s.ascending;
        can_carry = set_carried j ok set s;
        no_fewer =
            λ p isp. omega (arith, count_kept j (plan j), count_cong (λ i. ltb 0 (p i)) (λ i. ltb 0 (plan j i)) (chunks j) (λ i u v. ap (ltb 0) (plan_unique j p (plan j) isp is i u v)));
        none_above = none;
        within = set_within j ok most none set s;
        no_higher = high;
      }

  -- The plan's own bases and the computed bound, where nothing is searched for.
  plan_most : Most j (kept j (plan j)) (bound j)
  plan_most = set_most (kept j (plan j)) (bound j) plan_is_set (omega arith) (bound_in_order j ok) (omega arith)

-- ---- what holds of a set and a bound

pub finds_of : (j : Job) → Accepted j → (set : List ℕ) (most : ℕ) → Most j set most → Finds j set most
finds_of j ok set most m =
    let over = over_exists j ok set in
    record { most = m; is_over = over; only_over = λ other o. over_unique j set other (plan_over j set) o over; shown = shown j ok set most m (plan_over j set) over }

-- The plan's own bases and the computed bound do, without a search.
pub plan_finds : (j : Job) → Accepted j → Finds j (kept j (plan j)) (bound j)
plan_finds j ok = finds_of j ok (kept j (plan j)) (bound j) (plan_most j ok)

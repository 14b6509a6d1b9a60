-- Theorems. What the computed search finds keeps what Statement asks (`found_most`), and where no pass
-- had to drop a set it is exact. They stand apart from `pass_lowers`, on which they rest, so that the
-- edit of that theorem is refused there.
use Rattle.std.specs.Prelude.{ℕ, zero, suc, ◌+◌, ◌-◌, ◌≤◌, ◌≡◌, refl, cond, not, List, [], ◌∷◌, drop, length, T, ltb}
use Rattle.std.proofs.Common.{ap, subst, arith}
use Rattle.theory_basics.specs.Tests.{In, here}
use Rattle.theory_basics.specs.lemmas.Ranges.{count_cong}
use Rattle.theory_basics.specs.lemmas.Tests.{by_cond, not_T_false}
use Rattle.job.specs.Job.{Accepted, Job, chunks}
use Rattle.theory_plan.specs.Plan.{kept, plan}
use Rattle.theory_plan.proofs.Theorems.{plan_exists, plan_unique}
use Rattle.theory_search.specs.lemmas.Fitting.{count_kept}
use Rattle.theory_most.specs.Statement.{Most, NoneAboveInOrder, Pass, Set, bound}
use Rattle.theory_most.specs.Search.{Answer, decide, found, lowered, seek, whole_pass}
use Rattle.theory_most.proofs.Search.{whole_enough, whole_passed, whole_sets}
use Rattle.theory_most.proofs.Theorems.{bound_in_order, pass_lowers, plan_set, set_carried, set_within}

-- ---- the computed search

-- What it hands over, whatever room there is: a set that can be fetched, no smaller than the
-- plan's, and a bound that holds.
record Sought (j : Job) (first : List ℕ) (answer : Answer) : Type 0 where
  pub is_set : Set j (chunks j) answer.set
  pub none_above : NoneAboveInOrder j answer.most
  pub no_fewer : length first ≤ length answer.set
  pub no_higher : answer.most ≤ bound j

decided_sought :
    (j : Job) (first : List ℕ) (sets : List (List ℕ)) (most : ℕ) (other : Answer) → ((ks : List ℕ) → In ks sets → Set j (chunks j) ks) →
    ((ks : List ℕ) → In ks sets → length first ≤ length ks) → NoneAboveInOrder j most → most ≤ bound j → (sets ≡ [] → Sought j first other) →
    Sought j first (decide sets most other)
decided_sought j first [] most other s n a h f = f refl
decided_sought j first (ks ∷ others) most other s n a h f = record { is_set = s ks here; none_above = a; no_fewer = n ks here; no_higher = h }

seek_sought :
    (j : Job) → Accepted j → (room : ℕ) (first : List ℕ) → Set j (chunks j) first → (n most : ℕ) → NoneAboveInOrder j most →
    most ≤ bound j → length first + n ≤ most → Sought j first (seek j room first n most)
seek_sought j ok room first s zero most a h l = record { is_set = s; none_above = a; no_fewer = omega arith; no_higher = h }
seek_sought j ok room first s (suc n) most a h l =
    let target = length first + suc n in
    let f = whole_pass j target room in
    decided_sought j first f.sets most (seek j room first n (lowered target f most)) (whole_sets j target room)
    (λ ks m. omega (arith, whole_enough j target room ok.chunks_in.low ks m))
    a
    h
    (λ e.
    seek_sought j ok room first s n (lowered target f most)
    (by_cond (λ (x : ℕ). NoneAboveInOrder j x) f.dropped (λ t. a) (λ t.
    pass_lowers j ok target (chunks j) (subst (λ (l : List (List ℕ)). Pass j target (chunks j) l) e (whole_passed j target room t))))
    (by_cond (λ (x : ℕ). x ≤ bound j) f.dropped (λ t. h) (λ t. omega arith))
    (by_cond (λ (x : ℕ). length first + n ≤ x) f.dropped (λ t. omega arith) (λ t. omega arith)))

pub found_most : (j : Job) → Accepted j → (room : ℕ) → Most j (found j room).set (found j room).most
unfolding found
found_most j ok room =
    let first = kept j (plan j) in
    let f = plan_set j ok (plan j) (plan_exists j ok) in
    let few = set_within j ok (bound j) (bound_in_order j ok) first f in
    let s = seek_sought j ok room first f (bound j - length first) (bound j) (bound_in_order j ok) (omega arith) (omega arith) in
    let answer = seek j room first (bound j - length first) (bound j) in
    record {
      ascending = s.is_set.ascending;
      can_carry = set_carried j ok answer.set s.is_set;
      no_fewer = λ p is. omega (arith, s.no_fewer, count_kept j (plan j), count_cong (λ i. ltb 0 (p i)) (λ i. ltb 0 (plan j i)) (chunks j) (λ i u v. ap (ltb 0) (plan_unique j p (plan j) is (plan_exists j ok) i u v)));
      none_above = s.none_above;
      within = set_within j ok answer.most s.none_above answer.set s.is_set;
      no_higher = s.no_higher;
    }

-- Where no pass had to drop a set, it is exact.
seek_exact :
    (j : Job) → Accepted j → (room : ℕ) (first : List ℕ) → ((target : ℕ) → T (not (whole_pass j target room).dropped)) → (n most : ℕ) →
    length first + n ≡ most → (seek j room first n most).most ≤ length (seek j room first n most).set
seek_exact j ok room first free zero most e = omega arith
seek_exact j ok room first free (suc n) most e =
    let target = length first + suc n in
    let f = whole_pass j target room in
    by f.sets (λ ks m. whole_enough j target room ok.chunks_in.low ks m)
    (seek_exact j ok room first free n (lowered target f most) (rw (not_T_false f.dropped (free target)) (omega arith)))
  where
    by :
        (sets : List (List ℕ)) → ((ks : List ℕ) → In ks sets → length first + suc n ≤ length ks) →
        (let other = seek j room first n (lowered (length first + suc n) (whole_pass j (length first + suc n) room) most) in other.most ≤ length other.set) →
        (let a = decide sets most (seek j room first n (lowered (length first + suc n) (whole_pass j (length first + suc n) room) most)) in a.most ≤ length a.set)
    by [] m r = r
    by (ks ∷ others) m r = omega (arith, m ks here)

pub found_exact :
    (j : Job) → Accepted j → (room : ℕ) → ((target : ℕ) → T (not (whole_pass j target room).dropped)) →
    length (found j room).set ≡ (found j room).most
unfolding found
found_exact j ok room free =
    let first = kept j (plan j) in
    let f = plan_set j ok (plan j) (plan_exists j ok) in
    let few = set_within j ok (bound j) (bound_in_order j ok) first f in
    let m = (found_most j ok room).within in
    omega (arith, m, seek_exact j ok room first free (bound j - length first) (bound j) (omega arith))

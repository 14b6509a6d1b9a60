-- Lemmas. Some chunks need no more than a row says. So where the limit holds the programme both
-- bounds are met, by the plan too.
use Rattle.std.specs.Prelude.{ℕ, zero, suc, ◌+◌, ◌-◌, ◌≤◌, ◌<◌, ◌≡◌, refl, Bool, cond, List, [], ◌∷◌, length, leb, ltb}
use Rattle.std.proofs.Common.{sym, subst, ap, ◌∙◌, ⊎_elim, arith, leb→le, ltb→lt, nltb→le}
use Rattle.std.proofs.Math.Dec.{nleb→lt}
use Rattle.theory_basics.specs.lemmas.Tests.{T_true, by_cond, not_T_false, test}
use Rattle.fetch.specs.Rows.{layer_count}
use Rattle.job.specs.Job.{Accepted, HoldsAll, Job, chunks, due, held_most}
use Rattle.theory_plan.specs.Bases.{Asc, base_size}
use Rattle.theory_plan.specs.Plan.{after}
use Rattle.theory_plan.specs.Statement.{CanCarry, count_of}
use Rattle.theory_plan.specs.lemmas.Ascending.{asc_lower}
use Rattle.theory_plan.specs.lemmas.Feasible.{need_of}
use Rattle.theory_plan.specs.lemmas.Level.{count_carried}
use Rattle.theory_plan.specs.lemmas.Need.{tails_few}
use Rattle.theory_search.specs.Statement.{bases_of}
use Rattle.theory_search.specs.lemmas.Fitting.{can_carry_good, count_kept, kept_bases_lem}
use Rattle.theory_most.specs.Statement.{any_row, bound, bound_any, in_front, least, most_from, too_much, with_or_without}
use Rattle.theory_most.proofs.Bounds.{behind_next, largest_le, least_end, least_next}
use Rattle.theory_most.proofs.Rising.{bound_any_iff, bound_iff}

-- c chunks from lo on that need at most so much.
record Have (j : Job) (lo c most : ℕ) : Type 0 where
  pub set : List ℕ
  pub ascending : Asc lo (chunks j) set
  pub many : length set ≡ c
  pub little : need_of (base_size j) (due j) (after j) set ≤ most

have_none : (j : Job) (lo most : ℕ) → Have j lo 0 most
have_none j lo most = record { set = []; ascending = tt; many = refl; little = omega arith }

have_later : (j : Job) (lo c m most : ℕ) → m ≤ most → Have j (suc lo) c m → Have j lo c most
have_later j lo c m most h r =
    record { set = r.set; ascending = asc_lower lo (suc lo) (chunks j) r.set (omega arith) r.ascending; many = r.many; little = omega (arith, r.little) }

have_front : (j : Job) (k c m most : ℕ) → k ≤ chunks j → in_front j k m ≤ most → Have j (suc k) c m → Have j k (suc c) most
have_front j k c m most l h r =
    record { set = k ∷ r.set; ascending = (omega arith, l, r.ascending); many = omega (arith, r.many); little = omega (arith, r.little) }

-- ---- of the rows in playing order

-- Chunk i + 1 in front, or tooMuch.
have_with :
    (j : Job) (i c most : ℕ) (b : Bool) → i < chunks j → cond b (in_front j (suc i) (least j (suc i) c)) (too_much j) ≤ most → most ≤ after j 0 →
    (least j (suc i) c ≤ after j 0 → Have j (suc (suc i)) c (least j (suc i) c)) → Have j (suc i) (suc c) most
have_with j i c most b l h a r =
    ⊎_elim
    (λ t. let w = rw (T_true b t) at h in have_front j (suc i) c (least j (suc i) c) most (omega arith) w (r (omega (arith, w))))
    (λ t. let w = rw (not_T_false b t) at h in absurd (omega (arith, w)))
    (test b)

least_have : (j : Job) (n i c : ℕ) → chunks j ≤ i + n → least j i c ≤ after j 0 → Have j (suc i) c (least j i c)
least_have j n i zero h a = have_none j (suc i) (least j i 0)
least_have j zero i (suc c) h a = absurd (omega (arith, least_end j i c (omega arith)))
least_have j (suc n) i (suc c) h a =
    ⊎_elim
    (λ t.
    let l = ltb→lt i (chunks j) t in
    let e = least_next j i c l in
    ⊎_elim
    (λ u.
    let m = leb→le (least j (suc i) (suc c)) (least j i (suc c)) u in
    have_later j (suc i) (suc c) (least j (suc i) (suc c)) (least j i (suc c)) m (least_have j n (suc i) (suc c) (omega arith) (omega arith)))
    (λ u.
    let m = nleb→lt (least j (suc i) (suc c)) (least j i (suc c)) u in
    have_with j i c (least j i (suc c)) (leb (behind_next j i c) (after j (due j (suc i) - 1))) l (omega (arith, e)) a (λ w. least_have j n (suc i) c (omega arith) w))
    (test (leb (least j (suc i) (suc c)) (least j i (suc c)))))
    (λ t. absurd (omega (arith, least_end j i c (nltb→le i (chunks j) t))))
    (test (ltb i (chunks j)))

-- ---- of the rows in any order

any_raw :
    (j : Job) (lo c most : ℕ) (row : ℕ → ℕ) → suc lo ≤ chunks j → with_or_without j (suc lo) row c ≤ most → most ≤ after j 0 →
    ((c : ℕ) → row c ≤ after j 0 → Have j (suc (suc lo)) c (row c)) → Have j (suc lo) c most
any_raw j lo zero most row l h a r = have_none j (suc lo) most
any_raw j lo (suc c) most row l h a r =
    ⊎_elim
    (λ u. let m = leb→le (row (suc c)) most u in have_later j (suc lo) (suc c) (row (suc c)) most m (r (suc c) (omega arith)))
    (λ u.
    let m = nleb→lt (row (suc c)) most u in
    have_front j (suc lo) c (row c) most l (omega arith) (r c (omega arith)))
    (test (leb (row (suc c)) most))

any_have : (j : Job) (n lo c : ℕ) → lo + n ≡ chunks j → any_row j n c ≤ after j 0 → Have j (suc lo) c (any_row j n c)
any_have j zero lo zero e a = have_none j (suc lo) 0
any_have j zero lo (suc c) e a = absurd (omega arith)
any_have j (suc n) lo c e a =
    let k : chunks j - n ≡ suc lo = omega arith in
    subst (λ (x : ℕ). cond (leb c (most_from j x (with_or_without j x (any_row j n)))) (with_or_without j x (any_row j n) c) (too_much j) ≤ after j 0 → Have j (suc lo) c (cond (leb c (most_from j x (with_or_without j x (any_row j n)))) (with_or_without j x (any_row j n) c) (too_much j))) (sym k)
    (by_cond (λ (y : ℕ). y ≤ after j 0 → Have j (suc lo) c y) (leb c (most_from j (suc lo) (with_or_without j (suc lo) (any_row j n))))
    (λ t b. any_raw j lo c (with_or_without j (suc lo) (any_row j n) c) (any_row j n) (omega arith) (omega arith) b (λ c w. any_have j n (suc lo) c (omega arith) w))
    (λ t b. absurd (omega arith)))
    a

-- ---- where the limit holds the programme

-- So many bases can be carried.
pub record Carries (j : Job) (c : ℕ) : Type 0 where
  pub set : List ℕ
  pub can_carry : CanCarry j (bases_of set)
  pub counted : layer_count j can_carry.rows 0 ≡ c

have_carried : (j : Job) → Accepted j → HoldsAll j → (c : ℕ) → c ≤ chunks j → Have j 1 c (after j 0) → Carries j c
have_carried j ok wide c h r =
    let few = tails_few (base_size j) (due j) (after j) (held_most j) r.set (omega (arith, r.many)) in
    let s = (can_carry_good j ok r.set r.ascending).1 (record { whole = r.little; tails = few }) in
    let n = count_carried j s.rows (bases_of r.set) s.exactly 0 ok.layers_in.low in
    let m : count_of j (bases_of r.set) 0 ≡ length r.set = count_kept j (bases_of r.set) ∙ ap (length {A = ℕ}) (kept_bases_lem j r.set r.ascending) in
    record { set = r.set; can_carry = s; counted = omega (arith, n, m, r.many) }

have_within : (j : Job) (lo c m most : ℕ) → m ≤ most → Have j lo c m → Have j lo c most
have_within j lo c m most h r = record { set = r.set; ascending = r.ascending; many = r.many; little = omega (arith, r.little) }

bound_le : (j : Job) → bound j ≤ chunks j
unfolding bound
bound_le j = largest_le (λ c. leb (least j 0 c) (after j 0)) (chunks j)

bound_any_le : (j : Job) → bound_any j ≤ chunks j
unfolding bound_any
bound_any_le j = largest_le (λ c. leb (any_row j (chunks j) c) (after j 0)) (chunks j)

pub bound_carried : (j : Job) → Accepted j → HoldsAll j → Carries j (bound j)
bound_carried j ok wide =
    let c = bound j in
    let l = (bound_iff j c (bound_le j)).1 (omega arith) in
    have_carried j ok wide c (bound_le j) (have_within j 1 c (least j 0 c) (after j 0) l (least_have j (chunks j) 0 c (omega arith) l))

pub bound_any_carried : (j : Job) → Accepted j → HoldsAll j → Carries j (bound_any j)
bound_any_carried j ok wide =
    let c = bound_any j in
    let l = (bound_any_iff j c (bound_any_le j)).1 (omega arith) in
    have_carried j ok wide c (bound_any_le j) (have_within j 1 c (any_row j (chunks j) c) (after j 0) l (any_have j (chunks j) 0 c (omega arith) l))

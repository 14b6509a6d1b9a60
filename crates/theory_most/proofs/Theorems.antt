-- Theorems. What Statement says, proved for any accepted job: sizes may vary by chunk, and the
-- limit may bind.
use Rattle.std.specs.Prelude.{ℕ, zero, suc, ◌+◌, ◌-◌, ◌≤◌, ◌<◌, min, ◌≡◌, refl, cond, not, List, [], ◌∷◌, ◌++◌, ◌↔◌, drop, get_or, length, T, leb, ltb}
use Rattle.std.proofs.Common.{ap, ◌∙◌, subst, ⊎_elim, arith, lt-ltb, leb→le, le→leb}
use Rattle.std.proofs.Math.Dec.{nleb→lt}
use Rattle.theory_basics.specs.Tests.{All, In, here}
use Rattle.theory_basics.specs.lemmas.Ranges.{count_cong, sum_mono}
use Rattle.theory_basics.specs.lemmas.Tests.{at_row, by_cond, not_T_false, test}
use Rattle.fetch.specs.Rows.{Row, layer_count}
use Rattle.fetch.specs.Rules.{Passes, PlayingOrder}
use Rattle.job.specs.Job.{Accepted, EqualBases, HoldsAll, Job, chunks, due, held_most, size}
use Rattle.theory_plan.specs.Bases.{Asc, base_size}
use Rattle.theory_plan.specs.Own.{own_list}
use Rattle.theory_plan.proofs.Pictures.{most_pictures}
use Rattle.theory_plan.specs.Plan.{after, bytes, kept, picked, plan}
use Rattle.theory_plan.specs.Statement.{CanCarry, IsPlan, count_of}
use Rattle.theory_plan.proofs.Theorems.{plan_carried, plan_exists, plan_unique}
use Rattle.theory_plan.specs.lemmas.Base.{base_picks, bases_asc, bases_in}
use Rattle.theory_plan.proofs.Best.{is_plan_fits}
use Rattle.theory_plan.specs.lemmas.Choice.{kept_asc}
use Rattle.theory_plan.specs.lemmas.Kept.{feas_picked, length_picked_le}
use Rattle.theory_plan.specs.lemmas.Level.{count_carried, keeps_passes, level}
use Rattle.theory_plan.specs.lemmas.Need.{Feas}
use Rattle.theory_plan.specs.lemmas.Plan.{base_taken_iff}
use Rattle.theory_plan.specs.lemmas.Words.{accepted_sized}
use Rattle.theory_search.specs.Statement.{IsPlanOver, bases_of}
use Rattle.theory_search.proofs.Theorems.{over_carried}
use Rattle.theory_search.specs.lemmas.Over.{over_kept}
use Rattle.theory_search.specs.lemmas.Fitting.{can_carry_good, count_kept, kept_bases_lem, list_bases_counted, list_bases_good}
use Rattle.theory_most.specs.Statement.{Covers, InTime, LeastAfter, Most, NoneAboveAtAll, NoneAboveInOrder, Pass, Set, Settled, Shown, Some, State, after_set, any_row, bound, bound_any, end_of, in_front, keep, least, open_of, start, too_much, used_with}
use Rattle.theory_most.specs.Search.{Answer, covers, decide, forward, found, lowered, seek, whole_pass}
use Rattle.theory_most.proofs.AnyOrder.{any_under, bases_had, bases_need}
use Rattle.theory_most.proofs.Bounds.{largest_most, least_end, least_next, least_zero}
use Rattle.theory_most.proofs.Covering.{behind_set, covers_in_time, waits_rise}
use Rattle.theory_most.proofs.Equal.{equal_bound, equal_bound_any}
use Rattle.theory_most.specs.lemmas.Forward.{in_time_iff_fits, keep_all_append, waits_of}
use Rattle.theory_most.proofs.Front.{pass_some, set_keep, set_skip, settled_through}
use Rattle.theory_most.proofs.InOrder.{least_under}
use Rattle.theory_most.proofs.Meeting.{bound_any_carried, bound_carried}
use Rattle.theory_most.proofs.Rising.{any_rises, bound_any_iff, bound_iff, cap, cap_iff, least_rises}
use Rattle.theory_most.proofs.ForwardPass.{forward_pass}
use Rattle.theory_most.proofs.Search.{covers_iff, forward_set, whole_enough, whole_passed, whole_sets}

-- ---- the bound in playing order

-- "Every passing list in playing order carries at most so many bases."
pub bound_in_order : (j : Job) → Accepted j → NoneAboveInOrder j (bound j)
unfolding bound
bound_in_order j ok list passes order =
    let ks = bases_in j list in
    let good = list_bases_good j (accepted_sized j ok) list passes order in
    let under = least_under j (chunks j) 0 (omega arith) ks (bases_asc j list) good.tails in
    let few : length ks ≤ chunks j = length_picked_le (λ i. ltb 0 (level j list i)) 0 (chunks j) in
    omega (
      arith,
      list_bases_counted j list passes ok.layers_in.low,
      largest_most (λ c. leb (least j 0 c) (after j 0)) (chunks j) (length ks) few (le→leb (least j 0 (length ks)) (after j 0) (omega (arith, good.whole, under))),
    )

-- So the plan has no more bases than the bound.
pub plan_within_bound : (j : Job) → Accepted j → (p : ℕ → ℕ) → IsPlan j p → count_of j p 0 ≤ bound j
plan_within_bound j ok p is =
    let own = plan_carried j (accepted_sized j ok) p is in
    let passes = keeps_passes j _ (own_list j p) own.0 in
    omega (arith, count_carried j (own_list j p) p own.2 0 ok.layers_in.low, bound_in_order j ok (own_list j p) passes own.1)

-- Where the plan has as many, no passing list in playing order has more.
pub plan_at_bound : (j : Job) → Accepted j → (p : ℕ → ℕ) → IsPlan j p → count_of j p 0 ≡ bound j → NoneAboveInOrder j (count_of j p 0)
plan_at_bound j ok p is e = rw e (bound_in_order j ok)

-- ---- the bound in any order

-- "Every passing list, in whatever order, carries at most so many bases."
pub bound_any_order : (j : Job) → Accepted j → NoneAboveAtAll j (bound_any j)
unfolding bound_any
bound_any_order j ok list passes =
    let ks = bases_in j list in
    let under = any_under j list passes (chunks j) 0 (omega arith) (λ i. ltb 0 (level j list i)) (bases_had j list passes) in
    let few : length ks ≤ chunks j = length_picked_le (λ i. ltb 0 (level j list i)) 0 (chunks j) in
    omega (
      arith,
      list_bases_counted j list passes ok.layers_in.low,
      largest_most (λ c. leb (any_row j (chunks j) c) (after j 0)) (chunks j) (length ks) few (le→leb (any_row j (chunks j) (length ks)) (after j 0) (omega (arith, bases_need j list passes, under))),
    )

pub plan_within_bound_any : (j : Job) → Accepted j → (p : ℕ → ℕ) → IsPlan j p → count_of j p 0 ≤ bound_any j
plan_within_bound_any j ok p is =
    let own = plan_carried j (accepted_sized j ok) p is in
    let passes = keeps_passes j _ (own_list j p) own.0 in
    omega (arith, count_carried j (own_list j p) p own.2 0 ok.layers_in.low, bound_any_order j ok (own_list j p) passes)

-- Where the plan has as many, no passing list at all has more.
pub plan_at_bound_any : (j : Job) → Accepted j → (p : ℕ → ℕ) → count_of j p 0 ≡ bound_any j → NoneAboveAtAll j (count_of j p 0)
plan_at_bound_any j ok p e = rw e (bound_any_order j ok)

-- ---- where the limit holds the programme

-- Both bounds are met, by the plan.
pub plan_meets_bound : (j : Job) → Accepted j → HoldsAll j → (p : ℕ → ℕ) → IsPlan j p → count_of j p 0 ≡ bound j
plan_meets_bound j ok wide p is =
    let c = bound_carried j ok wide in
    omega (arith, plan_within_bound j ok p is, c.counted, most_pictures j ok p is wide c.can_carry.rows c.can_carry.passes)

pub plan_meets_bound_any : (j : Job) → Accepted j → HoldsAll j → (p : ℕ → ℕ) → IsPlan j p → count_of j p 0 ≡ bound_any j
plan_meets_bound_any j ok wide p is =
    let c = bound_any_carried j ok wide in
    omega (arith, plan_within_bound_any j ok p is, c.counted, most_pictures j ok p is wide c.can_carry.rows c.can_carry.passes)

-- ---- where bases have one size

-- Then too both bounds are met, by the plan: no list shows more, and the bounds say so.
equal_picks :
    (j : Job) → Accepted j → EqualBases j → (p : ℕ → ℕ) → IsPlan j p → (i m : ℕ) → i + m ≡ chunks j → 1 ≤ i →
    T (leb 1 (p i)) ↔ Feas (base_size j) (due j) (after j) (held_most j) (i ∷ picked (λ i. leb 1 (p i)) i m)
equal_picks j ok equal p is =
    base_picks j p (base_taken_iff j (accepted_sized j ok) p is.choice (is.elsewhere (λ w. w.1 equal)) ok.layers_in.low)

equal_sizes : (j : Job) → EqualBases j → (i k : ℕ) → 1 ≤ i → i ≤ chunks j → 1 ≤ k → k ≤ chunks j → base_size j i ≡ base_size j k
equal_sizes j equal i k a b c d = equal i k (record { low = a; high = b }) (record { low = c; high = d })

pub equal_meets_bound : (j : Job) → Accepted j → EqualBases j → (p : ℕ → ℕ) → IsPlan j p → count_of j p 0 ≡ bound j
equal_meets_bound j ok equal p is =
    omega (arith, plan_within_bound j ok p is, count_kept j p, equal_bound j (equal_sizes j equal) (λ i. leb 1 (p i)) (equal_picks j ok equal p is))

pub equal_meets_bound_any : (j : Job) → Accepted j → EqualBases j → (p : ℕ → ℕ) → IsPlan j p → count_of j p 0 ≡ bound_any j
equal_meets_bound_any j ok equal p is =
    omega (arith, plan_within_bound_any j ok p is, count_kept j p, equal_bound_any j (equal_sizes j equal) (λ i. leb 1 (p i)) (equal_picks j ok equal p is))

-- ---- the rows, as equations

-- No bases need nothing.
pub least_of_none : (j : Job) (i : ℕ) → least j i 0 ≡ 0
least_of_none = least_zero

-- Behind the last chunk there are none.
pub least_at_end : (j : Job) (i c : ℕ) → chunks j ≤ i → least j i (suc c) ≡ too_much j
least_at_end = least_end

-- Row i from row i + 1 and, where H is at least 1, row i + H.
pub least_at :
    (j : Job) (i c : ℕ) → i < chunks j →
    let with = in_front j (suc i) (least j (suc i) c) in
    let behind = cond (ltb 0 (held_most j)) (least j (i + held_most j) (suc c - held_most j)) with in
    least j i (suc c) ≡ min (least j (suc i) (suc c)) (cond (leb behind (after j (due j (suc i) - 1))) with (too_much j))
least_at = least_next

-- More bases need no less.
pub least_more : (j : Job) (i c d : ℕ) → c ≤ d → least j i c ≤ least j i d
least_more = least_rises

pub any_more : (j : Job) (n c d : ℕ) → c ≤ d → any_row j n c ≤ any_row j n d
any_more = any_rises

-- So the bounds can be scanned for, from either side,
pub bound_is : (j : Job) (c : ℕ) → c ≤ chunks j → (least j 0 c ≤ after j 0) ↔ (c ≤ bound j)
bound_is = bound_iff

pub bound_any_is : (j : Job) (c : ℕ) → c ≤ chunks j → (any_row j (chunks j) c ≤ after j 0) ↔ (c ≤ bound_any j)
bound_any_is = bound_any_iff

-- and row i needs of row i + H one number alone: with chunk i + 1 at most `cap j i` from it on.
pub cap_is :
    (j : Job) (i c : ℕ) → 0 < held_most j → suc c ≤ chunks j →
    (least j (i + held_most j) (suc c - held_most j) ≤ after j (due j (suc i) - 1)) ↔ (suc c ≤ cap j i)
cap_is j i c p h = rw (lt-ltb 0 (held_most j) p) at (cap_iff j i c p h)

-- ---- fetching forward

-- A set can be fetched in playing order exactly if it is in time, chunk by chunk.
pub in_time_decides : (j : Job) → Accepted j → (ks : List ℕ) → Asc 1 (chunks j) ks → InTime j start ks ↔ CanCarry j (bases_of ks)
in_time_decides j ok ks a =
    let t = in_time_iff_fits j ks a in
    let c = can_carry_good j ok ks a in
    (λ u. c.1 (t.0 u), λ u. t.1 (c.0 u))

-- So a set that is found is carried by a passing list in playing order,
pub set_carried : (j : Job) → Accepted j → (ks : List ℕ) → Set j (chunks j) ks → CanCarry j (bases_of ks)
set_carried j ok ks s = (in_time_decides j ok ks s.ascending).0 s.in_time_lem

-- and has no more chunks than any bound. Where it has as many, no list has more.
pub set_within : (j : Job) → Accepted j → (most : ℕ) → NoneAboveInOrder j most → (ks : List ℕ) → Set j (chunks j) ks → length ks ≤ most
set_within j ok most none ks s =
    let c = set_carried j ok ks s in
    let n = count_carried j c.rows (bases_of ks) c.exactly 0 ok.layers_in.low in
    let m : count_of j (bases_of ks) 0 ≡ length ks = count_kept j (bases_of ks) ∙ ap (length {A = ℕ}) (kept_bases_lem j ks s.ascending) in
    omega (arith, n, m, none c.rows c.passes c.in_order)

-- The plan's bases are such a set.
pub plan_set : (j : Job) → Accepted j → (p : ℕ → ℕ) → IsPlan j p → Set j (chunks j) (kept j p)
plan_set j ok p is =
    let a = kept_asc j p in
    let f = is_plan_fits j (accepted_sized j ok) p is in
    let g =
    feas_picked (base_size j) (bytes j p) (due j) (after j) (held_most j) (λ i. leb 1 (p i)) 0 (chunks j)
    (λ i u v t. omega (arith, sum_mono (size j i) 1 (p i) (leb→le 1 (p i) t))) f in
    record { ascending = a; in_time_lem = (in_time_iff_fits j (kept j p) a).1 g }

-- With one chunk more, its state is one step on.
pub set_state : (j : Job) (ks : List ℕ) (k : ℕ) → after_set j (ks ++ (k ∷ [])) ≡ keep j (after_set j ks) k
set_state j ks k = keep_all_append j start ks (k ∷ [])

-- What a state of a set waits for: the release of the q-th next, from q = 0, is 0 as long as fewer
-- than H are kept before it, and then openOf the kept chunk H places before.
pub set_waits :
    (j : Job) (ks : List ℕ) (q : ℕ) → q < held_most j →
    (after_set j ks).waits q ≡ cond (ltb (length ks + q) (held_most j)) 0 (open_of j (get_or ks (length ks + q - held_most j) 0))
set_waits j ks q h = waits_of j ks start q h

-- They rise with q. So a test of covering may go down from the last place and stop at the first
-- release of u that is no higher than what s has used.
pub set_waits_rise : (j : Job) (ks : List ℕ) (i q : ℕ) → Asc 1 i ks → suc q < held_most j → (after_set j ks).waits q ≤ (after_set j ks).waits (suc q)
set_waits_rise = waits_rise

-- ---- covering

-- As a test.
pub covers_is : (j : Job) (g k : ℕ) (u s : State) → T (covers j g k u s) ↔ Covers j g k u s
covers_is = covers_iff

-- Whatever can be kept behind a set can be kept behind one that covers it, but for as many of the
-- next as that one has more.
pub covering :
    (j : Job) → Accepted j → (g i : ℕ) (us ks more : List ℕ) → Set j i us → LeastAfter j i g →
    Covers j g (length us - length ks) (after_set j us) (after_set j ks) → Asc (suc i) (chunks j) more → InTime j (after_set j ks) more →
    InTime j (after_set j us) (drop (length us - length ks) more)
covering j ok g i us ks more s z c a t =
    covers_in_time j ok.span_in.low g more (length us - length ks) i (after_set j us) (after_set j ks) z a (behind_set j ok.span_in.low us i s.ascending s.in_time_lem) c t

-- Without its next chunk, and with it if that is in time, a set is a set.
pub skips_to_set : (j : Job) (i : ℕ) (ks : List ℕ) → Set j i ks → Set j (suc i) ks
skips_to_set = set_skip

pub keeps_to_set :
    (j : Job) (i : ℕ) (ks : List ℕ) → Set j i ks → used_with j (after_set j ks) (suc i) ≤ end_of j (suc i) → Set j (suc i) (ks ++ (suc i ∷ []))
keeps_to_set = set_keep

-- ---- a pass that dropped nothing for want of room

-- Where some passing list in playing order carries at least so many bases, some set of the front
-- begins such a list's bases: later chunks can be kept behind it, so many in all.
pub pass_begins :
    (j : Job) → Accepted j → (target i : ℕ) (front : List (List ℕ)) → Pass j target i front → (list : List Row) → Passes j list →
    PlayingOrder j list → target ≤ layer_count j list 0 → Some j target i front
pass_begins j ok target i front pass list passes order h =
    let ks = bases_in j list in
    let good = list_bases_good j (accepted_sized j ok) list passes order in
    let a = bases_asc j list in
    pass_some j ok.span_in.low target pass (record {
      more = ks;
      later = a;
      in_time_lem = (in_time_iff_fits j ks a).1 good;
      enough = omega (arith, h, list_bases_counted j list passes ok.layers_in.low);
    })

-- So where the front is empty no list carries so many: the bound is lowered.
pub pass_lowers : (j : Job) → Accepted j → (target i : ℕ) → Pass j target i [] → NoneAboveInOrder j (target - 1)
pass_lowers j ok target i pass list passes order =
    ⊎_elim
    (λ t. let s = pass_begins j ok target i [] pass list passes order (leb→le target (layer_count j list 0) t) in absurd (at_row (λ (x : List ℕ). ⊥) s.there_is tt))
    (λ t. omega (arith, nleb→lt target (layer_count j list 0) t))
    (test (leb target (layer_count j list 0)))

-- And where the pass ends with sets that are all smaller.
pub pass_ends :
    (j : Job) → Accepted j → (target : ℕ) (front : List (List ℕ)) → Pass j target (chunks j) front → All (λ ks. length ks < target) front →
    NoneAboveInOrder j (target - 1)
pass_ends j ok target front pass small list passes order =
    ⊎_elim
    (λ t.
    let s = pass_begins j ok target (chunks j) front pass list passes order (leb→le target (layer_count j list 0) t) in
    absurd (omega (arith, at_row (λ (x : List ℕ). length x < target) s.there_is small, none_left s.begins.more s.begins.later, s.begins.enough)))
    (λ t. omega (arith, nleb→lt target (layer_count j list 0) t))
    (test (leb target (layer_count j list 0)))
  where
    none_left : (more : List ℕ) → Asc (suc (chunks j)) (chunks j) more → length more ≤ 0
    none_left [] a = omega arith
    none_left (k ∷ more) a = absurd (omega (arith, a.0, a.1))

-- While the next front is made, sets come and go: what is settled in a front whose sets are all
-- settled in another is settled in that.
pub settled_on :
    (j : Job) (target i : ℕ) (front other : List (List ℕ)) → ((ks : List ℕ) → In ks front → Settled j target i other ks) → (ks : List ℕ) →
    Settled j target i front ks → Settled j target i other ks
settled_on j target i front other f ks s = settled_through j target i front other f s

-- ---- the plan over a set found

-- All that is promised, of the plan over a set that keeps `Most`, whoever found it.
pub shown :
    (j : Job) → Accepted j → (set : List ℕ) (most : ℕ) → Most j set most → (p : ℕ → ℕ) → IsPlanOver j set p →
    Shown j most (bound_any j) p (own_list j p)
shown j ok set most m p over =
    let own = over_carried j ok set m.can_carry p over in
    let n : count_of j p 0 ≡ length set = count_kept j p ∙ ap (length {A = ℕ}) (over_kept j (accepted_sized j ok) ok.layers_in.low set p over m.ascending) in
    let any = bound_any_order j ok (own_list j p) (keeps_passes j _ (own_list j p) own.0) in
    let counted = count_carried j (own_list j p) p own.2 in
    let c₀ = counted 0 ok.layers_in.low in
    let is = plan_exists j ok in
    let least_is = m.no_fewer (plan j) is in
    record {
      passes = own.0;
      in_order = own.1;
      counted = counted;
      no_fewer = λ q isq. omega (arith, n, m.no_fewer q isq);
      none_above = m.none_above;
      none_above_any = bound_any_order j ok;
      best_in_order = λ e. rw e m.none_above;
      best_any = λ e. rw e (bound_any_order j ok);
      met = λ w.
          let b : count_of j (plan j) 0 ≡ bound j = ⊎_elim (λ h. plan_meets_bound j ok h (plan j) is) (λ h. equal_meets_bound j ok h (plan j) is) w in
          let a : count_of j (plan j) 0 ≡ bound_any j = ⊎_elim (λ h. plan_meets_bound_any j ok h (plan j) is) (λ h. equal_meets_bound_any j ok h (plan j) is) w in
          (omega (arith, n, b, least_is, m.within, m.no_higher), omega (arith, n, a, least_is, any, c₀));
    }

-- ---- where H is at most 1

-- Each chunk in turn, kept if it is in time: the largest set, and no passing list in playing order
-- carries more bases.
pub forward_is_set : (j : Job) → Set j (chunks j) (forward j (chunks j))
forward_is_set j = forward_set j (chunks j)

pub forward_most : (j : Job) → Accepted j → held_most j ≤ 1 → NoneAboveInOrder j (length (forward j (chunks j)))
forward_most j ok few =
    let ks = forward j (chunks j) in
    let e : suc (length ks) - 1 ≡ length ks = omega arith in
    subst (NoneAboveInOrder j) e (pass_ends j ok (suc (length ks)) (ks ∷ []) (forward_pass j few (suc (length ks)) (chunks j) (omega arith)) (omega arith, tt))

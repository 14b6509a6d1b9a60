-- Theorems. What Statement says of request 13, proved for any accepted job: sizes may vary by
-- chunk, and the limit may bind. The computed search finds what the walk cut at the budget says,
-- and nothing else is found; there is exactly one plan over the set found; both are good enough; a
-- larger budget never finds fewer, and two steps a chunk find as many as document 01's way.
use Rattle.std.specs.Prelude.{ℕ, suc, ◌+◌, ◌*◌, ◌-◌, ◌≤◌, min, ◌≡◌, refl, Bool, not, List, [], ◌∷◌, ◌↔◌, length, take, T, leb, ltb}
use Rattle.std.proofs.Common.{sym, ap, ◌∙◌, subst, arith, length-take, take_all, leb→le, le→leb}
use Rattle.std.proofs.Math.Logic.{⊎_elim}
use Rattle.theory_basics.specs.lemmas.Tests.{leb_iff, not_T_false, same_test, test}
use Rattle.fetch.specs.Rows.{Row, layer_count}
use Rattle.job.specs.Job.{Accepted, EqualChunks, Job, chunks, layers}
use Rattle.job.specs.Uneven.{equal_chunks_bases}
use Rattle.theory_plan.specs.Own.{own_list}
use Rattle.theory_plan.proofs.Pictures.{none_carries_more}
use Rattle.theory_plan.specs.Plan.{kept}
use Rattle.theory_plan.specs.Statement.{CanCarry, CarriesExactly, Same, SettledByTrials, count_of, counts_of, marks_of}
use Rattle.theory_plan.proofs.Theorems.{CarriesWith, best, equal_plan_iff, own_carries, same_counts, same_marks}
use Rattle.theory_plan.specs.lemmas.Base.{bases_in}
use Rattle.theory_plan.specs.lemmas.Choice.{can_carry_iff_fits, fits_can_carry}
use Rattle.theory_plan.specs.lemmas.Kept.{has_picked}
use Rattle.theory_plan.specs.lemmas.Level.{count_carried, level}
use Rattle.theory_plan.specs.lemmas.Unique.{own_list_cong}
use Rattle.theory_plan.specs.lemmas.Words.{accepted_sized}
use Rattle.theory_search.specs.Statement.{Chunks, FirstOfMost, Found, GoodEnough, IsFound, IsPlanOver, NoneAbove, Step, Tells, bases_of, most_without_limit, sets_in, sets_met, whole_walk}
use Rattle.theory_search.specs.Search.{fitting, found, found_by, plan_over, search, start}
use Rattle.theory_search.proofs.First.{first_of_most, first_unique}
use Rattle.theory_search.specs.lemmas.Fitting.{Good, bases_choice, can_carry_good, count_kept, fitting_good, good_nil, kept_bases_lem, list_bases_counted, list_bases_good, told_good}
use Rattle.theory_search.proofs.Greedy.{greedy_kept}
use Rattle.theory_search.proofs.Meeting.{Fit, OfSet, all_take, best_longer, best_of_lem, best_stays, best_in, greedy_first, greedy_reached, met_fit, onto_picked, walk_cong, walk_reaches}
use Rattle.theory_search.specs.lemmas.Over.{over_fits, over_is, over_kept, overs_agree}
use Rattle.theory_search.proofs.Walk.{best_of, cut_at, search_cuts}

-- ---- the walk

-- There is a test that says which sets some passing list in playing order allows,
pub fits_tells : (j : Job) → Accepted j → Tells j (fitting j)
fits_tells j ok ks a =
    let c = can_carry_good j ok ks a in
    let t = fitting_good j ks a in
    (λ u. c.1 (t.0 u), λ s. t.1 (c.0 s))

-- and all such tests make one walk.
pub one_walk : (j : Job) (a b : List ℕ → Bool) → Tells j a → Tells j b → whole_walk j a ≡ whole_walk j b
one_walk j a b x y =
    walk_cong (chunks j) a b (λ ks s. same_test (a ks) (b ks) (λ t. (y ks s).1 ((x ks s).0 t)) (λ t. (x ks s).1 ((y ks s).0 t))) (chunks j) [] (omega arith) tt

-- ---- the recursion finds what the walk cut at the budget says

pub found_is_found : (j : Job) → Accepted j → (budget : ℕ) → IsFound j budget (found j budget)
found_is_found j ok budget =
    let w : List Step = whole_walk j (fitting j) in
    subst (IsFound j budget) (ap (found_by j budget) (sym (search_cuts (fitting j) (chunks j) budget)))
    (record {
      allowed = fitting j;
      tells = fits_tells j ok;
      best = first_of_most [] (sets_in (take budget w));
      taken = omega (arith, length-take budget w);
      ends = leb_iff (length w) budget;
      short = refl;
    })

-- and nothing else is found.
pub found_unique : (j : Job) (budget : ℕ) (f g : Found) → IsFound j budget f → IsFound j budget g → f ≡ g
found_unique j budget f g x y =
    let w = one_walk j x.allowed y.allowed x.tells y.tells in
    let k : f.kept ≡ g.kept = first_unique (sets_met (take budget (whole_walk j y.allowed))) f.kept g.kept (subst (λ (ss : List Step). FirstOfMost (sets_met (take budget ss)) f.kept) w x.best) y.best in
    let n : length (whole_walk j x.allowed) ≡ length (whole_walk j y.allowed) = ap length w in
    let e : f.ended ≡ g.ended = same_test f.ended g.ended (λ t. y.ends.1 (omega (arith, x.ends.0 t))) (λ t. x.ends.1 (omega (arith, y.ends.0 t))) in
    let h : f.shortfall ≡ g.shortfall = x.short ∙ rw (k, e) (sym y.short) in
    same_found k (x.taken ∙ rw w (sym y.taken)) e h
  where
    same_found :
        {k l : List ℕ} {s t : ℕ} {a b : Bool} {x y : ℕ} → k ≡ l → s ≡ t → a ≡ b → x ≡ y →
        ◌≡◌ {A = Found} (record { kept = k; steps = s; ended = a; shortfall = x }) (record { kept = l; steps = t; ended = b; shortfall = y })
    same_found p q r u = cc

-- ---- what is found

module _ (j : Job) (ok : Accepted j) (budget : ℕ) (f : Found) (is : IsFound j budget f) where
  good : (ks : List ℕ) → Chunks j ks → T (is.allowed ks) ↔ Good j ks
  good = told_good j ok is.allowed is.tells

  kept_is : f.kept ≡ best_in [] (take budget (whole_walk j is.allowed))
  kept_is = let sets = sets_in (take budget (whole_walk j is.allowed)) in first_unique ([] ∷ sets) f.kept (best_in [] (take budget (whole_walk j is.allowed))) is.best (first_of_most [] sets)

  -- The set found can be carried.
  pub found_carried : Chunks j f.kept × CanCarry j (bases_of f.kept)
  found_carried =
      let w : List Step = whole_walk j is.allowed in
      let fit = best_of_lem (Fit j is.allowed good) [] (take budget w) (tt, good_nil j) (all_take (OfSet (Fit j is.allowed good)) budget w (met_fit j is.allowed good (chunks j) [] (omega arith) tt (good_nil j))) in
      subst (λ (ks : List ℕ). Chunks j ks × CanCarry j (bases_of ks)) (sym kept_is) (fit.0, (can_carry_good j ok (best_in [] (take budget w)) fit.0).1 fit.1)

  -- If the walk ended, no passing list in playing order carries more bases.
  pub ended_most : T f.ended → NoneAbove j (length f.kept)
  ended_most e rows passes o =
      let w : List Step = whole_walk j is.allowed in
      let q : ℕ → Bool = λ i. ltb 0 (level j rows i) in
      let c : chunks j + 0 ≡ chunks j = omega arith in
      let p = rw c at (onto_picked q (chunks j) 0) in
      let r = walk_reaches j is.allowed good q (chunks j) [] [] (omega arith) tt (omega arith) (subst (Good j) (sym p) (list_bases_good j (accepted_sized j ok) rows passes o)) in
      let k : f.kept ≡ best_in [] w = kept_is ∙ ap (best_in []) (take_all budget w (is.ends.0 e)) in
      omega (arith, r, ap length k, ap length p, list_bases_counted j rows passes ok.layers_in.low)

  -- "the steps of that fixed walk actually taken": all of them, or as many as the budget.
  pub steps_are : f.steps ≡ min budget (length (whole_walk j is.allowed))
  steps_are = is.taken ∙ length-take budget (whole_walk j is.allowed)

  pub steps_within : f.steps ≤ budget
  steps_within = omega (arith, steps_are)

  -- A list that carries the set carries as many bases as it has chunks.
  kept_count_lem : (rows : List Row) → CarriesExactly j rows (bases_of f.kept) → layer_count j rows 0 ≡ length f.kept
  kept_count_lem rows c =
      count_carried j rows (bases_of f.kept) c 0 ok.layers_in.low ∙ count_kept j (bases_of f.kept) ∙ ap length (kept_bases_lem j f.kept found_carried.0)

  -- The set found has no more chunks than request 9 keeps without the limit.
  pub kept_under : length f.kept ≤ most_without_limit j
  unfolding most_without_limit
  kept_under =
      let c = found_carried.1 in
      omega (arith, none_carries_more j ok c.rows c.passes, kept_count_lem c.rows c.exactly)

  pub cut_short : T (not f.ended) → length f.kept + f.shortfall ≡ most_without_limit j
  cut_short t =
      let e : f.shortfall ≡ most_without_limit j - length f.kept = is.short ∙ rw (not_T_false f.ended t) in
      omega (arith, e, kept_under)

  -- "and no passing list in playing order is better by more".
  pub better_by_at_most : NoneAbove j (length f.kept + f.shortfall)
  unfolding most_without_limit
  better_by_at_most rows passes o =
      ⊎_elim
      (λ t. omega (arith, ended_most t rows passes o))
      (λ t. omega (arith, cut_short t, none_carries_more j ok rows passes))
      (test f.ended)

  -- With two steps a chunk at least as many bases as in document 01's way are found.
  pub as_document_01 : (p : ℕ → ℕ) → SettledByTrials j p → 2 * chunks j ≤ budget → count_of j p 0 ≤ length f.kept
  as_document_01 p dec h =
      omega (
        arith,
        ap length kept_is,
        greedy_reached is.allowed (chunks j) [] [] budget h (omega arith),
        ap length (greedy_kept j (accepted_sized j ok) ok.layers_in.low p dec is.allowed good),
        count_kept j p,
      )

  -- For equal chunks the set found with two steps a chunk is document 01's.
  pub equal_document_01 : EqualChunks j → (p : ℕ → ℕ) → SettledByTrials j p → 2 * chunks j ≤ budget → f.kept ≡ kept j p
  equal_document_01 equal p dec h =
      let g = greedy_first is.allowed (chunks j) [] budget h in
      let e : f.kept ≡ best_of (kept j p) g.0 = kept_is ∙ g.1 ∙ ap (λ (b : List ℕ). best_of b g.0) (greedy_kept j (accepted_sized j ok) ok.layers_in.low p dec is.allowed good) in
      let c = found_carried.1 in
      let plan = (equal_plan_iff j (equal_chunks_bases j ok.layers_in.low equal) p).1 dec in
      e ∙ best_stays (kept j p) g.0
      (omega (
        arith,
        ap length e,
        kept_count_lem c.rows c.exactly,
        (best j ok equal p plan).most_bases c.rows c.passes,
        count_kept j p,
      ))

-- "A larger budget never finds fewer."
pub larger_budget : (j : Job) (m n : ℕ) (f g : Found) → IsFound j m f → IsFound j n g → m ≤ n → length f.kept ≤ length g.kept
larger_budget j m n f g x y h =
    let w : List Step = whole_walk j x.allowed in
    let e = one_walk j x.allowed y.allowed x.tells y.tells in
    let kept : (b : ℕ) (r : Found) → FirstOfMost (sets_met (take b w)) r.kept → r.kept ≡ best_in [] (take b w) = λ b r z. first_unique (sets_met (take b w)) r.kept (best_in [] (take b w)) z (first_of_most [] (sets_in (take b w))) in
    let u = kept m f x.best in
    let v = kept n g (subst (λ (ss : List Step). FirstOfMost (sets_met (take n ss)) g.kept) (sym e) y.best) in
    omega (arith, ap length u, ap length v, best_longer [] w m n h)

-- ---- the plan over the set found

-- There is one over any set,
pub over_exists : (j : Job) → Accepted j → (ks : List ℕ) → IsPlanOver j ks (plan_over j ks)
over_exists j ok = over_is j (accepted_sized j ok) ok.layers_in.low

-- and only one: the layers of every chunk, and so marks, counts and own list.
pub over_unique : (j : Job) (ks : List ℕ) (p q : ℕ → ℕ) → IsPlanOver j ks p → IsPlanOver j ks q → Same j p q
over_unique = overs_agree

pub over_marks_unique : (j : Job) (ks : List ℕ) (p q : ℕ → ℕ) → IsPlanOver j ks p → IsPlanOver j ks q → marks_of j p ≡ marks_of j q
over_marks_unique j ks p q dp dq = same_marks j p q (overs_agree j ks p q dp dq)

pub over_counts_unique : (j : Job) (ks : List ℕ) (p q : ℕ → ℕ) → IsPlanOver j ks p → IsPlanOver j ks q → counts_of j p ≡ counts_of j q
over_counts_unique j ks p q dp dq = same_counts j p q (overs_agree j ks p q dp dq)

pub over_rows_unique : (j : Job) (ks : List ℕ) (p q : ℕ → ℕ) → IsPlanOver j ks p → IsPlanOver j ks q → own_list j p ≡ own_list j q
over_rows_unique j ks p q dp dq = own_list_cong j p q (overs_agree j ks p q dp dq)

-- Where the set can be carried, the own list of its plan carries it.
pub over_carried :
    (j : Job) → Accepted j → (ks : List ℕ) → CanCarry j (bases_of ks) → (p : ℕ → ℕ) → IsPlanOver j ks p → CarriesWith j p (own_list j p)
over_carried j ok ks c p dp =
    let sized = accepted_sized j ok in
    let one = ok.layers_in.low in
    let f = (can_carry_iff_fits j sized (bases_of ks) (bases_choice j ks one)).0 c in
    own_carries j sized p dp.choice (fits_can_carry j sized p dp.choice (over_fits j sized one ks p dp f))

-- All that is said, of what is found and the plan over it.
pub good_enough :
    (j : Job) → Accepted j → (budget : ℕ) (f : Found) → IsFound j budget f → (p : ℕ → ℕ) → IsPlanOver j f.kept p →
    GoodEnough j budget f p (own_list j p)
good_enough j ok budget f is p dp =
    let set = found_carried j ok budget f is in
    let own = over_carried j ok f.kept set.1 p dp in
    record {
      passes = own.0;
      in_order = own.1;
      counted = count_carried j (own_list j p) p own.2;
      bases = count_kept j p ∙ ap length (over_kept j (accepted_sized j ok) ok.layers_in.low f.kept p dp set.0);
      within = steps_within j ok budget f is;
      short = better_by_at_most j ok budget f is;
      ended_most = ended_most j ok budget f is;
      cut_short = cut_short j ok budget f is;
    }

-- For equal chunks and two steps a chunk, document 01's plan is the plan over the set found, and so
-- the one handed over.
pub equal_plan :
    (j : Job) → Accepted j → EqualChunks j → (budget : ℕ) (f : Found) → IsFound j budget f → 2 * chunks j ≤ budget → (p : ℕ → ℕ) →
    SettledByTrials j p → IsPlanOver j f.kept p
equal_plan j ok equal budget f is h p dec =
    rw (equal_document_01 j ok budget f is equal p dec h)
    (record {
      choice = dec.choice;
      based = λ i u v.
          let e = has_picked (λ k. leb 1 (p k)) 0 (chunks j) i u (omega arith) in
          (λ l. rw e (le→leb 1 (p i) l), λ t. leb→le 1 (p i) (rw e at t));
      upper = λ n. dec.decided (suc n);
    })

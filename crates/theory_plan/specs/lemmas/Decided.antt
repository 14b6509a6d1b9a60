-- Lemmas. The trials of Trials.antt decide exactly the plan: the stack keeps its chunks, and the
-- passes take its layers, for any sizes. Assumes nothing. Section 4 of the argument.
use Rattle.std.specs.Prelude.{ℕ, zero, suc, ◌-◌, ◌≤◌, ◌<◌, max, min, ◌≡◌, Bool, cond, List, map, ◌↔◌, T, leb, eqb}
use Rattle.std.proofs.Common.{sym, ap, ◌∙◌, subst, arith, leb→le, le→leb}
use Rattle.std.proofs.Math.Path.{fun_ext}
use Rattle.std.proofs.lemmas.Simd.{map-map}
use Rattle.std.proofs.Math.Dec.{not_T}
use Rattle.theory_basics.specs.Lists.{has}
use Rattle.theory_basics.specs.lemmas.Ranges.{sum_mono}
use Rattle.theory_basics.specs.lemmas.Tests.{T_true, not_T_false, same_test}
use Rattle.theory_basics.specs.lemmas.Lists.{map_cong}
use Rattle.job.specs.Job.{Job, chunks, due, held_most, layers, size}
use Rattle.theory_plan.specs.lemmas.Choice.{Fits}
use Rattle.theory_plan.specs.Bases.{Asc, base_size, forecast_by, moore_hodgson}
use Rattle.theory_plan.specs.Plan.{by_moore_hodgson, bytes, kept, plan, plan_by_trials, tried, after}
use Rattle.theory_plan.specs.lemmas.Feasible.{need_of}
use Rattle.theory_plan.specs.lemmas.Kept.{picked_cong, picked_each, picked_has}
use Rattle.theory_plan.specs.lemmas.Need.{Feas, feas_mono}
use Rattle.theory_plan.specs.lemmas.Plan.{TakesFitting, by_moore_hodgson_iff, either_way, plan_bases_lem, plan_choice, plan_fits, plan_takes, plan_elsewhere, tried_kept, trials_choice, trials_fit, trials_take}
use Rattle.theory_plan.specs.Statement.{BasesMooreHodgson, Choice}
use Rattle.theory_plan.specs.lemmas.Trials.{Stack, Kept, rooms, Tried, back, bytes_kept, kept_at, on_layer, on_layers, based, stacked, kept_bases, decided_on, decided}
use Rattle.theory_plan.specs.lemmas.KeepOrDrop.{kept_asc}
use Rattle.theory_plan.specs.lemmas.Words.{layer_of}
use Rattle.theory_plan.specs.lemmas.Queue.{releases}
use Rattle.theory_plan.specs.lemmas.LayerPass.{scan}
use Rattle.theory_plan.specs.lemmas.Linear.{Roomy, bases_are, feas_roomy}
use Rattle.theory_plan.specs.lemmas.Sweep.{tried_on}

-- ---- a layer above the base

module _ (j : Job) (n : ℕ) (up : 1 ≤ n) (few : n < 8) (p : ℕ → ℕ) (accepts : (i : ℕ) → 1 ≤ i → i ≤ chunks j → (n < p i) ↔ ((n ≤ p i) × Fits j (tried p n i))) where
  abbrev kept_at_lem : ℕ → Bool
  kept_at_lem i = leb 1 (p i)

  -- What is carried of the layers below n, and of the layers up to n.
  abbrev lower : ℕ → ℕ
  lower k = min (p k) n

  abbrev level : ℕ → ℕ
  level k = min (p k) (suc n)

  abbrev upto : ℕ → ℕ
  upto k = bytes j level k

  abbrev result : List ℕ → Tried
  result ks = record { need = need_of upto (due j) (after j) ks; kept = map (kept_at j level) ks }

  abbrev run_of : (ℕ → ℕ) → List ℕ → List ℕ → Tried
  run_of f ks rs = back (size j) (after j) n (rooms (after j) (after j 0) (map (bytes j f) ks) rs) (map (kept_at j f) ks)

  -- The pass takes the layer where the plan does.
  pub layer_is : Fits j p → run_of lower (kept j p) (releases (due j) (held_most j) (kept j p)) ≡ result (kept j p)
  layer_is fp =
      let ks = kept j p in
      let rs = releases (due j) (held_most j) ks in
      let t : (w : ℕ → ℕ) → Feas w (due j) (after j) (held_most j) ks ↔ Roomy w (due j) (after j) (after j 0) ks rs = λ w. feas_roomy w (due j) (after j) (held_most j) ks in
      let none : ℕ → ℕ = λ k. 0 in
      let low : (λ k. max 0 (lower k)) ≡ lower = fun_ext (λ k. omega arith) in
      let high : (λ k. max 0 (level k)) ≡ level = fun_ext (λ k. omega arith) in
      let same : (i : ℕ) → tried_on none p n i ≡ tried p n i = λ i. fun_ext (λ k. ap (cond (eqb k i) (suc n)) (omega arith)) in
      let g = scan (chunks j) (due j) (after j) (size j) none p n up few kept_at_lem (λ i u v. omega arith) (λ i u v h. absurd (omega arith)) (λ i. Fits j (tried p n i)) (λ i u v mem lacks. accepts i u v) (chunks j) 0 (after j 0) rs (omega arith)
      (record {
        trials = λ i u v mem h lacks.
            subst (λ (f : ℕ → ℕ). Fits j (tried p n i) ↔ Roomy (bytes j f) (due j) (after j) (after j 0) ks rs) (sym (same i)) (rw (tried_kept j n p i up h) (t (bytes j (tried p n i))));
        plan_in_lem =
            subst (λ (f : ℕ → ℕ). Roomy (bytes j f) (due j) (after j) (after j 0) ks rs) (sym high)
            ((t upto).0 (feas_mono upto (bytes j p) (due j) (after j) (held_most j) ks (picked_each kept_at_lem (λ k. upto k ≤ bytes j p k) 0 (chunks j) (λ k u v h. sum_mono (size j k) (min (p k) (suc n)) (p k) (omega arith))) fp));
      }) in
      subst (λ (f : ℕ → ℕ). run_of f ks rs ≡ result ks) low
      (subst (λ (f : ℕ → ℕ). run_of (λ k. max 0 (lower k)) ks rs ≡ record { need = need_of (bytes j f) (due j) (after j) ks; kept = map (kept_at j f) ks }) high g)

-- ---- the whole plan

-- On the kept chunks of a choice that fits, whose upper layers are taken as document 01 says, the
-- passes take its layers.
module _ (j : Job) (p : ℕ → ℕ) (c : Choice j p) (f : Fits j p) (takes : (n : ℕ) → TakesFitting j p (suc n)) where
  -- What it carries of the layers below n.
  abbrev below_layer : ℕ → ℕ → ℕ
  below_layer n k = min (p k) n

  same_levels : (a b : ℕ → ℕ) → ((i : ℕ) → 1 ≤ i → i ≤ chunks j → 1 ≤ p i → a i ≡ b i) → map (kept_at j a) (kept j p) ≡ map (kept_at j b) (kept j p)
  same_levels a b e =
      map_cong (kept_at j a) (kept_at j b) (kept j p)
      (picked_each (λ i. leb 1 (p i)) (λ k. kept_at j a k ≡ kept_at j b k) 0 (chunks j)
      (λ i u v t. ap (λ (m : ℕ). kept_at j (λ k. m) i) (e i u (omega arith) (leb→le 1 (p i) t))))

  abbrev releases_of : List ℕ
  releases_of = releases (due j) (held_most j) (kept j p)

  -- A pass over the layers below n takes layer n.
  pass_is :
      (n : ℕ) → suc n < layers j → layers j ≤ 8 →
      on_layer (size j) (after j) (after j 0) releases_of (suc n) (map (kept_at j (below_layer (suc n))) (kept j p)) ≡ map (kept_at j (below_layer (suc (suc n)))) (kept j p)
  pass_is n h few =
      let here : List Kept = map (kept_at j (below_layer (suc n))) (kept j p) in
      ap (λ (ws : List ℕ). (back (size j) (after j) (suc n) (rooms (after j) (after j 0) ws releases_of) here).kept) (map-map bytes_kept (kept_at j (below_layer (suc n))) (kept j p))
      ∙ ap (λ (o : Tried). o.kept) (layer_is j (suc n) (omega arith) (omega arith) p (λ i u v. takes n i (layer_of j i (suc n) u v h)) f)

  passes_are :
      (n : ℕ) → n < layers j → layers j ≤ 8 →
      on_layers (size j) (after j) (after j 0) releases_of n (based j (kept j p)) ≡ map (kept_at j (below_layer (suc n))) (kept j p)
  passes_are zero h few = same_levels (λ k. 1) (below_layer 1) (λ i u v t. omega arith)
  passes_are (suc n) h few = ap (on_layer (size j) (after j) (after j 0) releases_of (suc n)) (passes_are n (omega arith) few) ∙ pass_is n h few

  pub decided_on_is : 0 < layers j → layers j ≤ 8 → decided_on j (kept j p) ≡ map (kept_at j p) (kept j p)
  decided_on_is some few =
      passes_are (layers j - 1) (omega arith) few ∙ same_levels (below_layer (suc (layers j - 1))) p (λ i u v t. omega (arith, c i u v))

-- ---- document 01's way by itself

-- The stack keeps its chunks,
pub stacked_kept : (j : Job) → 0 < layers j → stacked j ≡ kept j (plan_by_trials j)
stacked_kept j h =
    let p = plan_by_trials j in
    let a : (i : ℕ) → 1 ≤ i → i ≤ chunks j → (0 < p i) ↔ Fits j (tried p 0 i) = λ i u v. let t = trials_take j 0 i (layer_of j i 0 u v h) in (λ l. (t.0 l).1, λ f. t.1 (omega arith, f)) in
    ap (λ (s : Stack). s.chunks) (bases_are j p a 0 (chunks j) (omega arith))

-- and the passes take its layers.
pub trials_decided : (j : Job) → 0 < layers j → layers j ≤ 8 → decided_on j (stacked j) ≡ map (kept_at j (plan_by_trials j)) (kept j (plan_by_trials j))
trials_decided j some few =
    ap (decided_on j) (stacked_kept j some)
    ∙ decided_on_is j (plan_by_trials j) (trials_choice j) (trials_fit j) (λ n. trials_take j (suc n)) some few

-- ---- the plan

-- The kept chunks of a choice whose bases are those of a set.
pub kept_of_set :
    (j : Job) (p : ℕ → ℕ) (ks : List ℕ) → Asc 1 (chunks j) ks → ((i : ℕ) → 1 ≤ i → i ≤ chunks j → (0 < p i) ↔ T (has ks i)) → kept j p ≡ ks
kept_of_set j p ks a b =
    picked_cong (λ i. leb 1 (p i)) (has ks) 0 (chunks j) (λ i u v.
    let k = b i u (omega arith) in
    same_test (leb 1 (p i)) (has ks i) (λ t. k.0 (leb→le 1 (p i) t)) (λ t. le→leb 1 (p i) (k.1 t)))
    ∙ picked_has 0 (chunks j) (chunks j) ks (omega arith) a

kept_is_moore_hodgson : (j : Job) (p : ℕ → ℕ) → BasesMooreHodgson j p → moore_hodgson j ≡ kept j p
kept_is_moore_hodgson j p b = sym (kept_of_set j p (moore_hodgson j) (kept_asc (base_size j) (forecast_by j) (chunks j)) b)

-- The onward or the stack keeps the plan's chunks,
pub bases_kept : (j : Job) → 0 < layers j → kept_bases j ≡ kept j (plan j)
bases_kept j h =
    either_way j (kept_bases j ≡ kept j (plan j))
    (λ w. rw (T_true (by_moore_hodgson j) ((by_moore_hodgson_iff j).1 w)) (kept_is_moore_hodgson j (plan j) (plan_bases_lem j h w)))
    (λ n. rw (not_T_false (by_moore_hodgson j) (not_T (by_moore_hodgson j) (λ t. n ((by_moore_hodgson_iff j).0 t))), plan_elsewhere j n) (stacked_kept j h))

-- and the passes decide the plan: its chunks, each with the plan's layers.
pub decided_is : (j : Job) → 0 < layers j → layers j ≤ 8 → decided j ≡ map (kept_at j (plan j)) (kept j (plan j))
decided_is j some few = ap (decided_on j) (bases_kept j some) ∙ decided_on_is j (plan j) (plan_choice j) (plan_fits j) (plan_takes j) some few

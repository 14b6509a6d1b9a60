-- Lemmas. The plan made afresh, computed: the trials in document 01's order, from the layers whole
-- before p on, each decided by whether the choice fits; that it is one in the sense of Statement,
-- and the only one.
use Rattle.std.specs.Prelude.{ℕ, zero, suc, ◌+◌, ◌-◌, ◌≤◌, ◌<◌, max, ◌≡◌, refl, Bool, true, false, not, cond, ◌&&◌, ◌||◌, List, [], ◌∷◌, ◌++◌, ◌⊎◌, ◌↔◌, T, leb, ltb, eqb}
use Rattle.std.proofs.Common.{sym, ap, ◌∙◌, subst, append-nil, inl, inr, ⊎_elim, arith, leb→le, ltb→lt, nltb→le, eqb→eq, le→leb, lt→ltb}
use Rattle.theory_basics.specs.Sums.{sum}
use Rattle.theory_basics.specs.Tests.{All, all, all_to, In}
use Rattle.theory_basics.specs.lemmas.Tests.{all_iff, all_to_iff, and_T, at_row, by_cond, if_iff, leb_iff, ltb_iff, T_and, T_or_iff, test}
use Rattle.job.specs.Job.{chunks, due, held_most, Job, Layer, layers, size}
use Rattle.fetch.specs.Rows.{begun, bytes_of_layer, Carried, Row}
use Rattle.fetch.specs.Rules.{RowInRange, PlayingOrder}
use Rattle.fetch.specs.RulesFrom.{PassesFrom}
use Rattle.fetch.specs.lemmas.Order.{begun_order}
use Rattle.fetch.specs.lemmas.Rows.{some_row}
use Rattle.theory_plan.specs.lemmas.Feasible.{feas}
use Rattle.theory_plan.specs.Statement.{Choice, Same}
use Rattle.theory_plan.specs.lemmas.Kept.{feas_picked, picked_cong}
use Rattle.theory_plan.specs.lemmas.Level.{level, level_choice, level_iff}
use Rattle.theory_plan.specs.lemmas.Need.{Feas, feas_iff}
use Rattle.theory_plan.specs.lemmas.Words.{carries, layer_of, Sized}
use Rattle.theory_replan.specs.Plan.{after_from, busy, busy_chunks, bytes_left, fits_from, open_to, plan_to, replan, settled_from, tried_from}
use Rattle.theory_replan.specs.Statement.{Acceptable, CanCarryFrom, IsReplan}
use Rattle.theory_replan.specs.lemmas.Decision.{can_carry_from_iff, fits_can_carry_from}
use Rattle.theory_replan.specs.lemmas.Fits.{can_carry_fits_from, FitsFrom, InFront}
use Rattle.theory_replan.specs.lemmas.Tried.{settles_tried_from_iff}
use Rattle.theory_replan.specs.lemmas.Settle.{plan_holds, Settles, settles_computed, settles_once}

-- ---- the test

pub fits_from_iff : (j : Job) (p : ℕ) (fetched : List Row) (lv : ℕ → ℕ) → T (fits_from j p fetched lv) ↔ FitsFrom j p fetched lv
unfolding fits_from
fits_from_iff j p fetched lv =
    let a : ℕ → Bool = λ k. leb (level j fetched k) (lv k) in
    let b : ℕ → Bool = λ i. not (leb 1 (lv i)) || (carries fetched i || all (λ x. ltb x.chunk i) fetched) in
    let c = feas (bytes_left j fetched lv) (due j) (after_from j p) (held_most j) (busy_chunks j fetched lv) in
    let f = feas_iff (bytes_left j fetched lv) (due j) (after_from j p) (held_most j) (busy_chunks j fetched lv) in
    let behind : (i : ℕ) → T (all (λ x. ltb x.chunk i) fetched) ↔ All (λ x. x.chunk < i) fetched = λ i. all_iff (λ x. ltb x.chunk i) (λ x. x.chunk < i) (λ x. ltb_iff x.chunk i) fetched in
    let front : (i : ℕ) → T (b i) ↔ (1 ≤ lv i → T (carries fetched i) ⊎ All (λ x. x.chunk < i) fetched) =
    λ i. (
      λ t u. ⊎_elim (λ x. inl x) (λ x. inr ((behind i).0 x)) ((T_or_iff (carries fetched i) (all (λ x. ltb x.chunk i) fetched)).0 ((if_iff (leb 1 (lv i)) _).0 t (le→leb 1 (lv i) u))),
      λ g. (if_iff (leb 1 (lv i)) _).1 (λ t. (T_or_iff (carries fetched i) (all (λ x. ltb x.chunk i) fetched)).1 (⊎_elim (λ x. inl x) (λ x. inr ((behind i).1 x)) (g (leb→le 1 (lv i) t)))),
    ) in (
      λ t.
          let u = and_T (all_to (chunks j) a) (all_to (chunks j) b && c) t in
          let v = and_T (all_to (chunks j) b) c u.1 in
          record {
            whole = λ k g h. leb→le (level j fetched k) (lv k) ((all_to_iff (chunks j) a).0 u.0 k g h);
            in_front_lem = λ i g h. (front i).0 ((all_to_iff (chunks j) b).0 v.0 i g h);
            feas = f.0 v.1;
          },
      λ x.
          T_and (all_to (chunks j) a) (all_to (chunks j) b && c) ((all_to_iff (chunks j) a).1 (λ k g h. le→leb (level j fetched k) (lv k) (x.whole k g h)))
          (T_and (all_to (chunks j) b) c ((all_to_iff (chunks j) b).1 (λ i g h. (front i).1 (x.in_front_lem i g h))) (f.1 x.feas)),
    )

-- Whether a choice fits depends on its values at the chunks alone.
pub fits_from_cong : (j : Job) (p : ℕ) (fetched : List Row) (a b : ℕ → ℕ) → Same j a b → FitsFrom j p fetched a → FitsFrom j p fetched b
fits_from_cong j p fetched a b e f =
    let s = picked_cong (busy fetched a) (busy fetched b) 0 (chunks j) (λ i u v. ap (λ (n : ℕ). carries fetched i || leb 1 n) (e i u (omega arith))) in
    record {
      whole = λ k g h. omega (arith, f.whole k g h, e k g h);
      in_front_lem = λ i g h l. f.in_front_lem i g h (omega (arith, e i g h));
      feas =
          feas_picked (bytes_left j fetched b) (bytes_left j fetched a) (due j) (after_from j p) (held_most j) (busy fetched b) 0 (chunks j)
          (λ i u v t. omega (arith, ap (sum (λ n. size j i n - bytes_of_layer fetched i n)) (e i u (omega arith))))
          (subst (λ (ks : List ℕ). Feas (bytes_left j fetched a) (due j) (after_from j p) (held_most j) ks) s f.feas);
    }

-- ---- the rows fetched carry the layers whole in them

module _ (j : Job) (sized : Sized j) (p : ℕ) (fetched : List Row) (ok : Acceptable j p fetched) where
  fetched_passes : PassesFrom j p fetched
  fetched_passes =
      record {
        in_range_lem = ok.in_range_lem;
        whole = λ i n r.
            ⊎_elim
            (λ t. inr (inr (record { short = ltb→lt (bytes_of_layer fetched i n) (size j i n) t; before = λ x m c l. at_row (λ x. x.slot < p) m ok.before })))
            (λ t. inr (inl (omega (arith, nltb→le (bytes_of_layer fetched i n) (size j i n) t, ok.no_more_lem i n r))))
            (test (ltb (bytes_of_layer fetched i n) (size j i n)));
        lower = ok.lower;
        within = ok.within;
        on_time_lem = ok.on_time_lem;
        few_held = ok.few_held;
        marks_say = refl;
      }

  fetched_in_order : PlayingOrder j fetched
  fetched_in_order =
      begun_order j fetched (λ x m i g h c.
      let z = at_row (RowInRange j) m ok.in_range_lem in
      let some = sized i 0 (layer_of j i 0 g (omega (arith, z.chunk_high)) (omega (arith, z.layer_in))) in
      let y = some_row (λ y. eqb y.chunk i && eqb y.layer 0) fetched (omega (arith, c)) in
      let e : y.row.chunk ≡ i = eqb→eq _ _ (and_T (eqb y.row.chunk i) (eqb y.row.layer 0) y.passes).0 in
      rw e at (ok.in_turn_lem x y.row m y.listed (omega arith)))

  pub fetched_can_carry : CanCarryFrom j p fetched (level j fetched)
  fetched_can_carry =
      let e = sym (append-nil fetched) in
      record {
        more = [];
        later = tt;
        passes = subst (PassesFrom j p) e fetched_passes;
        in_order = subst (PlayingOrder j) e fetched_in_order;
        exactly = λ i n r. subst (λ (l : List Row). Carried j l i n ↔ (n < level j fetched i)) e (level_iff j fetched ok.lower i n r);
      }

  pub fetched_fits : FitsFrom j p fetched (level j fetched)
  fetched_fits = can_carry_fits_from j sized p fetched ok (level j fetched) (level_choice j fetched) fetched_can_carry

-- ---- computed

-- The same with what the statement asks.
abbrev Fit : Job → ℕ → List Row → ℕ → (ℕ → ℕ) → Type 0
Fit j p fetched i lv = (p ≤ due j i) × FitsFrom j p fetched lv

abbrev May : Job → ℕ → List Row → ℕ → (ℕ → ℕ) → Type 0
May j p fetched i lv = (p ≤ due j i) × CanCarryFrom j p fetched lv

can_cong : (j : Job) (p : ℕ) (fetched : List Row) (a b : ℕ → ℕ) → Same j a b → CanCarryFrom j p fetched a → CanCarryFrom j p fetched b
can_cong j p fetched a b e s =
    record { more = s.more; later = s.later; passes = s.passes; in_order = s.in_order; exactly = λ i n r. rw (e i r.chunk_low r.chunk_high) at (s.exactly i n r) }

pub tried_from_choice : (j : Job) (fetched : List Row) (plan : ℕ → ℕ) (i n : ℕ) → Choice j plan → n < layers j → Choice j (tried_from j fetched plan n i)
tried_from_choice j fetched plan i n c l k g h = by_cond (λ x. x ≤ layers j) (eqb k i) (λ t. l) (λ t. omega (arith, c k g h, level_choice j fetched k g h))

open_iff : (j : Job) (p : ℕ) (fetched : List Row) (i : ℕ) (lv : ℕ → ℕ) → T (open_to j p fetched i lv) ↔ Fit j p fetched i lv
open_iff j p fetched i lv = (
  λ t. let u = and_T (leb p (due j i)) (fits_from j p fetched lv) t in (leb→le p (due j i) u.0, (fits_from_iff j p fetched lv).0 u.1),
  λ u. T_and (leb p (due j i)) (fits_from j p fetched lv) (le→leb p (due j i) u.0) ((fits_from_iff j p fetched lv).1 u.1),
)

module _ (j : Job) (p : ℕ) (fetched : List Row) (ok : Acceptable j p fetched) where
  settles_of : (plan : ℕ → ℕ) → IsReplan j p fetched plan → Settles (chunks j) (layers j) (level j fetched) (May j p fetched) plan
  settles_of plan d =
      record {
        most = d.choice;
        decided = λ i n u v h.
            let r = layer_of j i n u v h in
            let w = level_iff j fetched ok.lower i n r in
            let e = (settles_tried_from_iff j p fetched ok.lower plan).0 d.decided i n r in (
              λ l. ⊎_elim (λ x. inl (w.0 x)) (λ x. inr (x.1, (x.0, x.2))) (e.0 l),
              λ s. e.1 (⊎_elim (λ x. inl (w.1 x)) (λ x. inr (x.1.0, x.0, x.1.1)) s),
            );
      }

  pub replans_agree : (a b : ℕ → ℕ) → IsReplan j p fetched a → IsReplan j p fetched b → Same j a b
  replans_agree a b da db =
      settles_once (chunks j) (layers j) (level j fetched) (May j p fetched) (λ i p' q e u. (u.0, can_cong j p fetched p' q e u.1)) a b (settles_of a da) (settles_of b db)

  module _ (sized : Sized j) where
    computed : Settles (chunks j) (layers j) (level j fetched) (Fit j p fetched) (replan j p fetched)
    unfolding replan
    computed =
        settles_computed (chunks j) (layers j) (level j fetched) (open_to j p fetched) (Fit j p fetched) (open_iff j p fetched) (λ i a b e u. (u.0, fits_from_cong j p fetched a b e u.1)) (level_choice j fetched)

    pub replan_is_replan : IsReplan j p fetched (replan j p fetched)
    replan_is_replan =
        record {
          choice = computed.most;
          decided = (settles_tried_from_iff j p fetched ok.lower (replan j p fetched)).1 (λ i n r.
              let w = level_iff j fetched ok.lower i n r in
              let e = computed.decided i n r.chunk_low r.chunk_high r.layer_in in
              let c = can_carry_from_iff j sized p fetched ok (tried_from j fetched (replan j p fetched) n i) (tried_from_choice j fetched (replan j p fetched) i n computed.most r.layer_in) in (
                λ l. ⊎_elim (λ x. inl (w.1 x)) (λ x. inr (x.1.0, x.0, c.1 x.1.1)) (e.0 l),
                λ s. e.1 (⊎_elim (λ x. inl (w.0 x)) (λ x. inr (x.1, (x.0, c.0 x.2))) s),
              ));
        }

    replan_fits : FitsFrom j p fetched (replan j p fetched)
    unfolding replan
    replan_fits =
        plan_holds (chunks j) (layers j) (level j fetched) (open_to j p fetched) (FitsFrom j p fetched) (λ i q u v t. ((open_iff j p fetched i q).0 t).1) (layers j) (fetched_fits j sized p fetched ok)

    -- A plan made afresh fits.
    pub is_replan_fits : (plan : ℕ → ℕ) → IsReplan j p fetched plan → FitsFrom j p fetched plan
    is_replan_fits plan d = fits_from_cong j p fetched (replan j p fetched) plan (replans_agree (replan j p fetched) plan replan_is_replan d) replan_fits

    -- It carries a layer exactly if that is whole before p, or its chunk is due from p on, the
    -- layers below are carried and what is tried fits.
    pub is_replan_accepts :
        (plan : ℕ → ℕ) → IsReplan j p fetched plan → (i n : ℕ) → Layer j i n →
        (n < plan i) ↔ ((n < level j fetched i) ⊎ ((p ≤ due j i) × (n ≤ plan i) × FitsFrom j p fetched (tried_from j fetched plan n i)))
    is_replan_accepts plan d i n r =
        let w = level_iff j fetched ok.lower i n r in
        let e = (settles_tried_from_iff j p fetched ok.lower plan).0 d.decided i n r in
        let c = can_carry_from_iff j sized p fetched ok (tried_from j fetched plan n i) (tried_from_choice j fetched plan i n d.choice r.layer_in) in (
          λ l. ⊎_elim (λ x. inl (w.0 x)) (λ x. inr (x.0, x.1, c.0 x.2)) (e.0 l),
          λ s. e.1 (⊎_elim (λ x. inl (w.1 x)) (λ x. inr (x.0, x.1, c.1 x.2)) s),
        )

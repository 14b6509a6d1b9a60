-- Lemmas. When a choice can still be carried from slot p on, as the code may decide it: the chunks
-- begun or kept fit, each with the bytes still to be fetched, into the forecast from p on. Then one
-- half of the decision: what can be carried fits.
use Rattle.std.specs.Prelude.{ℕ, zero, suc, ◌+◌, ◌-◌, ◌≤◌, ◌<◌, max, ◌≡◌, refl, Bool, true, false, not, cond, ◌&&◌, ◌||◌, List, [], ◌∷◌, ◌++◌, ◌⊎◌, ◌↔◌, T, leb, ltb, eqb}
use Rattle.std.proofs.Common.{sym, ap, ◌∙◌, inl, inr, ⊎_elim, arith, T_not, leb→le, ltb→lt, nltb→le, lt→ltb, le→leb, eqb→eq}
use Rattle.std.proofs.Math.Dec.{nleb→lt}
use Rattle.theory_basics.specs.Sums.{pre, sum}
use Rattle.theory_basics.specs.Tests.{All, In}
use Rattle.theory_basics.specs.lemmas.Ranges.{bits_le, pre_mono, pre_step, sum_cong, sum_le, sum_mono}
use Rattle.theory_basics.specs.lemmas.Tests.{all_map, any_row_lem, at_row, each_row, in_append, in_left, in_right, T_and, T_or_iff, test, tests}
use Rattle.job.specs.Job.{chunks, due, forecast, held_most, Job, last_slot, Layer, layers, size}
use Rattle.fetch.specs.Rows.{begun, bytes_if, bytes_in_slot, bytes_of_layer, Carried, Row}
use Rattle.fetch.specs.Rules.{RowInRange, OnTime, PlayingOrder}
use Rattle.fetch.specs.RulesFrom.{PassesFrom}
use Rattle.fetch.specs.lemmas.Order.{order_begun}
use Rattle.fetch.specs.lemmas.Rows.{bytes_append, bytes_none}
use Rattle.theory_plan.specs.Plan.{after, picked}
use Rattle.theory_plan.specs.Statement.{Choice}
use Rattle.theory_plan.specs.lemmas.Count.{bytes_between, chunk_by_layers, some_row}
use Rattle.theory_plan.specs.lemmas.Kept.{feas_picked, picked_asc, picked_each}
use Rattle.theory_plan.specs.lemmas.Level.{level, level_iff}
use Rattle.theory_plan.specs.lemmas.Necessity.{begun_fit, Between}
use Rattle.theory_plan.specs.lemmas.Need.{Feas}
use Rattle.theory_plan.specs.lemmas.Words.{bytes_of_chunk, carries, layer_of, Sized}
use Rattle.theory_replan.specs.Plan.{after_from, busy, busy_chunks, bytes_left}
use Rattle.theory_replan.specs.Statement.{Acceptable, CanCarryFrom}
use Rattle.theory_plan.specs.Bases.{Asc}

-- ---- the criterion

-- A chunk that is kept has begun, or plays after all that have.
abbrev pub InFront : Job → List Row → (ℕ → ℕ) → Type 0
InFront j fetched lv = (i : ℕ) → 1 ≤ i → i ≤ chunks j → 1 ≤ lv i → T (carries fetched i) ⊎ All (λ x. x.chunk < i) fetched

pub record FitsFrom (j : Job) (p : ℕ) (fetched : List Row) (lv : ℕ → ℕ) : Type 0 where
  pub whole : (k : ℕ) → 1 ≤ k → k ≤ chunks j → level j fetched k ≤ lv k
  pub in_front_lem : InFront j fetched lv
  pub feas : Feas (bytes_left j fetched lv) (due j) (after_from j p) (held_most j) (busy_chunks j fetched lv)

-- ---- rows from p on within the forecast

pub between_from :
    (j : Job) (p : ℕ) (more : List Row) → All (λ x. p ≤ x.slot) more →
    ((t : ℕ) → 1 ≤ t → t ≤ last_slot j → bytes_in_slot more t ≤ forecast j t) → 1 ≤ p → Between j (after_from j p) more
between_from j p more a w low P q d h g f =
    ⊎_elim
    (λ t.
    let l : d ≤ p - 1 = leb→le d (p - 1) t in
    let e : max d (p - 1) ≡ p - 1 = omega arith in
    let e' : max q (p - 1) ≡ p - 1 = omega arith in
    rw (e, e') (omega (arith, bytes_none P more (λ x i u. omega (arith, f x i u, at_row (λ x. p ≤ x.slot) i a)))))
    (λ t.
    let l : p - 1 < d = nleb→lt d (p - 1) t in
    let e : max d (p - 1) ≡ d = omega arith in
    let q' : ℕ = max q (p - 1) in
    rw e
    (omega (
      arith,
      bytes_between P q' d more (omega arith) (each_row (λ x. T (P x) → (q' < x.slot) × (x.slot ≤ d)) more (λ x i u. omega (arith, f x i u, at_row (λ x. p ≤ x.slot) i a))),
      pre_step (bytes_in_slot more) (forecast j) q' d (λ t u v. w t u (omega arith)) (omega arith),
      pre_mono (forecast j) d (last_slot j) g,
    )))
    (test (leb d (p - 1)))

-- ---- what can be carried fits

module _ (j : Job) (sized : Sized j) (p : ℕ) (fetched : List Row) (ok : Acceptable j p fetched) (more : List Row) (later : All (λ x. p ≤ x.slot) more) (passes : PassesFrom j p (fetched ++ more)) (in_order : PlayingOrder j (fetched ++ more)) where
  abbrev l : List Row
  l = fetched ++ more

  more_in_slot : (t : ℕ) → 1 ≤ t → t ≤ last_slot j → bytes_in_slot more t ≤ forecast j t
  more_in_slot t u v = omega (arith, passes.within t u v, bytes_append (λ x. eqb x.slot t) fetched more)

  more_range : All (RowInRange j) more
  more_range = each_row (RowInRange j) more (λ x i. at_row (RowInRange j) (in_right fetched more i) passes.in_range_lem)

  more_on_time : All (OnTime j) more
  more_on_time = each_row (OnTime j) more (λ x i. at_row (OnTime j) (in_right fetched more i) passes.on_time_lem)

  -- Chunk e has begun, or is carried in the end.
  abbrev pub Busy : ℕ → Type 0
  Busy e = T (carries fetched e) ⊎ Carried j l e 0

  busy_starts : (x : Row) → In x more → (e : ℕ) → 1 ≤ e → e ≤ x.chunk → Busy e → T (begun l x.slot e)
  busy_starts x i e g h (inl t) =
      let y = some_row (λ y. eqb y.chunk e) fetched t in
      let a = at_row (λ y. y.slot < p) y.1 ok.before in
      let b = at_row (λ y. p ≤ y.slot) i later in
      any_row_lem (λ y. eqb y.chunk e && leb y.slot x.slot) (in_left fetched more y.1) (T_and (eqb y.0.chunk e) (leb y.0.slot x.slot) y.2 (le→leb y.0.slot x.slot (omega arith)))
  busy_starts x i e g h (inr t) =
      ⊎_elim
      (λ u. order_begun j sized l passes.in_range_lem in_order x (in_right fetched more i) e g (ltb→lt e x.chunk u) t)
      (λ (u : T (not (ltb e x.chunk))).
      let q : x.chunk ≡ e = omega (arith, nltb→le e x.chunk u) in
      any_row_lem (λ y. eqb y.chunk e && leb y.slot x.slot) (in_right fetched more i) (simp tests (omega arith)))
      (test (ltb e x.chunk))

  pub busy_fit : (ks : List ℕ) → Asc 1 (chunks j) ks → All Busy ks → Feas (bytes_of_chunk more) (due j) (after_from j p) (held_most j) ks
  busy_fit ks s m =
      begun_fit j (after_from j p) l more (between_from j p more later more_in_slot ok.p_low) more_range more_on_time passes.few_held Busy busy_starts ks s m

  -- A chunk carried in the end has begun, or plays after all that have.
  pub carried_in_front : (i : ℕ) → 1 ≤ i → Carried j l i 0 → T (carries fetched i) ⊎ All (λ x. x.chunk < i) fetched
  carried_in_front i g c =
      ⊎_elim
      (λ t. inl t)
      (λ t. inr (each_row (λ x. x.chunk < i) fetched (λ x xi.
      ⊎_elim
      (λ u. ltb→lt x.chunk i u)
      (λ u.
      let h : i ≤ x.chunk = nltb→le x.chunk i u in
      absurd (⊎_elim
      (λ v.
      let b = order_begun j sized l passes.in_range_lem in_order x (in_left fetched more xi) i g (ltb→lt i x.chunk v) c in
      let y = some_row (λ y. eqb y.chunk i && leb y.slot x.slot) l b in
      let z = simp tests at y.2 in
      ⊎_elim
      (λ yi. T_not (carries fetched i) t (any_row_lem (λ y. eqb y.chunk i) yi (simp tests z.0)))
      (λ yi. omega (arith, at_row (λ y. p ≤ y.slot) yi later, at_row (λ y. y.slot < p) xi ok.before))
      (in_append fetched more y.1))
      (λ v.
      let e : x.chunk ≡ i = omega (arith, nltb→le i x.chunk v) in
      T_not (carries fetched i) t (any_row_lem (λ y. eqb y.chunk i) xi (simp tests e)))
      (test (ltb i x.chunk))))
      (test (ltb x.chunk i)))))
      (test (carries fetched i))

module _ (j : Job) (sized : Sized j) (p : ℕ) (fetched : List Row) (ok : Acceptable j p fetched) (lv : ℕ → ℕ) (choice : Choice j lv) (s : CanCarryFrom j p fetched lv) where
  abbrev more : List Row
  more = s.more

  carried_left : (i n : ℕ) → Layer j i n → n < lv i → size j i n - bytes_of_layer fetched i n ≡ bytes_of_layer more i n
  carried_left i n r h = omega (arith, (s.exactly i n r).1 h, bytes_append (λ x. eqb x.chunk i && eqb x.layer n) fetched more)

  left_in_more : (i : ℕ) → 1 ≤ i → i ≤ chunks j → bytes_left j fetched lv i ≤ bytes_of_chunk more i
  left_in_more i g h =
      let a = more_range j sized p fetched ok more s.later s.passes s.in_order in
      omega (
        arith,
        chunk_by_layers i (layers j) more (all_map (RowInRange j) (λ x. x.layer < layers j) more (λ x r. r.layer_in) a),
        sum_mono (bytes_of_layer more i) (lv i) (layers j) (choice i g h),
        sum_cong (λ n. size j i n - bytes_of_layer fetched i n) (bytes_of_layer more i) (lv i) (λ n u. carried_left i n (layer_of j i n g h (omega (arith, choice i g h))) u),
      )

  whole_carried : (k : ℕ) → 1 ≤ k → k ≤ chunks j → level j fetched k ≤ lv k
  whole_carried k g h =
      ⊎_elim
      (λ t. leb→le (level j fetched k) (lv k) t)
      (λ t.
      let u : lv k < level j fetched k = nleb→lt (level j fetched k) (lv k) t in
      let r = layer_of j k (lv k) g h (omega (arith, bits_le (λ n. eqb (bytes_of_layer fetched k n) (size j k n)) (layers j))) in
      let c = (level_iff j fetched ok.lower k (lv k) r).1 u in
      let b = bytes_append (λ x. eqb x.chunk k && eqb x.layer (lv k)) fetched more in
      absurd
      (⊎_elim
      (λ z. omega (arith, sized k (lv k) r))
      (⊎_elim (λ z. omega (arith, (s.exactly k (lv k) r).0 z)) (λ z. omega (arith, z.short)))
      (s.passes.whole k (lv k) r)))
      (test (leb (level j fetched k) (lv k)))

  -- So does each part of it that has all layers whole in the fetched rows.
  pub can_carry_fits_below :
      (low : ℕ → ℕ) → ((k : ℕ) → 1 ≤ k → k ≤ chunks j → level j fetched k ≤ low k) → ((k : ℕ) → 1 ≤ k → k ≤ chunks j → low k ≤ lv k) →
      FitsFrom j p fetched low
  can_carry_fits_below low from to =
      let base : (i : ℕ) → 1 ≤ i → i ≤ chunks j → 1 ≤ low i → Carried j (fetched ++ more) i 0 =
      λ i g h u. (s.exactly i 0 (layer_of j i 0 g h (omega (arith, choice i g h, to i g h)))).1 (omega (arith, to i g h)) in
      record {
        whole = from;
        in_front_lem = λ i g h u. carried_in_front j sized p fetched ok more s.later s.passes s.in_order i g (base i g h u);
        feas =
            feas_picked (bytes_left j fetched low) (bytes_of_chunk more) (due j) (after_from j p) (held_most j) (busy fetched low) 0 (chunks j)
            (λ i u v t. omega (arith, left_in_more i u (omega arith), sum_mono (λ n. size j i n - bytes_of_layer fetched i n) (low i) (lv i) (to i u (omega arith))))
            (busy_fit j sized p fetched ok more s.later s.passes s.in_order (busy_chunks j fetched low) (picked_asc (busy fetched low) 0 (chunks j) (chunks j) (omega arith))
            (picked_each (busy fetched low) (Busy j sized p fetched ok more s.later s.passes s.in_order) 0 (chunks j) (λ i u v t.
            ⊎_elim (λ x. inl x) (λ x. inr (base i u (omega arith) (leb→le 1 (low i) x))) ((T_or_iff (carries fetched i) (leb 1 (low i))).0 t))));
      }

  pub can_carry_fits_from : FitsFrom j p fetched lv
  can_carry_fits_from = can_carry_fits_below lv whole_carried (λ k g h. omega arith)

-- Lemmas. The decision from slot p on: some list that begins with the rows fetched carries exactly
-- a choice if and only if the choice fits, and then the fetched rows with the own rows from p on
-- are one.
use Rattle.std.specs.Prelude.{ℕ, zero, suc, ◌+◌, ◌-◌, ◌≤◌, ◌<◌, ◌≡◌, refl, Bool, not, ◌&&◌, List, ◌++◌, ◌⊎◌, ◌↔◌, length, drop, T, ltb, eqb}
use Rattle.std.proofs.Common.{sym, ◌∙◌, subst, inl, inr, ⊎_elim, arith, ltb→lt, nltb→le}
use Rattle.std.proofs.Math.Path.{ap}
use Rattle.std.proofs.Math.Seq.{drop-append_seam}
use Rattle.theory_basics.specs.Tests.{All, In}
use Rattle.theory_basics.specs.lemmas.Tests.{at_row, in_append, test, tests}
use Rattle.job.specs.Job.{chunks, Job, last_slot, Layer, layers, size}
use Rattle.fetch.specs.Rows.{bytes_of_layer, Carried, marks_given, Row}
use Rattle.fetch.specs.Rules.{RowInRange, PlayingOrder}
use Rattle.fetch.specs.RulesFrom.{KeepsFrom, PassesFrom, ShortBefore, WholeFrom}
use Rattle.fetch.specs.lemmas.Order.{begun_order}
use Rattle.fetch.specs.lemmas.Rows.{bytes_append, row_counts}
use Rattle.theory_plan.specs.Statement.{CarriesExactly, Choice, marks_of}
use Rattle.theory_plan.specs.lemmas.Level.{level, level_iff, marks_carried}
use Rattle.theory_plan.specs.lemmas.Queue.{at_layer}
use Rattle.theory_plan.specs.lemmas.Words.{layer_of, Sized}
use Rattle.theory_replan.specs.Own.{fetched_from, own_rest}
use Rattle.theory_replan.specs.Statement.{Acceptable, CanCarryFrom}
use Rattle.theory_replan.specs.lemmas.Fits.{can_carry_fits_from, FitsFrom}
use Rattle.theory_replan.specs.lemmas.Rest.{Fetches, fetches, Inv, target, target_in, target_out}

module _ (j : Job) (sized : Sized j) (p : ℕ) (fetched : List Row) (ok : Acceptable j p fetched) (lv : ℕ → ℕ) (choice : Choice j lv) (f : FitsFrom j p fetched lv) where
  abbrev rows : List Row
  rows = (fetched_from j p fetched lv (suc (last_slot j) - p)).rows

  abbrev out : Fetches j sized p fetched ok lv choice f (fetched_from j p fetched lv (suc (last_slot j) - p))
  out = fetches j sized p fetched ok lv choice f

  rest_is_made : own_rest j p fetched lv ≡ out.holds.made
  unfolding own_rest
  rest_is_made = ap (drop (length fetched)) out.holds.made_is ∙ drop-append_seam fetched out.holds.made

  pub rest_later : All (λ x. p ≤ x.slot) (own_rest j p fetched lv)
  rest_later = subst (All (λ x. p ≤ x.slot)) (sym rest_is_made) out.holds.made_later

  pub rows_are : rows ≡ fetched ++ own_rest j p fetched lv
  rows_are = out.holds.made_is ∙ ap (λ (l : List Row). fetched ++ l) (sym rest_is_made)

  sums : (i n : ℕ) → bytes_of_layer rows i n ≡ target j sized p fetched ok lv choice f i n
  sums i n = omega (arith, rw out.none_left at (out.holds.books i n))

  carried_in : (i n : ℕ) → Layer j i n → n < lv i → Carried j rows i n
  carried_in i n r h = sums i n ∙ target_in j sized p fetched ok lv choice f i n r.chunk_low r.chunk_high h

  -- A layer that is not of the choice has its fetched rows and no others, and they are short of its
  -- size.
  carried_out : (i n : ℕ) → Layer j i n → lv i ≤ n → (bytes_of_layer rows i n ≡ bytes_of_layer fetched i n) × (bytes_of_layer fetched i n < size j i n)
  carried_out i n r h = (
    sums i n ∙ target_out j sized p fetched ok lv choice f i n r.chunk_low r.chunk_high h,
    ⊎_elim
        (λ t. ltb→lt (bytes_of_layer fetched i n) (size j i n) t)
        (λ t.
        let e : Carried j fetched i n = omega (arith, nltb→le (bytes_of_layer fetched i n) (size j i n) t, ok.no_more_lem i n r) in
        absurd (omega (arith, (level_iff j fetched ok.lower i n r).0 e, f.whole i r.chunk_low r.chunk_high)))
        (test (ltb (bytes_of_layer fetched i n) (size j i n))),
  )

  exact : CarriesExactly j rows lv
  exact i n r = (
    λ e.
        ⊎_elim
        (λ t. ltb→lt n (lv i) t)
        (λ t. let o = carried_out i n r (nltb→le n (lv i) t) in absurd (omega (arith, o.0, o.1, e)))
        (test (ltb n (lv i))),
    carried_in i n r,
  )

  short_before : (i n : ℕ) → Layer j i n → lv i ≤ n → ShortBefore j p rows i n
  short_before i n r h =
      let o = carried_out i n r h in
      record {
        short = omega (arith, o.0, o.1);
        before = λ x m c l.
            ⊎_elim
            (λ y. at_row (λ x. x.slot < p) y ok.before)
            (λ y.
            let made = out.holds.made in
            let some = (at_row (RowInRange j) m out.holds.range).some_bytes in
            let counted = row_counts (λ x. eqb x.chunk i && eqb x.layer n) y (simp tests (c, l)) in
            let joined = ap (λ (z : List Row). bytes_of_layer z i n) out.holds.made_is ∙ bytes_append (λ x. eqb x.chunk i && eqb x.layer n) fetched made in
            absurd (omega (arith, some, counted, joined, o.0)))
            (in_append fetched out.holds.made (subst (In x) out.holds.made_is m));
      }

  whole_from : WholeFrom j p rows
  whole_from i n r =
      ⊎_elim (λ t. inr (inl (carried_in i n r (ltb→lt n (lv i) t)))) (λ t. inr (inr (short_before i n r (nltb→le n (lv i) t)))) (test (ltb n (lv i)))

  keeps : PassesFrom j p rows
  keeps =
      record {
        in_range_lem = out.holds.range;
        whole = whole_from;
        lower = λ i n r e.
            let r' = layer_of j i n r.chunk_low r.chunk_high (omega (arith, r.layer_in)) in
            (exact i n r').1 (omega (arith, (exact i (suc n) r).0 e));
        within = out.holds.within;
        on_time_lem = out.holds.on_time_lem;
        few_held = out.holds.few;
        marks_say = refl;
      }

  in_order : PlayingOrder j rows
  in_order =
      begun_order j rows (λ x m i g h c.
      let z = at_row (RowInRange j) m out.holds.range in
      out.holds.order x m i g h ((exact i 0 (layer_of j i 0 g (omega (arith, z.chunk_high)) (omega (arith, z.layer_in)))).0 c))

  -- ---- the fetched rows with the own rows from p on

  pub rest_passes : PassesFrom j p (fetched ++ own_rest j p fetched lv)
  rest_passes = subst (PassesFrom j p) rows_are keeps

  pub rest_in_order : PlayingOrder j (fetched ++ own_rest j p fetched lv)
  rest_in_order = subst (PlayingOrder j) rows_are in_order

  pub rest_exactly : CarriesExactly j (fetched ++ own_rest j p fetched lv) lv
  rest_exactly = subst (λ (l : List Row). CarriesExactly j l lv) rows_are exact

  pub rest_keeps : KeepsFrom j p (marks_of j lv) (fetched ++ own_rest j p fetched lv)
  rest_keeps = subst (λ (m : List ℕ). KeepsFrom j p m (fetched ++ own_rest j p fetched lv)) (sym (marks_carried j (fetched ++ own_rest j p fetched lv) lv rest_exactly)) rest_passes

  -- A layer that is not of the choice has no bytes but those fetched, and is not carried.
  pub rest_given_up :
      (i n : ℕ) → Layer j i n → lv i ≤ n →
      (bytes_of_layer (fetched ++ own_rest j p fetched lv) i n ≡ bytes_of_layer fetched i n) × (bytes_of_layer fetched i n < size j i n)
  rest_given_up i n r h = let o = carried_out i n r h in (ap (λ (l : List Row). bytes_of_layer l i n) (sym rows_are) ∙ o.0, o.1)

  pub fits_can_carry_from : CanCarryFrom j p fetched lv
  fits_can_carry_from = record { more = own_rest j p fetched lv; later = rest_later; passes = rest_passes; in_order = rest_in_order; exactly = rest_exactly }

pub can_carry_from_iff :
    (j : Job) → Sized j → (p : ℕ) (fetched : List Row) → Acceptable j p fetched → (lv : ℕ → ℕ) → Choice j lv →
    CanCarryFrom j p fetched lv ↔ FitsFrom j p fetched lv
can_carry_from_iff j sized p fetched ok lv choice = (can_carry_fits_from j sized p fetched ok lv choice, fits_can_carry_from j sized p fetched ok lv choice)

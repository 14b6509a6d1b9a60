-- Lemmas, then the theorem `standing_plan`: "If the standing plan was settled for the whole job in
-- document 01's way, bases too, the rows are all its own before p and the forecast hasn't changed,
-- the new rows are exactly the rest of that plan."
use Prim.Native.Nat.{ℕ, zero, suc, ◌+◌, ◌-◌, ◌≤◌, ◌<◌, max, min}
use Rattle.std.specs.Prelude.{◌≡◌, refl, Bool, true, false, not, cond, ◌&&◌, List, [], ◌∷◌, ◌++◌, ◌⊎◌, ◌↔◌, length, take, T, leb, ltb, eqb}
use Rattle.std.proofs.Common.{sym, ◌∙◌, subst, inl, inr, ⊎_elim, eq-eqb, lt-ltb, le-ltb, T_not, leb→le, ltb→lt, nltb→le, le→leb, eqb→eq}
use Rattle.std.proofs.Math.Path.{ap, fun_ext}
use native.Mathlib.Omega.{arith}
use Rattle.std.proofs.Math.ListN.{drop}
use Rattle.std.proofs.Math.Dec.{nleb→lt, eqb_refl}
use Rattle.std.proofs.Math.Seq.{drop-append_seam}
use Rattle.theory_plan.specs.lemmas.Unique.{carried_cong}
use Rattle.theory_basics.specs.Sums.{sum}
use Rattle.theory_basics.specs.Tests.{All, here, In, there}
use Rattle.theory_basics.specs.lemmas.Ranges.{count_mono, sum_cong, sum_mono}
use Rattle.theory_basics.specs.lemmas.Tests.{all_map, and_T, any_row_lem, at_row, by_cond, each_row, eqb_iff, in_append, in_left, in_right, T_and, test, tests, not_T_false}
use Rattle.job.specs.Job.{Accepted, chunks, due, forecast, held_most, Job, last_slot, Layer, layers, size}
use Rattle.fetch.specs.Rows.{begun, bytes_of_layer, Carried, carried, held, marks_given, Row}
use Rattle.fetch.specs.Rules.{RowInRange, Keeps, OnTime, PlayingOrder}
use Rattle.fetch.specs.RulesFrom.{PassesFrom}
use Rattle.fetch.specs.lemmas.Order.{order_begun}
use Rattle.fetch.specs.lemmas.Rows.{bytes_append, row_counts, some_row}
use Rattle.theory_plan.specs.Own.{carried_to, Fetched, fetched_by, own_list, Piece, slot_takes}
use Rattle.theory_plan.specs.Plan.{after, bytes, kept, tried}
use Rattle.theory_plan.specs.lemmas.Tried.{settles_tried_iff}
use Rattle.theory_plan.specs.Statement.{CanCarry, CarriesExactly, Choice, SettledByTrials, marks_of, Same}
use Rattle.theory_plan.proofs.Theorems.{trials_carried}
use Rattle.theory_plan.specs.lemmas.Choice.{Fits, fits_can_carry, kept_asc}
use Rattle.theory_plan.specs.lemmas.Count.{chunk_by_layers}
use Rattle.theory_plan.specs.lemmas.Kept.{feas_picked, picked_each}
use Rattle.theory_plan.specs.lemmas.Level.{level, level_iff}
use Rattle.theory_plan.specs.lemmas.Necessity.{begun_fit}
use Rattle.theory_plan.specs.lemmas.Need.{Feas}
use Rattle.theory_plan.specs.lemmas.Plan.{tried_choice}
use Rattle.theory_plan.specs.lemmas.Queue.{at_layer}
use Rattle.theory_plan.specs.lemmas.Words.{accepted_sized, bytes_of_chunk, carries, layer_of, Sized}
use Rattle.theory_replan.specs.Plan.{after_from, tried_from}
use Rattle.theory_replan.specs.Own.{fetched_from, own_rest, unfetched}
use Rattle.theory_replan.specs.lemmas.Tried.{settles_tried_from_iff}
use Rattle.theory_replan.specs.Statement.{Acceptable, CanCarryFrom, IsReplan, rows_before, rows_from}
use Rattle.theory_replan.specs.lemmas.Decision.{fits_can_carry_from}
use Rattle.theory_replan.specs.lemmas.Fits.{between_from, can_carry_fits_below, can_carry_fits_from, FitsFrom}
use Rattle.theory_replan.specs.lemmas.Held.{begun_by, begun_more, begun_row}
use Rattle.theory_replan.specs.lemmas.OwnState.{Grown, grown, Sofar, sofar}
use Rattle.theory_replan.specs.lemmas.Parts.{left_if}
use Rattle.theory_replan.specs.lemmas.Plan.{replans_agree, tried_from_choice}
use Rattle.theory_replan.specs.lemmas.Unfetched.{left_of_layer}
use Rattle.theory_plan.specs.Bases.{Asc}

-- ---- rows before and from a slot

pub before_all : (p : ℕ) (a b : List Row) → All (λ x. x.slot < p) a → All (λ x. p ≤ x.slot) b → rows_before p (a ++ b) ≡ a
before_all p [] [] u v = refl
before_all p [] (x ∷ b) u v = rw (le-ltb x.slot p v.0) (before_all p [] b u v.1)
before_all p (x ∷ a) b u v = rw (lt-ltb x.slot p u.0) (ap (λ (l : List Row). x ∷ l) (before_all p a b u.1 v))

pub from_all : (p : ℕ) (a b : List Row) → All (λ x. x.slot < p) a → All (λ x. p ≤ x.slot) b → rows_from p (a ++ b) ≡ b
from_all p [] [] u v = refl
from_all p [] (x ∷ b) u v = rw (le-ltb x.slot p v.0) (ap (λ (l : List Row). x ∷ l) (from_all p [] b u v.1))
from_all p (x ∷ a) b u v = rw (lt-ltb x.slot p u.0) (from_all p a b u.1 v)

-- A part left of a layer that passes.
some_part : (P : ℕ → ℕ → Bool) (ps : List Piece) → 1 ≤ left_if P ps → (q : Piece) × In q ps × T (P q.chunk q.layer)
some_part P [] h = absurd (omega arith)
some_part P (q ∷ ps) h =
    ⊎_elim
    (λ t. (q, here, t))
    (λ t.
    let r = some_part P ps (omega (arith, by_cond (λ n. n ≤ 0) (P q.chunk q.layer) {x = q.bytes} {y = 0} (λ u. absurd (T_not (P q.chunk q.layer) t u)) (λ u. omega arith))) in
    (r.0, there r.1, r.2))
    (test (P q.chunk q.layer))

-- ---- what can be carried from p on, with more whole layers, can be carried from the start

module _ (j : Job) (sized : Sized j) (p : ℕ) (fetched : List Row) (lv low : ℕ → ℕ) (choice : Choice j lv) (s : CanCarryFrom j p fetched lv) (below : (k : ℕ) → 1 ≤ k → k ≤ chunks j → low k ≤ lv k) where
  abbrev l : List Row
  l = fetched ++ s.more

  all_begun : (x : Row) → In x l → (e : ℕ) → 1 ≤ e → e ≤ x.chunk → Carried j l e 0 → T (begun l x.slot e)
  all_begun x i e g h t =
      ⊎_elim
      (λ u. order_begun j sized l s.passes.in_range_lem s.in_order x i e g (ltb→lt e x.chunk u) t)
      (λ (u : T (not (ltb e x.chunk))).
      let q : x.chunk ≡ e = omega (arith, nltb→le e x.chunk u) in
      begun_row l x.slot e x i q (omega arith))
      (test (ltb e x.chunk))

  low_carried : (i n : ℕ) → 1 ≤ i → i ≤ chunks j → n < low i → Carried j l i n
  low_carried i n g h u = (s.exactly i n (layer_of j i n g h (omega (arith, below i g h, choice i g h)))).1 (omega (arith, below i g h))

  low_bytes_lem : (i : ℕ) → 1 ≤ i → i ≤ chunks j → bytes j low i ≤ bytes_of_chunk l i
  low_bytes_lem i g h =
      omega (
        arith,
        chunk_by_layers i (layers j) l (all_map (RowInRange j) (λ x. x.layer < layers j) l (λ x r. r.layer_in) s.passes.in_range_lem),
        sum_mono (bytes_of_layer l i) (low i) (layers j) (omega (arith, below i g h, choice i g h)),
        sum_cong (size j i) (bytes_of_layer l i) (low i) (λ n u. sym (low_carried i n g h u)),
      )

  pub fits_from_start : Fits j low
  fits_from_start =
      let keeps : ℕ → Bool = λ i. leb 1 (low i) in
      let from_one : All (λ x. 1 ≤ x.slot) l = all_map (RowInRange j) (λ x. 1 ≤ x.slot) l (λ x r. r.slot_low) s.passes.in_range_lem in
      let fit =
      begun_fit j (after_from j 1) l l (between_from j 1 l from_one s.passes.within (omega arith)) s.passes.in_range_lem s.passes.on_time_lem s.passes.few_held (λ e. Carried j l e 0) all_begun (kept j low) (kept_asc j low)
      (picked_each keeps (λ e. Carried j l e 0) 0 (chunks j) (λ i u v t. low_carried i 0 u (omega arith) (leb→le 1 (low i) t))) in
      let same : after_from j 1 ≡ after j = fun_ext (λ t. let e : max t (1 - 1) ≡ t = omega arith in ap (after j) e) in
      feas_picked (bytes j low) (bytes_of_chunk l) (due j) (after j) (held_most j) keeps 0 (chunks j) (λ i u v t. low_bytes_lem i u (omega arith))
      (subst (λ (A : ℕ → ℕ). Feas (bytes_of_chunk l) (due j) A (held_most j) (kept j low)) same fit)

-- ---- the standing plan

tried_under : (j : Job) (fetched : List Row) (plan : ℕ → ℕ) (n i k : ℕ) → tried plan n i k ≤ tried_from j fetched plan n i k
tried_under j fetched plan n i k = by (eqb k i)
  where
    by : (b : Bool) → cond b (suc n) (min (plan k) (cond (ltb i k) (suc n) n)) ≤ cond b (suc n) (max (level j fetched k) (min (plan k) (cond (ltb i k) (suc n) n)))
    by true = omega arith
    by false = omega arith

module _ (j : Job) (sized : Sized j) (q : ℕ → ℕ) (plan : SettledByTrials j q) (p : ℕ) (p_low : 1 ≤ p) (p_high : p ≤ last_slot j) where
  abbrev t : ℕ
  t = p - 1

  -- The rows that the own list has before p, and the others.
  abbrev old : List Row
  old = (fetched_by j q t).rows

  abbrev steps : Grown j sized q plan.choice t old (fetched_by j q (last_slot j - t + t)).rows
  steps = grown j sized q plan.choice t (last_slot j - t)

  abbrev more : List Row
  more = steps.more

  abbrev so : Sofar j sized q plan.choice t old (fetched_by j q t).left
  so = sofar j sized q plan.choice t

  pub own_split : own_list j q ≡ old ++ more
  unfolding own_list
  own_split = let e : last_slot j ≡ last_slot j - t + t = omega arith in ap (λ (n : ℕ). (fetched_by j q n).rows) e ∙ steps.rows_are

  pub before : All (λ x. x.slot < p) old
  before = all_map (λ x. x.slot ≤ t) (λ x. x.slot < p) old (λ x h. omega arith) so.slots

  pub later : All (λ x. p ≤ x.slot) more
  later = all_map (λ x. t < x.slot) (λ x. p ≤ x.slot) more (λ x h. omega arith) steps.later

  abbrev Carries : List Row → Type 0
  Carries l = Keeps j (marks_of j q) l × PlayingOrder j l × CarriesExactly j l q

  own : Carries (old ++ more)
  own = subst Carries own_split (trials_carried j sized q plan)

  joined_bytes : (i n : ℕ) → bytes_of_layer (old ++ more) i n ≡ bytes_of_layer old i n + bytes_of_layer more i n
  joined_bytes i n = bytes_append (λ x. eqb x.chunk i && eqb x.layer n) old more

  -- ---- its rows before p are acceptable

  old_no_more : (i n : ℕ) → Layer j i n → bytes_of_layer old i n ≤ size j i n
  old_no_more i n r = ⊎_elim (λ z. omega (arith, z, joined_bytes i n)) (λ z. omega (arith, z, joined_bytes i n)) (own.0.whole i n r)

  -- A layer with a row before p is of the plan.
  old_of_plan : (i n : ℕ) → Layer j i n → 1 ≤ bytes_of_layer old i n → n < q i
  old_of_plan i n r h = (own.2 i n r).0 (⊎_elim (λ z. absurd (omega (arith, z, joined_bytes i n))) (λ z. z) (own.0.whole i n r))

  -- Layers are fetched from the base up, so the layer below a whole one is whole.
  old_lower : (i n : ℕ) → Layer j i (suc n) → Carried j old i (suc n) → Carried j old i n
  old_lower i n r c =
      let r' = layer_of j i n r.chunk_low r.chunk_high (omega (arith, r.layer_in)) in
      let some = sized i (suc n) r in
      let higher : suc n < q i = old_of_plan i (suc n) r (omega (arith, c, some)) in
      ⊎_elim
      (λ u.
      let short = ltb→lt (bytes_of_layer old i n) (size j i n) u in
      let left : left_if (at_layer i n) (fetched_by j q t).left ≡ size j i n - bytes_of_layer old i n =
      ap (left_if (at_layer i n)) so.left_is ∙ left_of_layer old j q i n r.chunk_low r.chunk_high ∙ rw (lt-ltb n (q i) (omega arith)) in
      let z = some_part (at_layer i n) (fetched_by j q t).left (omega (arith, left, short)) in
      let k = and_T (eqb z.0.chunk i) (eqb z.0.layer n) z.2 in
      let x = some_row (λ y. eqb y.chunk i && eqb y.layer (suc n)) old (omega (arith, c, some)) in
      let m = and_T (eqb x.row.chunk i) (eqb x.row.layer (suc n)) x.passes in
      let kc = eqb→eq z.0.chunk i k.0 in
      let kl = eqb→eq z.0.layer n k.1 in
      let mc = eqb→eq x.row.chunk i m.0 in
      let ml = eqb→eq x.row.layer (suc n) m.1 in
      let up = at_row (λ y. (y.chunk < z.0.chunk) ⊎ ((y.chunk ≡ z.0.chunk) × (y.layer ≤ z.0.layer))) x.listed (at_row (λ q. All (λ y. (y.chunk < q.chunk) ⊎ ((y.chunk ≡ q.chunk) × (y.layer ≤ q.layer))) old) z.1 so.first_in) in
      absurd (⊎_elim (λ w. omega (arith, w, kc, mc)) (λ w. omega (arith, w.1, kl, ml)) up))
      (λ u. omega (arith, nltb→le (bytes_of_layer old i n) (size j i n) u, old_no_more i n r'))
      (test (ltb (bytes_of_layer old i n) (size j i n)))

  old_range : All (RowInRange j) old
  old_range = each_row (RowInRange j) old (λ x i. at_row (RowInRange j) (in_left old more i) own.0.in_range_lem)

  old_in_turn : (x y : Row) → In x old → In y old → y.chunk < x.chunk → T (begun old x.slot y.chunk)
  old_in_turn x y i k h =
      let z = at_row (RowInRange j) k old_range in
      let r = layer_of j y.chunk y.layer z.chunk_low z.chunk_high z.layer_in in
      let some = row_counts (λ w. eqb w.chunk y.chunk && eqb w.layer y.layer) k (T_and (eqb y.chunk y.chunk) (eqb y.layer y.layer) (eqb_refl y.chunk) (eqb_refl y.layer)) in
      let has = old_of_plan y.chunk y.layer r (omega (arith, some, z.some_bytes)) in
      let base = (own.2 y.chunk 0 (layer_of j y.chunk 0 z.chunk_low z.chunk_high (omega (arith, z.layer_in)))).1 (omega arith) in
      let b = begun_by (old ++ more) x.slot y.chunk (order_begun j sized (old ++ more) own.0.in_range_lem own.1 x (in_left old more i) y.chunk z.chunk_low h base) in
      ⊎_elim
      (λ (m : In b.row old). begun_row old x.slot y.chunk b.row m b.chunk_is b.slot_by)
      (λ (m : In b.row more). absurd (omega (arith, b.slot_by, at_row (λ x. p ≤ x.slot) m later, at_row (λ x. x.slot < p) i before)))
      (in_append old more b.listed)

  pub old_acceptable : Acceptable j p old
  old_acceptable =
      record {
        p_low = p_low;
        p_high = p_high;
        before = before;
        in_range_lem = old_range;
        no_more_lem = old_no_more;
        lower = old_lower;
        within = λ s u v. omega (arith, own.0.within s u v, bytes_append (λ x. eqb x.slot s) old more);
        on_time_lem = each_row (OnTime j) old (λ x i. at_row (OnTime j) (in_left old more i) own.0.on_time_lem);
        few_held = λ s u v.
            omega (
              arith,
              own.0.few_held s u v,
              count_mono (held j old s) (held j (old ++ more) s) (chunks j) (λ i x y h.
                  let w = and_T (begun old s i) (ltb s (due j i)) h in T_and (begun (old ++ more) s i) (ltb s (due j i)) (begun_more old more s i w.0) w.1),
            );
        in_turn_lem = old_in_turn;
      }

  -- ---- the standing plan is the plan made afresh

  own_can_carry : CanCarryFrom j p old q
  own_can_carry =
      record {
        more = more;
        later = later;
        passes =
            record {
              in_range_lem = own.0.in_range_lem;
              whole = λ i n r. ⊎_elim (λ z. inl z) (λ z. inr (inl z)) (own.0.whole i n r);
              lower = own.0.lower;
              within = own.0.within;
              on_time_lem = own.0.on_time_lem;
              few_held = own.0.few_held;
              marks_say = refl;
            };
        in_order = own.1;
        exactly = own.2;
      }

  -- A layer of the plan that is not whole before p is due from p on, and can be carried with what
  -- is settled before it.
  kept_again :
      (i n : ℕ) → Layer j i n → n < q i → (Carried j old i n → ⊥) → (p ≤ due j i) × (n ≤ q i) × CanCarryFrom j p old (tried_from j old q n i)
  kept_again i n r h o =
      let whole = (own.2 i n r).1 h in
      let part : 1 ≤ bytes_of_layer more i n = ne_more (bytes_of_layer old i n) (bytes_of_layer more i n) (bytes_of_layer (old ++ more) i n) (size j i n) (joined_bytes i n) whole o in
      let x = some_row (λ y. eqb y.chunk i && eqb y.layer n) more part in
      let k = eqb→eq x.row.chunk i (and_T (eqb x.row.chunk i) (eqb x.row.layer n) x.passes).0 in
      let due-then : x.row.slot ≤ due j i = rw k at (at_row (OnTime j) (in_right old more x.listed) own.0.on_time_lem) in
      let low = (can_carry_fits_from j sized p old old_acceptable q plan.choice own_can_carry).whole in
      let not_whole : level j old i ≤ n =
      ⊎_elim (λ u. absurd (o ((level_iff j old old_lower i n r).1 (ltb→lt n (level j old i) u)))) (λ u. nltb→le n (level j old i) u) (test (ltb n (level j old i))) in
      let z = tried_from j old q n i in
      let from : (k : ℕ) → 1 ≤ k → k ≤ chunks j → level j old k ≤ z k =
      λ k u v. ⊎_elim (λ e. let e' = eqb→eq k i e in rw (e', eq-eqb i i refl) (omega arith)) (λ e. rw (not_T_false (eqb k i) e) (omega arith)) (test (eqb k i)) in
      let to : (k : ℕ) → 1 ≤ k → k ≤ chunks j → z k ≤ q k =
      λ k u v. ⊎_elim (λ e. let e' = eqb→eq k i e in rw (e', eq-eqb i i refl) h) (λ e. rw (not_T_false (eqb k i) e) (omega (arith, low k u v))) (test (eqb k i)) in (
        omega (arith, due-then, at_row (λ x. p ≤ x.slot) x.listed later),
        omega arith,
        fits_can_carry_from j sized p old old_acceptable z (tried_from_choice j old q i n plan.choice r.layer_in) (can_carry_fits_below j sized p old old_acceptable q plan.choice own_can_carry z from to),
      )
    where
      ne_more : (a b c s : ℕ) → c ≡ a + b → c ≡ s → (a ≡ s → ⊥) → 1 ≤ b
      ne_more a b c s x y o = ⊎_elim (λ u. leb→le 1 b u) (λ u. absurd (o (omega (arith, nleb→lt 1 b u)))) (test (leb 1 b))

  pub standing_is_replan : IsReplan j p old q
  standing_is_replan =
      record {
        choice = plan.choice;
        decided = (settles_tried_from_iff j p old old_lower q).1 (λ i n r. (
          λ h. ⊎_elim (λ u. inl (eqb→eq _ _ u)) (λ u. inr (kept_again i n r h (λ c. T_not (carried j old i n) u ((eqb_iff _ _).1 c)))) (test (carried j old i n)),
          ⊎_elim
              (λ c. old_of_plan i n r (omega (arith, c, sized i n r)))
              (λ u.
              let z = tried_from j old q n i in
              ((settles_tried_iff j q n).0 (plan.decided n) i r).1 (
                u.1,
                fits_can_carry j sized (tried q n i) (tried_choice j q i n plan.choice r.layer_in)
                    (fits_from_start j sized p old z (tried q n i) (tried_from_choice j old q i n plan.choice r.layer_in) u.2 (λ k a b. tried_under j old q n i k)),
              )),
        ));
      }

  -- ---- its own rows from p on are the rest of its list

  same_state : (m : ℕ) → fetched_from j p old q m ≡ fetched_by j q (m + t)
  same_state zero =
      let e : t ≡ 0 + t = omega arith in
      ap (λ (l : List Piece). record { rows = old; left = l }) (sym so.left_is) ∙ ap (fetched_by j q) e
  same_state (suc m) =
      let e : m + p ≡ suc (m + t) = omega arith in
      let e' : suc (m + t) ≡ suc m + t = omega arith in
      ap (λ (g : Fetched). slot_takes j (m + p) (forecast j (m + p)) g.rows g.left) (same_state m)
      ∙ ap (λ (s : ℕ). slot_takes j s (forecast j s) (fetched_by j q (m + t)).rows (fetched_by j q (m + t)).left) e
      ∙ ap (fetched_by j q) e'

  pub rest_is_more : own_rest j p old q ≡ more
  unfolding own_rest
  rest_is_more =
      let e : suc (last_slot j) - p + t ≡ last_slot j - t + t = omega arith in
      ap (λ (g : Fetched). drop (length old) g.rows) (same_state (suc (last_slot j) - p) ∙ ap (fetched_by j q) e)
      ∙ ap (drop (length old)) steps.rows_are
      ∙ drop-append_seam old more

-- ---- the theorem

fetched_cong : (j : Job) (p : ℕ) (fetched : List Row) (a b : ℕ → ℕ) → Same j a b → (m : ℕ) → fetched_from j p fetched a m ≡ fetched_from j p fetched b m
fetched_cong j p fetched a b e zero = rw (carried_cong j a b e (chunks j) (omega arith))
fetched_cong j p fetched a b e (suc m) = rw (fetched_cong j p fetched a b e m)

-- The own rows from p on depend on the layers of the job's chunks alone.
pub own_rest_cong : (j : Job) (p : ℕ) (fetched : List Row) (a b : ℕ → ℕ) → Same j a b → own_rest j p fetched a ≡ own_rest j p fetched b
unfolding own_rest
own_rest_cong j p fetched a b e = ap (λ (g : Fetched). drop (length fetched) g.rows) (fetched_cong j p fetched a b e (suc (last_slot j) - p))

-- Of a plan q settled by trials for the whole job and its own rows before p (Desk, `Continues`):
pub record GoesOn (j : Job) (q : ℕ → ℕ) (p : ℕ) : Type 0 where
  -- its rows before p are not refused,
  pub acceptable : Acceptable j p (rows_before p (own_list j q))
  -- it is the plan made afresh, and the only one,
  pub again : IsReplan j p (rows_before p (own_list j q)) q
  pub only : (plan : ℕ → ℕ) → IsReplan j p (rows_before p (own_list j q)) plan → Same j plan q
  -- and its own rows are the rest.
  pub rest : (plan : ℕ → ℕ) → IsReplan j p (rows_before p (own_list j q)) plan → own_rest j p (rows_before p (own_list j q)) plan ≡ rows_from p (own_list j q)

pub standing_plan : (j : Job) → Accepted j → (q : ℕ → ℕ) → SettledByTrials j q → (p : ℕ) → 1 ≤ p → p ≤ last_slot j → GoesOn j q p
standing_plan j a q plan p lo hi =
    let sized = accepted_sized j a in
    let o = old j sized q plan p lo hi in
    let m = more j sized q plan p lo hi in
    let b = before j sized q plan p lo hi in
    let l = later j sized q plan p lo hi in
    let s = own_split j sized q plan p lo hi in
    let is-old : o ≡ rows_before p (own_list j q) = sym (ap (rows_before p) s ∙ before_all p o m b l) in
    let is-more : m ≡ rows_from p (own_list j q) = sym (ap (rows_from p) s ∙ from_all p o m b l) in
    let ok = subst (Acceptable j p) is-old (old_acceptable j sized q plan p lo hi) in
    let again = subst (λ (h : List Row). IsReplan j p h q) is-old (standing_is_replan j sized q plan p lo hi) in
    let only : (x : ℕ → ℕ) → IsReplan j p (rows_before p (own_list j q)) x → Same j x q = λ x d. replans_agree j p (rows_before p (own_list j q)) ok x q d again in
    record {
      acceptable = ok;
      again = again;
      only = only;
      rest = λ x d.
          own_rest_cong j p (rows_before p (own_list j q)) x q (only x d)
          ∙ subst (λ (h : List Row). own_rest j p h q ≡ m) is-old (rest_is_more j sized q plan p lo hi)
          ∙ is-more;
    }

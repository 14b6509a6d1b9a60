-- Lemmas. The slots from p on fetch all that a fitting choice has left: one invariant over the rows
-- taken and one over the slots. Where rule 6 holds a chunk back, more than H chunks up to it are
-- due later, and what is left from it on fits behind that slot.
use Rattle.std.specs.Prelude.{ℕ, zero, suc, ◌+◌, ◌-◌, ◌≤◌, ◌<◌, max, ◌≡◌, refl, Bool, true, false, not, cond, ◌&&◌, ◌||◌, List, [], ◌∷◌, ◌++◌, ◌⊎◌, T, leb, ltb, eqb}
use Rattle.std.proofs.Common.{sym, ap, ◌∙◌, subst, append_assoc, append-nil, inl, inr, ⊎_elim, arith, eq-eqb, ne_eqb, lt-ltb, le-ltb, leb→le, ltb→lt, nltb→le, le→leb, lt→ltb, eqb→eq}
use Rattle.std.proofs.Math.Dec.{nleb→lt}
use Rattle.theory_basics.specs.Lists.{has}
use Rattle.theory_basics.specs.Sums.{count, pre}
use Rattle.theory_basics.specs.Tests.{All, here, In}
use Rattle.theory_basics.specs.lemmas.Ranges.{count_mono, pre_mono}
use Rattle.theory_basics.specs.lemmas.Tests.{all_append, all_map, and_T, any_row_lem, at_row, each_row, eqb_iff, in_append, in_left, in_right, T_and, T_or_iff, test, tests, neqb_ne}
use Rattle.job.specs.Job.{chunks, due, forecast, held_most, Job, last_slot, Layer, layers, size}
use Rattle.fetch.specs.Rows.{begun, bytes_in_slot, bytes_of_layer, held, held_count, Row}
use Rattle.fetch.specs.Rules.{FewHeld, RowInRange, OnTime, WithinForecast}
use Rattle.fetch.specs.lemmas.Rows.{bytes_append, bytes_none}
use Rattle.theory_plan.specs.Own.{allowed, carried_to, Fetched, Piece, row_of, slot_takes}
use Rattle.theory_plan.specs.Plan.{after}
use Rattle.theory_plan.specs.Statement.{Choice}
use Rattle.theory_plan.specs.lemmas.Count.{some_row, sum_any}
use Rattle.theory_plan.specs.lemmas.Kept.{has_picked, picked_asc}
use Rattle.theory_plan.specs.lemmas.Queue.{at_layer}
use Rattle.theory_plan.specs.lemmas.Words.{after_anti, carries, layer_of, Sized}
use Rattle.theory_replan.specs.Plan.{after_from, busy, busy_chunks, bytes_left}
use Rattle.theory_replan.specs.Own.{fetched_from, unfetched}
use Rattle.theory_replan.specs.Statement.{Acceptable}
use Rattle.theory_replan.specs.lemmas.Fits.{FitsFrom}
use Rattle.theory_replan.specs.lemmas.Held.{begun_by, begun_more, begun_row, carries_more, carries_row, few_step, held_same, in_last}
use Rattle.theory_replan.specs.lemmas.Parts.{blocked_need, count_picked, has_since, left_none, left_if, needs_le, needs_of, of_chunk, Rising, rising_chunks, since, since_asc}
use Rattle.theory_replan.specs.lemmas.Take.{Ends, slot_ends, Stop, Taken, taken_all, taken_keys, taken_left, taken_needs, taken_paid, taken_rising, taken_some}
use Rattle.theory_replan.specs.lemmas.Unfetched.{carried_all, carried_rises, Chosen, left_of_chunk, left_of_layer, unfetched_all, unfetched_rising}
use Rattle.theory_plan.specs.Bases.{Asc}

after_step : (j : Job) (t : ℕ) → 1 ≤ t → t ≤ last_slot j → after j (t - 1) ≡ forecast j t + after j t
after_step j zero h l = absurd (omega arith)
after_step j (suc t) h l = let e : suc t - 1 ≡ t = omega arith in ap (after j) e ∙ one (forecast j) (last_slot j) (pre_mono (forecast j) (suc t) (last_slot j) l)
  where
    one : (B : ℕ → ℕ) (n : ℕ) → pre B (suc t) ≤ pre B n → pre B n - pre B t ≡ B (suc t) + (pre B n - pre B (suc t))
    one B n h = omega arith

-- A slot from p on has its own forecast.
pub from_step : (j : Job) (p t : ℕ) → 1 ≤ p → p ≤ t → t ≤ last_slot j → after j (t - 1) ≡ forecast j t + after_from j p t
from_step j p t g h l = let e : max t (p - 1) ≡ t = omega arith in rw e (after_step j t (omega arith) l)

pub from_anti : (j : Job) (p x y : ℕ) → x ≤ y → after_from j p y ≤ after_from j p x
from_anti j p x y h = after_anti j (max x (p - 1)) (max y (p - 1)) (omega arith)

module _ (j : Job) (sized : Sized j) (p : ℕ) (fetched : List Row) (ok : Acceptable j p fetched) (lv : ℕ → ℕ) (choice : Choice j lv) (f : FitsFrom j p fetched lv) where
  abbrev pub A : ℕ → ℕ
  A = after_from j p

  -- What is to be fetched from p on.
  abbrev pub start : List Piece
  start = unfetched fetched (carried_to j lv (chunks j))

  -- What a layer sums to in the end.
  abbrev pub target : ℕ → ℕ → ℕ
  target i n = bytes_of_layer fetched i n + left_if (at_layer i n) start

  pub target_in : (i n : ℕ) → 1 ≤ i → i ≤ chunks j → n < lv i → target i n ≡ size j i n
  target_in i n g h l =
      omega (arith, rw (lt-ltb n (lv i) l) at (left_of_layer fetched j lv i n g h), ok.no_more_lem i n (layer_of j i n g h (omega (arith, choice i g h))))

  pub target_out : (i n : ℕ) → 1 ≤ i → i ≤ chunks j → lv i ≤ n → target i n ≡ bytes_of_layer fetched i n
  target_out i n g h l = omega (arith, rw (le-ltb n (lv i) l) at (left_of_layer fetched j lv i n g h))

  -- A part is of the choice and has bytes.
  abbrev pub Good : Piece → Type 0
  Good q = Chosen j lv (chunks j) q.chunk q.layer × (1 ≤ q.bytes)

  -- In slot t, with c bytes of its forecast unspent.
  pub record Inv (t c : ℕ) (rows : List Row) (left : List Piece) : Type 0 where
    pub made : List Row
    pub made_is : rows ≡ fetched ++ made
    pub made_later : All (λ x. p ≤ x.slot) made
    pub rising : Rising left
    pub good : All Good left
    pub books : (i n : ℕ) → bytes_of_layer rows i n + left_if (at_layer i n) left ≡ target i n
    pub chunk_left : (k : ℕ) → left_if (of_chunk k) left ≤ bytes_left j fetched lv k
    pub fits : needs_of (due j) A left ≤ c + A t
    pub paid : bytes_in_slot rows t + c ≤ forecast j t
    pub within : WithinForecast j rows
    pub slots : All (λ x. x.slot ≤ t) rows
    pub range : All (RowInRange j) rows
    pub on_time_lem : All (OnTime j) rows
    pub few : FewHeld j rows
    pub busy_rows : All (λ x. T (busy fetched lv x.chunk)) rows
    pub front : All (λ q. T (carries rows q.chunk) ⊎ All (λ x. x.chunk ≤ q.chunk) rows) left
    pub order : (x : Row) → In x rows → (i : ℕ) → 1 ≤ i → i < x.chunk → 1 ≤ lv i → T (begun rows x.slot i)

  kept_busy : (i n : ℕ) → n < lv i → T (busy fetched lv i)
  kept_busy i n h = (T_or_iff (carries fetched i) (leb 1 (lv i))).1 (inr (le→leb 1 (lv i) (omega arith)))

  -- ---- a row is taken

  module _ (t : ℕ) (from : p ≤ t) (to : t ≤ last_slot j) where
    -- The first part left is not due before t.
    pub due_later : (c : ℕ) (rows : List Row) (q : Piece) (qs : List Piece) → Inv t c rows (q ∷ qs) → t ≤ due j q.chunk
    due_later c rows q qs v =
        ⊎_elim
        (λ u. leb→le t (due j q.chunk) u)
        (λ u.
        let l : due j q.chunk < t = nleb→lt t (due j q.chunk) u in
        let a : after j (t - 1) ≤ A (due j q.chunk) = after_anti j (max (due j q.chunk) (p - 1)) (t - 1) (omega arith) in
        let b : after j (t - 1) ≡ forecast j t + A t = from_step j p t ok.p_low from to in
        absurd (short (A (due j q.chunk)) (A t) (after j (t - 1)) (forecast j t) c (bytes_in_slot rows t) q.bytes (needs_of (due j) A qs) a b v.fits v.paid v.good.0.1))
        (test (leb t (due j q.chunk)))
      where
        short : (x y z B c s b n : ℕ) → z ≤ x → z ≡ B + y → b + max x n ≤ c + y → s + c ≤ B → 1 ≤ b → ⊥
        short x y z B c s b n h e k m l = omega arith

    -- A kept chunk before the first part left has begun.
    pub before_first :
        (c : ℕ) (rows : List Row) (q : Piece) (qs : List Piece) → Inv t c rows (q ∷ qs) → (i : ℕ) → 1 ≤ i → i < q.chunk → 1 ≤ lv i →
        T (carries rows i)
    before_first c rows q qs v i g h l =
        let hi : i ≤ chunks j = omega (arith, v.good.0.0.chunk_high) in
        let none : left_if (at_layer i 0) (q ∷ qs) ≡ 0 =
        left_none (at_layer i 0) (q ∷ qs) (all_map (λ r. q.chunk ≤ r.chunk) (λ r. T (at_layer i 0 r.chunk r.layer) → ⊥) (q ∷ qs) (λ r u w. let z = and_T (eqb r.chunk i) (eqb r.layer 0) w in omega (arith, eqb→eq r.chunk i z.0)) (rising_chunks q qs v.rising)) in
        let some : 1 ≤ size j i 0 = sized i 0 (layer_of j i 0 g hi (omega (arith, choice i g hi))) in
        sum_any (λ x. eqb x.chunk i && eqb x.layer 0) (λ x. eqb x.chunk i) (λ x u. (and_T (eqb x.chunk i) (eqb x.layer 0) u).0) rows
        (lower (bytes_of_layer rows i 0) (left_if (at_layer i 0) (q ∷ qs)) (target i 0) (size j i 0) (v.books i 0) none (target_in i 0 g hi l) some)
      where
        lower : (a b c d : ℕ) → a + b ≡ c → b ≡ 0 → c ≡ d → 1 ≤ d → 1 ≤ a
        lower a b c d x y z w = omega arith

    pub step :
        (c : ℕ) (rows : List Row) (q : Piece) (qs : List Piece) (b c' : ℕ) (left : List Piece) → Taken c q qs b c' left →
        T (allowed j rows t q) → Inv t c rows (q ∷ qs) → Inv t c' (rows ++ (row_of t q b ∷ [])) left
    step c rows q qs b c' left k al v =
        let x = row_of t q b in
        let good = v.good.0 in
        let some : 1 ≤ b = taken_some k good.1 in
        let spent : b + c' ≡ c = taken_paid k in
        let in_slot_lem : bytes_in_slot (rows ++ (x ∷ [])) t ≡ bytes_in_slot rows t + b =
        bytes_append (λ y. eqb y.slot t) rows (x ∷ []) ∙ rw (eq-eqb t t refl) (omega arith) in
        let paid' : bytes_in_slot (rows ++ (x ∷ [])) t + c' ≤ forecast j t = omega (arith, in_slot_lem, spent, v.paid) in
        record {
          made = v.made ++ (x ∷ []);
          made_is = ap (λ (l : List Row). l ++ (x ∷ [])) v.made_is ∙ append_assoc fetched v.made (x ∷ []);
          made_later = all_append (λ y. p ≤ y.slot) v.made (x ∷ []) v.made_later (from, tt);
          rising = taken_rising k v.rising;
          good = taken_all (Chosen j lv (chunks j)) k v.good;
          books = λ i n. omega (arith, v.books i n, taken_left (at_layer i n) k, bytes_append (λ y. eqb y.chunk i && eqb y.layer n) rows (x ∷ []));
          chunk_left = λ g. omega (arith, v.chunk_left g, taken_left (of_chunk g) k);
          fits = less (needs_of (due j) A left) (needs_of (due j) A (q ∷ qs)) b c c' (A t) (taken_needs (due j) A k) spent v.fits;
          paid = paid';
          within = λ s u w.
              ⊎_elim
              (λ e. let e' : t ≡ s = eqb→eq t s e in subst (λ (s : ℕ). bytes_in_slot (rows ++ (x ∷ [])) s ≤ forecast j s) e' (least (bytes_in_slot (rows ++ (x ∷ [])) t) c' (forecast j t) paid'))
              (λ e.
              let o : t ≡ s → ⊥ = neqb_ne t s e in
              omega (arith, v.within s u w, rw (ne_eqb t s o) at (bytes_append (λ y. eqb y.slot s) rows (x ∷ []))))
              (test (eqb t s));
          slots = all_append (λ y. y.slot ≤ t) rows (x ∷ []) v.slots (omega arith, tt);
          range =
              all_append (RowInRange j) rows (x ∷ []) v.range (
                record {
                  slot_low = omega (arith, ok.p_low);
                  slot_high = to;
                  chunk_low = good.0.chunk_low;
                  chunk_high = good.0.chunk_high;
                  layer_in = omega (arith, good.0.layer_in, choice q.chunk good.0.chunk_low good.0.chunk_high);
                  some_bytes = some;
                },
                tt,
              );
          on_time_lem = all_append (OnTime j) rows (x ∷ []) v.on_time_lem (due_later c rows q qs v, tt);
          few = few_step j rows t v.slots q b v.few al;
          busy_rows = all_append (λ y. T (busy fetched lv y.chunk)) rows (x ∷ []) v.busy_rows (kept_busy q.chunk q.layer good.0.layer_in, tt);
          front =
              taken_keys (λ i n. T (carries (rows ++ (x ∷ [])) i) ⊎ All (λ y. y.chunk ≤ i) (rows ++ (x ∷ []))) k (
                inl (carries_row (rows ++ (x ∷ [])) q.chunk x (in_right rows (x ∷ []) here) refl),
                each_row (λ r. T (carries (rows ++ (x ∷ [])) r.chunk) ⊎ All (λ y. y.chunk ≤ r.chunk) (rows ++ (x ∷ []))) qs (λ r i.
                    let up : q.chunk ≤ r.chunk = at_row (λ r. q.chunk ≤ r.chunk) i (rising_chunks q qs v.rising).1 in
                    ⊎_elim
                    (λ u. inl (carries_more rows (x ∷ []) r.chunk u))
                    (λ u. inr (all_append (λ y. y.chunk ≤ r.chunk) rows (x ∷ []) u (up, tt)))
                    (at_row (λ q. T (carries rows q.chunk) ⊎ All (λ x. x.chunk ≤ q.chunk) rows) i v.front.1)),
              );
          order = λ y i e g h l.
              ⊎_elim
              (λ m. begun_more rows (x ∷ []) y.slot e (v.order y m e g h l))
              (λ m.
              let same = in_last x y m in
              let h' : e < q.chunk = rw same at h in
              let z = some_row (λ z. eqb z.chunk e) rows (before_first c rows q qs v e g h' l) in
              rw same
              (begun_row (rows ++ (x ∷ [])) t e z.0 (in_left rows (x ∷ []) z.1) (eqb→eq _ _ z.2) (at_row (λ x. x.slot ≤ t) z.1 v.slots)))
              (in_append rows (x ∷ []) i);
        }
      where
        less : (n m b c c' a : ℕ) → b + n ≤ m → b + c' ≡ c → m ≤ c + a → n ≤ c' + a
        less n m b c c' a x y z = omega arith

        least : (a c b : ℕ) → a + c ≤ b → a ≤ b
        least a c b h = omega arith

    -- ---- a slot ends

    -- Where rule 6 does not allow the first part left, all that is left fits behind the slot.
    blocked_fits :
        (c : ℕ) (rows : List Row) (q : Piece) (qs : List Piece) → Inv t c rows (q ∷ qs) → T (not (allowed j rows t q)) →
        needs_of (due j) A (q ∷ qs) ≤ A t
    blocked_fits c rows q qs v refused =
        let one = row_of t q 1 in
        let many : held_most j < held_count j (rows ++ (one ∷ [])) t = nleb→lt (held_count j (rows ++ (one ∷ [])) t) (held_most j) refused in
        let low : 1 ≤ t = omega (arith, ok.p_low) in
        ⊎_elim
        (λ u.
        absurd
        (omega (
          arith,
          many,
          v.few t low to,
          count_mono (held j (rows ++ (one ∷ [])) t) (held j rows t) (chunks j) (λ i x y. held_same j rows t v.slots q i u),
        )))
        (λ u.
        let late : ℕ → Bool = λ i. ltb t (due j i) in
        let cs = busy_chunks j fetched lv in
        let asc : Asc 1 (chunks j) cs = picked_asc (busy fetched lv) 0 (chunks j) (chunks j) (omega arith) in
        let e : chunks j + 0 ≡ chunks j = omega arith in
        let counted = rw e at (count_picked (busy fetched lv) late q.chunk 0 (chunks j)) in
        let seen = count_mono (held j (rows ++ (one ∷ [])) t) (λ i. busy fetched lv i && (leb i q.chunk && late i)) (chunks j) (λ i x y w. seen_late u i w) in
        let w = bytes_left j fetched lv in
        let behind = blocked_need w (due j) A (from_anti j p) (held_most j) t q.chunk 1 (chunks j) cs asc f.feas.tails (omega (arith, many, counted, seen)) in
        let parts =
        needs_le w (due j) A (since q.chunk cs) q.chunk (chunks j) (since_asc q.chunk 1 (chunks j) cs asc) (q ∷ qs) v.rising (all_has q.chunk (q ∷ qs) v.good (rising_chunks q qs v.rising)) v.chunk_left in
        under (needs_of (due j) A (q ∷ qs)) _ (A t) parts behind)
        v.front.0
      where
        under : (a b c : ℕ) → a ≤ b → b ≤ c → a ≤ c
        under a b c x y = omega arith

        seen_late :
            All (λ x. x.chunk ≤ q.chunk) rows → (i : ℕ) → T (held j (rows ++ (row_of t q 1 ∷ [])) t i) →
            T (busy fetched lv i && (leb i q.chunk && ltb t (due j i)))
        seen_late u i w =
            let one = row_of t q 1 in
            let z = and_T (begun (rows ++ (one ∷ [])) t i) (ltb t (due j i)) w in
            let y = begun_by (rows ++ (one ∷ [])) t i z.0 in
            ⊎_elim
            (λ (m : In y.row rows).
            let b : T (busy fetched lv i) = subst (λ (k : ℕ). T (busy fetched lv k)) y.chunk_is (at_row (λ (x : Row). T (busy fetched lv x.chunk)) m v.busy_rows) in
            let l : i ≤ q.chunk = omega (arith, at_row (λ x. x.chunk ≤ q.chunk) m u, y.chunk_is) in
            T_and (busy fetched lv i) (leb i q.chunk && ltb t (due j i)) b (T_and (leb i q.chunk) (ltb t (due j i)) (le→leb i q.chunk l) z.1))
            (λ (m : In y.row (one ∷ [])).
            let s = in_last one y.row m in
            let k : q.chunk ≡ i = rw s at y.chunk_is in
            let b : T (busy fetched lv i) = subst (λ (k : ℕ). T (busy fetched lv k)) k (kept_busy q.chunk q.layer v.good.0.0.layer_in) in
            T_and (busy fetched lv i) (leb i q.chunk && ltb t (due j i)) b (T_and (leb i q.chunk) (ltb t (due j i)) (le→leb i q.chunk (omega arith)) z.1))
            (in_append rows (one ∷ []) y.listed)

        all_has :
            (c : ℕ) (ps : List Piece) → All Good ps → All (λ r. c ≤ r.chunk) ps →
            All (λ r. T (has (since c (busy_chunks j fetched lv)) r.chunk)) ps
        all_has c ps g l =
            each_row (λ r. T (has (since c (busy_chunks j fetched lv)) r.chunk)) ps (λ r i.
            let k = (at_row Good i g).0 in
            has_since c r.chunk (busy_chunks j fetched lv) (at_row (λ r. c ≤ r.chunk) i l)
            (subst T (sym (has_picked (busy fetched lv) 0 (chunks j) r.chunk k.chunk_low (omega (arith, k.chunk_high)))) (kept_busy r.chunk r.layer k.layer_in)))

    stop_fits : (c : ℕ) (rows : List Row) (left : List Piece) → Inv t c rows left → Stop j t c rows left → needs_of (due j) A left ≤ A t
    stop_fits c rows [] v s = omega arith
    stop_fits c rows (q ∷ qs) v (inl e) = spent (needs_of (due j) A (q ∷ qs)) c (A t) v.fits e
      where
        spent : (n c a : ℕ) → n ≤ c + a → c ≡ 0 → n ≤ a
        spent n c a h e = omega arith
    stop_fits c rows (q ∷ qs) v (inr refused) = blocked_fits c rows q qs v refused

    next_slot :
        suc t ≤ last_slot j → (c : ℕ) (rows : List Row) (left : List Piece) → Inv t c rows left → needs_of (due j) A left ≤ A t →
        Inv (suc t) (forecast j (suc t)) rows left
    next_slot h c rows left v n =
        let a : A t ≡ forecast j (suc t) + A (suc t) =
        let e : max t (p - 1) ≡ suc t - 1 = omega arith in ap (after j) e ∙ from_step j p (suc t) ok.p_low (omega arith) h in
        record {
          made = v.made;
          made_is = v.made_is;
          made_later = v.made_later;
          rising = v.rising;
          good = v.good;
          books = v.books;
          chunk_left = v.chunk_left;
          fits = as_said (needs_of (due j) A left) (A t) (forecast j (suc t) + A (suc t)) n a;
          paid = nothing_yet (bytes_in_slot rows (suc t)) (forecast j (suc t)) (bytes_none (λ x. eqb x.slot (suc t)) rows (λ x i u. omega (arith, at_row (λ x. x.slot ≤ t) i v.slots, eqb→eq x.slot (suc t) u)));
          within = v.within;
          slots = all_map (λ x. x.slot ≤ t) (λ x. x.slot ≤ suc t) rows (λ x u. omega arith) v.slots;
          range = v.range;
          on_time_lem = v.on_time_lem;
          few = v.few;
          busy_rows = v.busy_rows;
          front = v.front;
          order = v.order;
        }
      where
        as_said : (n a b : ℕ) → n ≤ a → a ≡ b → n ≤ b
        as_said n a b h e = omega arith

        nothing_yet : (s b : ℕ) → s ≡ 0 → s + b ≤ b
        nothing_yet s b e = omega arith

  -- ---- before the first slot

  begin : Inv p (forecast j p) fetched start
  begin =
      let w = bytes_left j fetched lv in
      let cs = busy_chunks j fetched lv in
      let asc : Asc 1 (chunks j) cs = picked_asc (busy fetched lv) 0 (chunks j) (chunks j) (omega arith) in
      let good = unfetched_all fetched (Chosen j lv (chunks j)) (carried_to j lv (chunks j)) (carried_all j lv (chunks j)) in
      let rises = unfetched_rising fetched (carried_to j lv (chunks j)) (carried_rises j lv (chunks j)) in
      let left : (k : ℕ) → left_if (of_chunk k) start ≤ w k = left_of_chunk fetched j lv in
      let need-all =
      needs_le w (due j) A cs 1 (chunks j) asc start rises
      (each_row (λ r. T (has cs r.chunk)) start (λ r i.
      let k = (at_row Good i good).0 in
      subst T (sym (has_picked (busy fetched lv) 0 (chunks j) r.chunk k.chunk_low (omega (arith, k.chunk_high)))) (kept_busy r.chunk r.layer k.layer_in)))
      left in
      let a : A 0 ≡ forecast j p + A p =
      let e : max 0 (p - 1) ≡ p - 1 = omega arith in ap (after j) e ∙ from_step j p p ok.p_low (omega arith) ok.p_high in
      record {
        made = [];
        made_is = sym (append-nil fetched);
        made_later = tt;
        rising = rises;
        good = good;
        books = λ i n. refl;
        chunk_left = left;
        fits = chain (needs_of (due j) A start) _ (A 0) (forecast j p + A p) need-all f.feas.whole a;
        paid = nothing_yet (bytes_in_slot fetched p) (forecast j p) (bytes_none (λ x. eqb x.slot p) fetched (λ x i u. omega (arith, at_row (λ x. x.slot < p) i ok.before, eqb→eq x.slot p u)));
        within = ok.within;
        slots = all_map (λ x. x.slot < p) (λ x. x.slot ≤ p) fetched (λ x u. omega arith) ok.before;
        range = ok.in_range_lem;
        on_time_lem = ok.on_time_lem;
        few = ok.few_held;
        busy_rows = each_row (λ x. T (busy fetched lv x.chunk)) fetched (λ x i. (T_or_iff (carries fetched x.chunk) (leb 1 (lv x.chunk))).1 (inl (carries_row fetched x.chunk x i refl)));
        front =
            each_row (λ q. T (carries fetched q.chunk) ⊎ All (λ x. x.chunk ≤ q.chunk) fetched) start (λ q i.
            let k = (at_row Good i good).0 in
            ⊎_elim
            (λ u. inl u)
            (λ u. inr (all_map (λ x. x.chunk < q.chunk) (λ x. x.chunk ≤ q.chunk) fetched (λ x h. omega arith) u))
            (f.in_front_lem q.chunk k.chunk_low k.chunk_high (omega (arith, k.layer_in))));
        order = λ x i e g h l.
            let hi : e ≤ chunks j = omega (arith, (at_row (RowInRange j) i ok.in_range_lem).chunk_high) in
            ⊎_elim
            (λ u.
            let y = some_row (λ y. eqb y.chunk e) fetched u in
            let k : y.0.chunk ≡ e = eqb→eq _ _ y.2 in
            rw k at (ok.in_turn_lem x y.0 i y.1 (omega arith)))
            (λ u. absurd (omega (arith, at_row (λ x. x.chunk < e) i u)))
            (f.in_front_lem e g hi l);
      }
    where
      chain : (a b c d : ℕ) → a ≤ b → b ≤ c → c ≡ d → a ≤ d
      chain a b c d x y z = omega arith

      nothing_yet : (s b : ℕ) → s ≡ 0 → s + b ≤ b
      nothing_yet s b e = omega arith

  -- ---- all slots

  pub run :
      (m : ℕ) → m + p ≤ last_slot j →
      Inv (m + p) (forecast j (m + p)) (fetched_from j p fetched lv m).rows (fetched_from j p fetched lv m).left
  run zero h = let e : 0 + p ≡ p = omega arith in subst (λ (t : ℕ). Inv t (forecast j t) fetched start) (sym e) begin
  run (suc m) h =
      let t : ℕ = m + p in
      let g = fetched_from j p fetched lv m in
      let o = slot_ends j t (Inv t) (step t (omega arith) (omega arith)) (forecast j t) g.rows g.left (run m (omega arith)) in
      let e : suc (m + p) ≡ suc m + p = omega arith in
      let rows = (slot_takes j t (forecast j t) g.rows g.left).rows in
      let left = (slot_takes j t (forecast j t) g.rows g.left).left in
      subst
      (λ (s : ℕ). Inv s (forecast j s) rows left)
      e
      (next_slot t (omega arith) (omega arith) (omega arith) o.over rows left o.holds (stop_fits t (omega arith) (omega arith) o.over rows left o.holds o.why))

  -- At the end nothing is left.
  pub record Fetches (g : Fetched) : Type 0 where
    pub over : ℕ
    pub holds : Inv (last_slot j) over g.rows g.left
    pub none_left : g.left ≡ []

  all_fetched : (left : List Piece) → All Good left → needs_of (due j) A left ≤ A (last_slot j) → left ≡ []
  all_fetched [] g n = refl
  all_fetched (q ∷ qs) g n =
      let e : max (last_slot j) (p - 1) ≡ last_slot j = omega (arith, ok.p_high) in
      let z : A (last_slot j) ≡ 0 = ap (after j) e ∙ omega arith in
      absurd (omega (arith, z, n, g.0.1))

  pub fetches : Fetches (fetched_from j p fetched lv (suc (last_slot j) - p))
  fetches =
      let m : ℕ = last_slot j - p in
      let e : suc m ≡ suc (last_slot j) - p = omega (arith, ok.p_high) in
      let t : ℕ = m + p in
      let s : t ≡ last_slot j = omega (arith, ok.p_high) in
      let g = fetched_from j p fetched lv m in
      let o = slot_ends j t (Inv t) (step t (omega arith) (omega arith)) (forecast j t) g.rows g.left (run m (omega arith)) in
      let rows = (slot_takes j t (forecast j t) g.rows g.left).rows in
      let left = (slot_takes j t (forecast j t) g.rows g.left).left in
      let n = stop_fits t (omega arith) (omega arith) o.over rows left o.holds o.why in
      subst (λ (k : ℕ). Fetches (fetched_from j p fetched lv k)) e
      (record {
        over = o.over;
        holds = subst (λ (x : ℕ). Inv x o.over rows left) s o.holds;
        none_left = all_fetched left o.holds.good (subst (λ (x : ℕ). needs_of (due j) A left ≤ A x) s n);
      })

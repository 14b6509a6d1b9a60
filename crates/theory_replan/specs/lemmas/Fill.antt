-- Lemmas, then the theorem `rest_is_fill`: the own rows from p on, which ask rule 6 itself, are the
-- landed fill from slot p on, of the layers still to be fetched, with the landed releases of the
-- chunks begun or kept and due from p on. So the code's fill serves as it is.
use Prim.Native.Nat.{ℕ, zero, suc, ◌+◌, ◌-◌, ◌≤◌, ◌<◌}
use Rattle.std.specs.Prelude.{◌≡◌, refl, Bool, true, false, not, cond, ◌&&◌, ◌||◌, ◌⊎◌, ◌↔◌, length, T, leb, ltb, eqb}
use Rattle.std.proofs.Common.{sym, ◌∙◌, subst, inl, inr, ⊎_elim, eq-eqb, le-leb, ne_eqb, T_not, leb→le, ltb→lt, nltb→le, le→leb, lt→ltb, eqb→eq}
use Rattle.std.proofs.Math.Path.{ap, fun_ext}
use mathlib.Core.List.{List, [], ◌∷◌, ◌++◌, append_assoc, map, append-nil}
use native.Mathlib.Omega.{arith}
use Rattle.std.proofs.Math.ListN.{drop}
use Rattle.std.proofs.Math.Dec.{nleb→lt}
use Rattle.std.proofs.Math.Seq.{drop-append_seam}
use Rattle.theory_basics.specs.Lists.{has}
use Rattle.theory_basics.specs.Sums.{count}
use Rattle.theory_basics.specs.Tests.{All, here, In}
use Rattle.theory_basics.specs.lemmas.Ranges.{count_cong, count_mono}
use Rattle.theory_basics.specs.lemmas.Tests.{and_T, at_row, by_cond_both, in_append, in_left, in_right, not_T_false, same_test, T_and, T_or_iff, T_true, test, neqb_ne}
use Rattle.job.specs.Job.{chunks, due, forecast, held_most, Job, last_slot, size}
use Rattle.fetch.specs.Rows.{begun, held, held_count, Row}
use Rattle.theory_plan.specs.Own.{allowed, carried_to, Fetched, Piece, row_of, slot_takes, without}
use Rattle.theory_plan.specs.Plan.{picked}
use Rattle.theory_plan.specs.Statement.{Choice}
use Rattle.theory_plan.specs.lemmas.Count.{some_row}
use Rattle.theory_plan.specs.lemmas.Fill.{after_row, fill, less, Out, QueuedPiece, rest_after, row, take_slot}
use Rattle.theory_plan.specs.lemmas.Kept.{has_picked, picked_asc, picked_each}
use Rattle.theory_plan.specs.lemmas.Queue.{has_low, ones, queue, releases, releases_enough}
use Rattle.theory_plan.specs.lemmas.Release.{Fair, fair_queue, ReleasedAt, with}
use Rattle.theory_plan.specs.lemmas.Words.{carries, Sized}
use Rattle.theory_replan.specs.Plan.{busy}
use Rattle.theory_replan.specs.Own.{fetched_from, own_rest, unfetched}
use Rattle.theory_replan.specs.Statement.{Acceptable}
use Rattle.theory_replan.specs.lemmas.Criterion.{busy_from}
use Rattle.theory_replan.specs.lemmas.Fits.{FitsFrom}
use Rattle.theory_replan.specs.lemmas.Held.{begun_by, begun_row, carries_more, carries_row, held_same, in_last}
use Rattle.theory_replan.specs.lemmas.Rest.{before_first, due_later, Inv, run, start, step}
use Rattle.theory_replan.specs.lemmas.Take.{all_of, part_of}
use Rattle.theory_plan.specs.Bases.{Asc}

-- ---- releases by chunk

-- The release of chunk k: that at its place in the list.
abbrev pub ready_of : List ℕ → List ℕ → ℕ → ℕ
ready_of [] rs k = 0
ready_of (x ∷ ks) [] k = 0
ready_of (x ∷ ks) (r ∷ rs) k = cond (eqb x k) r (ready_of ks rs k)

-- With the chunks b before them begun, each chunk's release says when rule 6 allows it.
abbrev FairList : Job → (ℕ → Bool) → List ℕ → List ℕ → Type 0
FairList j b ks rs = Fair j b (queue (size j) (λ k. 1) ks rs)

-- Rule 6 with the chunks of the list up to k begun.
released_at :
    (j : Job) (lo hi : ℕ) (b : ℕ → Bool) (ks rs : List ℕ) (k : ℕ) → Asc lo hi ks → length ks ≤ length rs → FairList j b ks rs → T (has ks k) →
    ReleasedAt j (λ i. b i || (has ks i && leb i k)) (ready_of ks rs k)
released_at j lo hi b [] rs k a l f t = absurd t
released_at j lo hi b (x ∷ ks) [] k a l f t = absurd (omega arith)
released_at j lo hi b (x ∷ ks) (r ∷ rs) k a l f t =
    ⊎_elim
    (λ u.
    let e : x ≡ k = eqb→eq x k u in
    let s : with x b ≡ (λ i. b i || (has (x ∷ ks) i && leb i k)) = fun_ext (λ i.
    same_test (eqb x i || b i) (b i || ((eqb x i || has ks i) && leb i k))
    (λ y. (T_or_iff (b i) ((eqb x i || has ks i) && leb i k)).1 (⊎_elim (λ z. let q = eqb→eq x i z in inr (T_and (eqb x i || has ks i) (leb i k) ((T_or_iff (eqb x i) (has ks i)).1 (inl z)) (le→leb i k (omega arith)))) (λ z. inl z) ((T_or_iff (eqb x i) (b i)).0 y)))
    (λ y. (T_or_iff (eqb x i) (b i)).1 (⊎_elim (λ z. inr z) (λ z.
    let w = and_T (eqb x i || has ks i) (leb i k) z in
    ⊎_elim (λ v. inl v) (λ v. absurd (omega (arith, leb→le i k w.1, later ks i a.2 v))) ((T_or_iff (eqb x i) (has ks i)).0 w.0)) ((T_or_iff (b i) ((eqb x i || has ks i) && leb i k)).0 y)))) in
    rw (T_true (eqb x k) u) (subst (λ (c : ℕ → Bool). ReleasedAt j c r) s f.0))
    (λ u.
    let o : x ≡ k → ⊥ = neqb_ne x k u in
    let t' : T (has ks k) = ⊎_elim (λ v. absurd (T_not (eqb x k) u v)) (λ v. v) ((T_or_iff (eqb x k) (has ks k)).0 t) in
    let below : x ≤ k = omega (arith, later ks k a.2 t') in
    let g = released_at j (suc x) hi (with x b) ks rs k a.2 (omega arith) f.1 t' in
    let s : (λ i. with x b i || (has ks i && leb i k)) ≡ (λ i. b i || (has (x ∷ ks) i && leb i k)) = fun_ext (λ i.
    same_test ((eqb x i || b i) || (has ks i && leb i k)) (b i || ((eqb x i || has ks i) && leb i k))
    (λ y. (T_or_iff (b i) ((eqb x i || has ks i) && leb i k)).1 (⊎_elim
    (λ z. ⊎_elim (λ v. let q = eqb→eq x i v in inr (T_and (eqb x i || has ks i) (leb i k) ((T_or_iff (eqb x i) (has ks i)).1 (inl v)) (le→leb i k (omega arith)))) (λ v. inl v) ((T_or_iff (eqb x i) (b i)).0 z))
    (λ z. let w = and_T (has ks i) (leb i k) z in inr (T_and (eqb x i || has ks i) (leb i k) ((T_or_iff (eqb x i) (has ks i)).1 (inr w.0)) w.1))
    ((T_or_iff (eqb x i || b i) (has ks i && leb i k)).0 y)))
    (λ y. (T_or_iff (eqb x i || b i) (has ks i && leb i k)).1 (⊎_elim
    (λ z. inl ((T_or_iff (eqb x i) (b i)).1 (inr z)))
    (λ z.
    let w = and_T (eqb x i || has ks i) (leb i k) z in
    ⊎_elim (λ v. inl ((T_or_iff (eqb x i) (b i)).1 (inl v))) (λ v. inr (T_and (has ks i) (leb i k) v w.1)) ((T_or_iff (eqb x i) (has ks i)).0 w.0))
    ((T_or_iff (b i) ((eqb x i || has ks i) && leb i k)).0 y)))) in
    rw (not_T_false (eqb x k) u) (subst (λ (c : ℕ → Bool). ReleasedAt j c (ready_of ks rs k)) s g))
    (test (eqb x k))
  where
    later : (l : List ℕ) (i : ℕ) → Asc (suc x) hi l → T (has l i) → suc x ≤ i
    later l i s t =
        ⊎_elim
        (λ v. ltb→lt x i v)
        (λ v. absurd (subst T (has_low (suc x) hi l i s (omega (arith, nltb→le x i v))) t))
        (test (ltb x i))

-- ---- rule 6 allows the first part left exactly if its release has come

module _ (j : Job) (sized : Sized j) (p : ℕ) (fetched : List Row) (ok : Acceptable j p fetched) (lv : ℕ → ℕ) (choice : Choice j lv) (f : FitsFrom j p fetched lv) where
  -- The chunks begun or kept and due from p on, and their releases.
  abbrev pub chunks_from : List ℕ
  chunks_from = busy_from j p fetched lv

  abbrev pub ready : ℕ → ℕ
  ready k = ready_of chunks_from (releases (due j) (held_most j) chunks_from) k

  abbrev member : ℕ → Bool
  member k = busy fetched lv k && leb p (due j k)

  -- A part with the release of its chunk.
  abbrev pub piece : Piece → QueuedPiece
  piece q = record { chunk = q.chunk; layer = q.layer; left = q.bytes; ready = ready q.chunk }

  abbrev I : ℕ → ℕ → List Row → List Piece → Type 0
  I = Inv j sized p fetched ok lv choice f

  released : (k : ℕ) → T (has chunks_from k) → ReleasedAt j (λ i. has chunks_from i && leb i k) (ready k)
  released k t =
      let asc : Asc 1 (chunks j) chunks_from = picked_asc member 0 (chunks j) (chunks j) (omega arith) in
      released_at j 1 (chunks j) (λ i. false) chunks_from (releases (due j) (held_most j) chunks_from) k asc (releases_enough (due j) (held_most j) chunks_from) (fair_queue j (λ k. 1) chunks_from asc (picked_each member (λ k. 1 ≤ 1) 0 (chunks j) (λ i u v t. omega arith))) t

  module _ (t : ℕ) (from : p ≤ t) (to : t ≤ last_slot j) (c : ℕ) (rows : List Row) (q : Piece) (qs : List Piece) (v : I t c rows (q ∷ qs)) where
    abbrev k : ℕ
    k = q.chunk

    abbrev one : Row
    one = row_of t q 1

    abbrev asked : ℕ → Bool
    asked i = (has chunks_from i && leb i k) && ltb t (due j i)

    in_list : (i : ℕ) → 1 ≤ i → i ≤ chunks j → T (busy fetched lv i) → p ≤ due j i → T (has chunks_from i)
    in_list i u w b d = subst T (sym (has_picked member 0 (chunks j) i u (omega arith))) (T_and (busy fetched lv i) (leb p (due j i)) b (le→leb p (due j i) d))

    k_in : T (has chunks_from k)
    k_in =
        let g = v.good.0.0 in
        in_list k g.chunk_low g.chunk_high ((T_or_iff (carries fetched k) (leb 1 (lv k))).1 (inr (le→leb 1 (lv k) (omega (arith, g.layer_in))))) (omega (arith, due_later j sized p fetched ok lv choice f t from to c rows q qs v))

    -- A chunk of the list before k has begun.
    started : (i : ℕ) → 1 ≤ i → i ≤ chunks j → T (has chunks_from i && leb i k) → (i ≡ k) ⊎ T (carries rows i)
    started i u w s =
        let x = and_T (has chunks_from i) (leb i k) s in
        let b = and_T (busy fetched lv i) (leb p (due j i)) (subst T (has_picked member 0 (chunks j) i u (omega arith)) x.0) in
        ⊎_elim
        (λ y.
        inr
        (⊎_elim
        (λ z. subst (λ (l : List Row). T (carries l i)) (sym v.made_is) (carries_more fetched v.made i z))
        (λ z. before_first j sized p fetched ok lv choice f t from to c rows q qs v i u (ltb→lt i k y) (leb→le 1 (lv i) z))
        ((T_or_iff (carries fetched i) (leb 1 (lv i))).0 b.0)))
        (λ y. inl (omega (arith, nltb→le i k y, leb→le i k x.1)))
        (test (ltb i k))

    carried_begun : (i : ℕ) → T (carries rows i) → T (begun rows t i)
    carried_begun i y = let z = some_row (λ w. eqb w.chunk i) rows y in begun_row rows t i z.0 z.1 (eqb→eq _ _ z.2) (at_row (λ x. x.slot ≤ t) z.1 v.slots)

    asked_held : (i : ℕ) → 1 ≤ i → i ≤ chunks j → T (asked i) → T (held j (rows ++ (one ∷ [])) t i)
    asked_held i u w s =
        let x = and_T (has chunks_from i && leb i k) (ltb t (due j i)) s in
        T_and (begun (rows ++ (one ∷ [])) t i) (ltb t (due j i))
        (⊎_elim
        (λ e. begun_row (rows ++ (one ∷ [])) t i one (in_right rows (one ∷ []) here) (sym e) (omega arith))
        (λ y. let z = begun_by rows t i (carried_begun i y) in begun_row (rows ++ (one ∷ [])) t i z.row (in_left rows (one ∷ []) z.listed) z.chunk_is z.slot_by)
        (started i u w x.0))
        x.1

    held_asked : All (λ x. x.chunk ≤ k) rows → (i : ℕ) → 1 ≤ i → i ≤ chunks j → T (held j (rows ++ (one ∷ [])) t i) → T (asked i)
    held_asked a i u w s =
        let x = and_T (begun (rows ++ (one ∷ [])) t i) (ltb t (due j i)) s in
        let l = ltb→lt t (due j i) x.1 in
        let y = begun_by (rows ++ (one ∷ [])) t i x.0 in
        T_and (has chunks_from i && leb i k) (ltb t (due j i))
        (⊎_elim
        (λ (m : In y.row rows).
        let b = subst (λ (e : ℕ). T (busy fetched lv e)) y.chunk_is (at_row (λ (x : Row). T (busy fetched lv x.chunk)) m v.busy_rows) in
        T_and (has chunks_from i) (leb i k) (in_list i u w b (omega arith)) (le→leb i k (omega (arith, at_row (λ x. x.chunk ≤ k) m a, y.chunk_is))))
        (λ (m : In y.row (one ∷ [])).
        let e = in_last one y.row m in
        let d : k ≡ i = rw e at y.chunk_is in
        T_and (has chunks_from i) (leb i k) (subst (λ (e : ℕ). T (has chunks_from e)) d k_in) (le→leb i k (omega arith)))
        (in_append rows (one ∷ []) y.listed))
        x.1

    allowed_is : allowed j rows t q ≡ leb (ready k) t
    allowed_is =
        let r = released k k_in t (omega (arith, ok.p_low)) in
        let low : 1 ≤ t = omega (arith, ok.p_low) in
        ⊎_elim
        (λ u.
        let x = count_mono (held j (rows ++ (one ∷ [])) t) (held j rows t) (chunks j) (λ i y z. held_same j rows t v.slots q i u) in
        let y = count_mono asked (held j (rows ++ (one ∷ [])) t) (chunks j) asked_held in
        let few = v.few t low to in
        le-leb (held_count j (rows ++ (one ∷ [])) t) (held_most j) (omega (arith, x, few)) ∙ sym (le-leb (count asked (chunks j)) (held_most j) (omega (arith, x, y, few))) ∙ r)
        (λ u.
        ap (λ (n : ℕ). leb n (held_most j)) (count_cong (held j (rows ++ (one ∷ [])) t) asked (chunks j) (λ i y z. same_test (held j (rows ++ (one ∷ [])) t i) (asked i) (held_asked u i y z) (asked_held i y z)))
        ∙ r)
        v.front.0

  -- ---- a slot takes what the fill takes

  record Alike (rows : List Row) (g : Fetched) (o : Out) : Type 0 where
    rows_are : g.rows ≡ rows ++ o.rows
    left_is : map piece g.left ≡ o.rest

  slot_fill :
      (t : ℕ) → p ≤ t → t ≤ last_slot j → (c : ℕ) (rows : List Row) (left : List Piece) → I t c rows left →
      Alike rows (slot_takes j t c rows left) (take_slot t c (map piece left))
  slot_fill t from to c rows [] v = record { rows_are = sym (append-nil rows); left_is = refl }
  slot_fill t from to c rows (q ∷ qs) v =
      let x = row_of t q q.bytes in
      rw (allowed_is t from to c rows q qs v)
      (by_cond_both
      (Alike rows)
      (leb (ready q.chunk) t && ltb 0 c)
      (λ u.
      let al : T (allowed j rows t q) = subst T (sym (allowed_is t from to c rows q qs v)) (and_T (leb (ready q.chunk) t) (ltb 0 c) u).0 in
      by_cond_both
      (Alike rows)
      (leb q.bytes c)
      (λ w.
      let next = step j sized p fetched ok lv choice f t from to c rows q qs q.bytes (c - q.bytes) qs (all_of (omega (arith, leb→le q.bytes c w))) al v in
      let more = slot_fill t from to (c - q.bytes) (rows ++ (x ∷ [])) qs next in
      record { rows_are = more.rows_are ∙ append_assoc rows (x ∷ []) (take_slot t (c - q.bytes) (map piece qs)).rows; left_is = more.left_is })
      (λ w. record { rows_are = refl; left_is = refl }))
      (λ u. record { rows_are = sym (append-nil rows); left_is = refl }))

  -- ---- all slots

  all_slots :
      (n m : ℕ) → n + m ≤ suc (last_slot j) - p →
      (fetched_from j p fetched lv (n + m)).rows ≡ (fetched_from j p fetched lv m).rows ++ fill (forecast j) n (m + (p - 1)) (map piece (fetched_from j p fetched lv m).left)
  all_slots zero m h = let e : 0 + m ≡ m = omega arith in rw e (sym (append-nil (fetched_from j p fetched lv m).rows))
  all_slots (suc n) m h =
      let g = fetched_from j p fetched lv m in
      let e : suc n + m ≡ n + suc m = omega arith in
      let t : ℕ = m + p in
      let s : suc (m + (p - 1)) ≡ m + p = omega (arith, ok.p_low) in
      let s' : suc m + (p - 1) ≡ suc (m + (p - 1)) = omega arith in
      let a = slot_fill t (omega arith) (omega (arith, ok.p_low, ok.p_high)) (forecast j t) g.rows g.left (run j sized p fetched ok lv choice f m (omega (arith, ok.p_low, ok.p_high))) in
      let o = take_slot t (forecast j t) (map piece g.left) in
      let u : ℕ = m + (p - 1) in
      let B = forecast j in
      ap (λ (i : ℕ). (fetched_from j p fetched lv i).rows) e
      ∙ all_slots n (suc m) (omega arith)
      ∙ ap (λ (i : ℕ). (slot_takes j t (B t) g.rows g.left).rows ++ fill B n i (map piece (slot_takes j t (B t) g.rows g.left).left)) s'
      ∙ ap (λ (l : List Row). l ++ fill B n (suc u) (map piece (slot_takes j t (B t) g.rows g.left).left)) a.rows_are
      ∙ ap (λ (l : List QueuedPiece). (g.rows ++ o.rows) ++ fill B n (suc u) l) a.left_is
      ∙ append_assoc g.rows o.rows (fill B n (suc u) o.rest)
      ∙ ap (λ (i : ℕ). g.rows ++ ((take_slot i (B i) (map piece g.left)).rows ++ fill B n (suc u) (take_slot i (B i) (map piece g.left)).rest)) (sym s)

  -- The own rows from p on are the fill from p on of what is left, each layer with its chunk's
  -- release.
  pub rest_is_fill :
      own_rest j p fetched lv ≡ fill (forecast j) (suc (last_slot j) - p) (p - 1) (map piece (unfetched fetched (carried_to j lv (chunks j))))
  unfolding own_rest
  rest_is_fill =
      let n : ℕ = suc (last_slot j) - p in
      let e : n ≡ n + 0 = omega arith in
      let z : 0 + (p - 1) ≡ p - 1 = omega arith in
      let q = map piece (unfetched fetched (carried_to j lv (chunks j))) in
      ap (λ (i : ℕ). drop (length fetched) (fetched_from j p fetched lv i).rows) e
      ∙ ap (drop (length fetched)) (all_slots n 0 (omega arith))
      ∙ drop-append_seam fetched (fill (forecast j) n (0 + (p - 1)) q)
      ∙ ap (λ (i : ℕ). fill (forecast j) n i q) z

-- Lemmas. The bases in linear time, chunks from the last down. A chunk that is not begun is kept
-- exactly if, in front of the kept ones and behind the begun ones, it passes the landed test of a
-- stack of needs, and each begun chunk its own (`base_new`). A begun chunk whose base is not whole
-- is kept exactly if what is left of it fits before those behind it (`base_begun`). README.md has
-- the pass.
use Rattle.std.specs.Prelude.{ℕ, zero, suc, ◌+◌, ◌-◌, ◌≤◌, ◌<◌, max, min, ◌≡◌, refl, Bool, true, false, cond, ◌&&◌, ◌||◌, List, [], ◌∷◌, ◌++◌, ◌⊎◌, ◌↔◌, drop, get_or, length, T, leb, ltb, eqb}
use Rattle.std.proofs.Common.{sym, ap, ◌∙◌, subst, append_assoc, inl, inr, ⊎_elim, arith, add-one, eq-eqb, ne_eqb, le-leb, lt-ltb, le-ltb, length-append, leb→le, ltb→lt, nltb→le, lt→ltb, le→leb, eqb→eq}
use Rattle.std.proofs.lemmas.Bool.{lt-leb}
use Rattle.std.proofs.Math.Dec.{not_T, nleb→lt}
use Rattle.theory_basics.specs.lemmas.Tables.{all_drop}
use Rattle.theory_basics.specs.Lists.{has}
use Rattle.theory_basics.specs.Sums.{sum}
use Rattle.theory_basics.specs.Tests.{All, any, In}
use Rattle.theory_basics.specs.lemmas.Ranges.{sum_cong, sum_mono, sum_zero}
use Rattle.theory_basics.specs.lemmas.Tests.{and_T, any_row_lem, at_row, by_cond, eqb_iff, not_T_false, same_test, T_and, T_or_iff, T_true, test, neqb_ne}
use Rattle.theory_basics.specs.lemmas.Lists.{drop_past}
use Rattle.job.specs.Job.{chunks, due, held_most, Job, Layer, layers, size}
use Rattle.fetch.specs.Rows.{bytes_of_layer, Carried, Row}
use Rattle.fetch.specs.lemmas.Rows.{any_some, bytes_none, some_row}
use Rattle.theory_plan.specs.Plan.{picked}
use Rattle.theory_plan.specs.lemmas.Feasible.{need_of}
use Rattle.theory_plan.specs.Statement.{Choice}
use Rattle.theory_plan.specs.lemmas.Kept.{picked_asc, picked_cong, picked_each}
use Rattle.theory_plan.specs.lemmas.Level.{level, level_choice, level_iff}
use Rattle.theory_plan.specs.lemmas.Linear.{needs_of_lem}
use Rattle.theory_plan.specs.lemmas.Need.{Feas, need_mono, Tails}
use Rattle.theory_plan.specs.lemmas.Words.{carries, due_mono, layer_of, Sized}
use Rattle.theory_replan.specs.Plan.{after_from, busy, busy_chunks, bytes_left, tried_from}
use Rattle.theory_replan.specs.Statement.{Acceptable}
use Rattle.theory_replan.specs.lemmas.Criterion.{begun_few, busy_from, feas_from_due, front_feas, front_need, FrontOk, nothing_left}
use Rattle.theory_replan.specs.lemmas.Fits.{FitsFrom}
use Rattle.theory_replan.specs.lemmas.Held.{carries_row}
use Rattle.theory_replan.specs.lemmas.Rest.{from_anti}
use Rattle.theory_plan.specs.Bases.{Asc}

-- ---- in general

pub picked_split : (f : ℕ → Bool) (lo a n : ℕ) → picked f lo (a + n) ≡ picked f lo a ++ picked f (a + lo) n
picked_split f lo zero n = let e : 0 + n ≡ n = omega arith in let e' : 0 + lo ≡ lo = omega arith in rw (e, e')
picked_split f lo (suc a) n =
    let e : suc a + n ≡ suc (a + n) = omega arith in
    let e' : suc a + lo ≡ a + suc lo = omega arith in
    rw (e, e') (by (f (suc lo)) (picked_split f (suc lo) a n))
  where
    by :
        (b : Bool) → picked f (suc lo) (a + n) ≡ picked f (suc lo) a ++ picked f (a + suc lo) n →
        cond b (suc lo ∷ picked f (suc lo) (a + n)) (picked f (suc lo) (a + n)) ≡ cond b (suc lo ∷ picked f (suc lo) a) (picked f (suc lo) a) ++ picked f (a + suc lo) n
    by true e = ap (λ (l : List ℕ). suc lo ∷ l) e
    by false e = e

-- The list at one of its numbers.
pub picked_at : (f : ℕ → Bool) (i m : ℕ) → 1 ≤ i → T (f i) → picked f 0 (i + m) ≡ picked f 0 (i - 1) ++ (i ∷ picked f i m)
picked_at f i m h t =
    let e : i + m ≡ (i - 1) + suc m = omega arith in
    let o : (i - 1) + 0 ≡ i - 1 = omega arith in
    let s : suc (i - 1) ≡ i = omega arith in
    ap (picked f 0) e ∙ picked_split f 0 (i - 1) (suc m) ∙ rw (o, s, T_true (f i) t)

pub need_cong : (v w d A : ℕ → ℕ) (ks : List ℕ) → All (λ k. v k ≡ w k) ks → need_of v d A ks ≡ need_of w d A ks
need_cong v w d A [] a = refl
need_cong v w d A (k ∷ ks) a = rw (a.0, need_cong v w d A ks a.1)

needs_cong : (v w d A : ℕ → ℕ) (ks : List ℕ) → All (λ k. v k ≡ w k) ks → needs_of_lem v d A ks ≡ needs_of_lem w d A ks
needs_cong v w d A [] a = refl
needs_cong v w d A (k ∷ ks) a = rw (need_cong v w d A (k ∷ ks) a, needs_cong v w d A ks a.1)

-- Tails ask nothing of the first h chunks.
tails_later : (v w d A : ℕ → ℕ) (h : ℕ) (ks : List ℕ) → All (λ k. v k ≤ w k) (drop h ks) → Tails w d A h ks → Tails v d A h ks
tails_later v w d A h [] a t = tt
tails_later v w d A h (k ∷ ks) a t =
    (omega (arith, need_mono v w d A (drop h (k ∷ ks)) a, t.0), tails_later v w d A h ks (next h a) t.1)
  where
    next : (h : ℕ) → All (λ k. v k ≤ w k) (drop h (k ∷ ks)) → All (λ k. v k ≤ w k) (drop h ks)
    next zero a = a.1
    next (suc h) a = subst (All (λ k. v k ≤ w k)) (one h ks) (all_drop (λ k. v k ≤ w k) 1 (drop h ks) a)
      where
        one : (h : ℕ) (l : List ℕ) → drop 1 (drop h l) ≡ drop (suc h) l
        one zero l = refl
        one (suc h) [] = refl
        one (suc h) (x ∷ l) = one h l

tails_suffix : (w d A : ℕ → ℕ) (h : ℕ) (a b : List ℕ) → Tails w d A h (a ++ b) → Tails w d A h b
tails_suffix w d A h [] b t = t
tails_suffix w d A h (x ∷ a) b t = tails_suffix w d A h a b t.1

-- ---- bases

module _
    (j : Job) (sized : Sized j) (p : ℕ) (fetched : List Row) (ok : Acceptable j p fetched) (some : 0 < layers j) (q : ℕ → ℕ)
    (fq : FitsFrom j p fetched q)
    (accepts :
    (i : ℕ) → 1 ≤ i → i ≤ chunks j →
    (0 < q i) ↔ ((0 < level j fetched i) ⊎ ((p ≤ due j i) × (0 ≤ q i) × FitsFrom j p fetched (tried_from j fetched q 0 i)))) where
  abbrev base : ℕ → ℕ
  base k = level j fetched k

  abbrev rest : ℕ → ℕ → ℕ
  rest k m = size j k m - bytes_of_layer fetched k m

  abbrev left : (ℕ → ℕ) → ℕ → ℕ
  left lv k = bytes_left j fetched lv k

  abbrev A : ℕ → ℕ
  A = after_from j p

  abbrev H : ℕ
  H = held_most j

  -- The begun chunks due from p on.
  abbrev pub begun_from : ℕ → Bool
  begun_from i = carries fetched i && leb p (due j i)

  abbrev kept_chunk : ℕ → Bool
  kept_chunk i = leb 1 (q i)

  abbrev one : ℕ → ℕ
  one k = size j k 0

  -- A chunk with a layer whole before p has begun.
  pub whole_begun : (k : ℕ) → 1 ≤ k → k ≤ chunks j → 1 ≤ base k → T (carries fetched k)
  whole_begun k u v h =
      let r = layer_of j k 0 u v some in
      let c = (level_iff j fetched ok.lower k 0 r).1 h in
      let x = some_row (λ y. eqb y.chunk k && eqb y.layer 0) fetched (omega (arith, c, sized k 0 r)) in
      carries_row fetched k x.row x.listed (eqb→eq _ _ (and_T (eqb x.row.chunk k) (eqb x.row.layer 0) x.passes).0)

  -- Layers whole before p leave nothing.
  pub whole_left : (k : ℕ) → 1 ≤ k → k ≤ chunks j → left base k ≡ 0
  whole_left k u v =
      sum_cong (rest k) (λ n. 0) (base k) (λ n h.
      let r = layer_of j k n u v (omega (arith, level_choice j fetched k u v)) in
      omega (arith, (level_iff j fetched ok.lower k n r).1 h))
      ∙ sum_zero (base k)

  module _ (i m : ℕ) (all : i + m ≡ chunks j) (lo : 1 ≤ i) (due-then : p ≤ due j i) (lacks : base i ≡ 0) (may : T (carries fetched i) ⊎ All (λ x. x.chunk < i) fetched) where
    -- What is tried.
    abbrev z : ℕ → ℕ
    z = tried_from j fetched q 0 i

    hi : i ≤ chunks j
    hi = omega arith

    z_own : z i ≡ 1
    z_own = rw (eq-eqb i i refl)

    z_before : (k : ℕ) → k < i → z k ≡ base k
    z_before k h = rw (ne_eqb k i (omega arith), le-ltb i k (omega arith)) (omega arith)

    z_behind : (k : ℕ) → i < k → z k ≡ max (base k) (min (q k) 1)
    z_behind k h = rw (ne_eqb k i (omega arith), lt-ltb i k h)

    z_le : (k : ℕ) → 1 ≤ k → k ≤ chunks j → (k ≡ i → ⊥) → z k ≤ q k
    z_le k u v o = rw (ne_eqb k i o) (omega (arith, fq.whole k u v))

    -- Whether it fits is asked of the chunks due from p on alone.
    tried_fits : FitsFrom j p fetched z ↔ Feas (left z) (due j) A H (busy_from j p fetched z)
    tried_fits =
        let d = feas_from_due j p fetched z in
        let over : All (λ k. due j k < p → bytes_left j fetched z k ≡ 0) (busy_chunks j fetched z) =
        picked_each (busy fetched z) (λ k. due j k < p → bytes_left j fetched z k ≡ 0) 0 (chunks j) (λ k x y t l.
        ⊎_elim
        (λ w. absurd (omega (arith, ap (due j) (eqb→eq k i w))))
        (λ w. omega (arith, sum_mono (rest k) (z k) (q k) (z_le k x (omega arith) (neqb_ne k i w)), nothing_left j p fetched q fq.feas k x (omega arith) l))
        (test (eqb k i))) in (
          λ f. (d.0 f.feas).1,
          λ f.
              record {
                whole = λ k x y. ⊎_elim (λ w. let o = eqb→eq k i w in rw (o, eq-eqb i i refl) (omega (arith, lacks))) (λ w. rw (not_T_false (eqb k i) w) (omega arith)) (test (eqb k i));
                in_front_lem = λ k x y l.
                    ⊎_elim
                    (λ w. subst (λ (c : ℕ). T (carries fetched c) ⊎ All (λ x. x.chunk < c) fetched) (sym (eqb→eq k i w)) may)
                    (λ w. fq.in_front_lem k x y (omega (arith, l, z_le k x y (neqb_ne k i w))))
                    (test (eqb k i));
                feas = d.1 (over, f);
              },
        )

    -- The chunks before i that are asked are begun ones.
    front_list : picked (λ k. busy fetched z k && leb p (due j k)) 0 (i - 1) ≡ picked begun_from 0 (i - 1)
    front_list =
        picked_cong (λ k. busy fetched z k && leb p (due j k)) begun_from 0 (i - 1) (λ k u v.
        ap (λ (b : Bool). b && leb p (due j k))
        (same_test (busy fetched z k) (carries fetched k)
        (λ t. ⊎_elim (λ x. x) (λ x. whole_begun k u (omega arith) (omega (arith, leb→le 1 (z k) x, z_before k (omega arith)))) ((T_or_iff (carries fetched k) (leb 1 (z k))).0 t))
        (λ t. (T_or_iff (carries fetched k) (leb 1 (z k))).1 (inl t))))

    i_asked : T (busy fetched z i && leb p (due j i))
    i_asked = T_and (busy fetched z i) (leb p (due j i)) ((T_or_iff (carries fetched i) (leb 1 (z i))).1 (inr (rw z_own tt))) (le→leb p (due j i) due-then)

    list_is : busy_from j p fetched z ≡ picked begun_from 0 (i - 1) ++ (i ∷ picked (λ k. busy fetched z k && leb p (due j k)) i m)
    list_is =
        ap (picked (λ k. busy fetched z k && leb p (due j k)) 0) (sym all)
        ∙ picked_at (λ k. busy fetched z k && leb p (due j k)) i m lo i_asked
        ∙ ap (λ (l : List ℕ). l ++ (i ∷ picked (λ k. busy fetched z k && leb p (due j k)) i m)) front_list

    -- Nothing is left of the begun chunks before i while i is tried.
    front_idle : All (λ b. left z b ≡ 0) (picked begun_from 0 (i - 1))
    front_idle = picked_each begun_from (λ b. left z b ≡ 0) 0 (i - 1) (λ k u v t. ap (sum (rest k)) (z_before k (omega arith)) ∙ whole_left k u (omega arith))

    -- Behind i the busy chunks are those of the plan.
    behind_list : picked (λ k. busy fetched z k && leb p (due j k)) i m ≡ picked (λ k. busy fetched q k && leb p (due j k)) i m
    behind_list =
        picked_cong (λ k. busy fetched z k && leb p (due j k)) (λ k. busy fetched q k && leb p (due j k)) i m (λ k u v.
        ap (λ (b : Bool). (carries fetched k || b) && leb p (due j k))
        (same_test (leb 1 (z k)) (leb 1 (q k))
        (λ t. le→leb 1 (q k) (omega (arith, leb→le 1 (z k) t, z_behind k u, fq.whole k (omega arith) (omega arith))))
        (λ t. le→leb 1 (z k) (omega (arith, leb→le 1 (q k) t, z_behind k u)))))

    begun_length : length (picked begun_from 0 (i - 1)) + length (picked begun_from (i - 1) (suc m)) ≤ H
    begun_length =
        let e : chunks j ≡ (i - 1) + suc m = omega arith in
        let o : (i - 1) + 0 ≡ i - 1 = omega arith in
        let s : picked begun_from 0 (chunks j) ≡ picked begun_from 0 (i - 1) ++ picked begun_from (i - 1) (suc m) = ap (picked begun_from 0) e ∙ picked_split begun_from 0 (i - 1) (suc m) ∙ ap (λ (x : ℕ). picked begun_from 0 (i - 1) ++ picked begun_from x (suc m)) o in
        omega (arith, begun_few j p fetched ok, ap length s, length-append (picked begun_from 0 (i - 1)) (picked begun_from (i - 1) (suc m)))

    -- Tails of the plan over the chunks behind i.
    plan_tails : Tails (left q) (due j) A H (picked (λ k. busy fetched q k && leb p (due j k)) i m)
    plan_tails =
        let f = ((feas_from_due j p fetched q).0 fq.feas).1 in
        let e : chunks j ≡ i + m = omega arith in
        let o : i + 0 ≡ i = omega arith in
        let s : busy_from j p fetched q ≡ picked (λ k. busy fetched q k && leb p (due j k)) 0 i ++ picked (λ k. busy fetched q k && leb p (due j k)) i m =
        ap (picked (λ k. busy fetched q k && leb p (due j k)) 0) e ∙ picked_split (λ k. busy fetched q k && leb p (due j k)) 0 i m ∙ ap (λ (x : ℕ). picked (λ k. busy fetched q k && leb p (due j k)) 0 i ++ picked (λ k. busy fetched q k && leb p (due j k)) x m) o in
        tails_suffix (left q) (due j) A H (picked (λ k. busy fetched q k && leb p (due j k)) 0 i) (picked (λ k. busy fetched q k && leb p (due j k)) i m) (subst (Tails (left q) (due j) A H) s f.tails)

    behind_tails : Tails (left z) (due j) A H (picked (λ k. busy fetched q k && leb p (due j k)) i m)
    behind_tails =
        let ks = picked (λ k. busy fetched q k && leb p (due j k)) i m in
        tails_later (left z) (left q) (due j) A H ks
        (all_drop (λ k. left z k ≤ left q k) H ks (picked_each (λ k. busy fetched q k && leb p (due j k)) (λ k. left z k ≤ left q k) i m (λ k u v t. sum_mono (rest k) (z k) (q k) (z_le k (omega arith) (omega arith) (λ e. omega arith)))))
        plan_tails

    -- The base of i is kept exactly if the chunks that are asked, with it, fit.
    kept_iff : T (kept_chunk i) ↔ Feas (left z) (due j) A H (picked begun_from 0 (i - 1) ++ (i ∷ picked (λ k. busy fetched q k && leb p (due j k)) i m))
    kept_iff =
        let a = accepts i lo hi in
        let e = list_is ∙ ap (λ (l : List ℕ). picked begun_from 0 (i - 1) ++ (i ∷ l)) behind_list in (
          λ t.
              ⊎_elim
              (λ u. absurd (omega (arith, u, lacks)))
              (λ u. subst (Feas (left z) (due j) A H) e (tried_fits.0 u.2))
              (a.0 (leb→le 1 (q i) t)),
          λ f. le→leb 1 (q i) (a.1 (inr (due-then, omega arith, tried_fits.1 (subst (Feas (left z) (due j) A H) (sym e) f)))),
        )

    flat : (t : ℕ) → A t ≤ A 0
    flat t = from_anti j p 0 t (omega arith)

    own_left : left z i ≡ rest i 0
    own_left = ap (sum (rest i)) z_own ∙ omega arith

    -- A chunk that is not begun: the landed test of the stack, and one more for each begun chunk.
    pub kept_new :
        T (kept_chunk i) ↔
        ((need_of (left z) (due j) A (i ∷ picked (λ k. busy fetched q k && leb p (due j k)) i m) ≤ A 0) × (need_of (left z) (due j) A (drop H (i ∷ picked (λ k. busy fetched q k && leb p (due j k)) i m)) ≤ A (due j i - 1)) × FrontOk (due j) A H (picked begun_from 0 (i - 1)) (needs_of_lem (left z) (due j) A (i ∷ picked (λ k. busy fetched q k && leb p (due j k)) i m)))
    kept_new =
        let g = front_feas (left z) (due j) A H (picked begun_from 0 (i - 1)) (picked (λ k. busy fetched q k && leb p (due j k)) i m) i flat (omega (arith, begun_length)) front_idle behind_tails in
        (λ t. g.0 (kept_iff.0 t), λ u. kept_iff.1 (g.1 u))

    -- A begun chunk whose base is not whole: what is left of it fits before those behind it.
    pub kept_begun :
        T (carries fetched i) →
        T (kept_chunk i) ↔ (rest i 0 + max (A (due j i)) (need_of (left z) (due j) A (picked (λ k. busy fetched q k && leb p (due j k)) i m)) ≤ A 0)
    kept_begun begun =
        let bs = picked begun_from 0 (i - 1) in
        let ks = picked (λ k. busy fetched q k && leb p (due j k)) i m in
        let n = front_need (left z) (due j) A H bs (i ∷ ks) (A 0) flat front_idle in
        let t = front_tails_begun in (
          λ x. omega (arith, n.0 (kept_iff.0 x).whole, own_left),
          λ x. kept_iff.1 (record { whole = n.1 (omega (arith, x, own_left)); tails = t begun }),
        )
      where
        front_tails_begun : T (carries fetched i) → Tails (left z) (due j) A H (picked begun_from 0 (i - 1) ++ (i ∷ picked (λ k. busy fetched q k && leb p (due j k)) i m))
        front_tails_begun b =
            let bs = picked begun_from 0 (i - 1) in
            let member : ℕ → Bool = λ k. busy fetched q k && leb p (due j k) in
            let ks = picked member i m in
            -- The plan's own list is the same.
            let mi : T (member i) = T_and (busy fetched q i) (leb p (due j i)) ((T_or_iff (carries fetched i) (leb 1 (q i))).1 (inl b)) (le→leb p (due j i) due-then) in
            let x = any_some (λ y. eqb y.chunk i) fetched b in
            let xi : x.row.chunk ≡ i = eqb→eq _ _ x.passes in
            let fronts : picked member 0 (i - 1) ≡ bs =
            picked_cong member begun_from 0 (i - 1) (λ k u v.
            ap (λ (c : Bool). c && leb p (due j k))
            (same_test (busy fetched q k) (carries fetched k)
            (λ t. ⊎_elim (λ y. y) (λ y. ⊎_elim (λ w. w) (λ w. absurd (omega (arith, at_row (λ x. x.chunk < k) x.listed w, xi))) (fq.in_front_lem k u (omega arith) (leb→le 1 (q k) y))) ((T_or_iff (carries fetched k) (leb 1 (q k))).0 t))
            (λ t. (T_or_iff (carries fetched k) (leb 1 (q k))).1 (inl t)))) in
            let same : busy_from j p fetched q ≡ bs ++ (i ∷ ks) = ap (picked member 0) (sym all) ∙ picked_at member i m lo mi ∙ ap (λ (l : List ℕ). l ++ (i ∷ ks)) fronts in
            let plan : Tails (left q) (due j) A H (bs ++ (i ∷ ks)) = subst (Tails (left q) (due j) A H) same ((feas_from_due j p fetched q).0 fq.feas).1.tails in
            -- i is among the first H.
            let bi : T (begun_from i) = T_and (carries fetched i) (leb p (due j i)) b (le→leb p (due j i) due-then) in
            let s : suc (i - 1) ≡ i = omega arith in
            let len : suc (length (picked begun_from i m)) ≡ length (picked begun_from (i - 1) (suc m)) = rw (s, T_true (begun_from i) bi) in
            let e : bs ++ (i ∷ ks) ≡ (bs ++ (i ∷ [])) ++ ks = sym (append_assoc bs (i ∷ []) ks) in
            let short : length (bs ++ (i ∷ [])) ≤ H = omega (arith, begun_length, len, length-append bs (i ∷ [])) in
            let later : All (λ k. left z k ≤ left q k) ks = picked_each member (λ k. left z k ≤ left q k) i m (λ k u v t. sum_mono (rest k) (z k) (q k) (z_le k (omega arith) (omega arith) (λ e. omega arith))) in
            tails_later (left z) (left q) (due j) A H (bs ++ (i ∷ ks))
            (subst (All (λ k. left z k ≤ left q k)) (sym (ap (drop H) e ∙ drop_past (bs ++ (i ∷ [])) ks H short)) (all_drop (λ k. left z k ≤ left q k) (H - length (bs ++ (i ∷ []))) ks later))
            plan

  -- ---- as the code reads them

  -- What chunk k has to be fetched once the bases are settled.
  abbrev pub after_bases : ℕ → ℕ
  after_bases k = left (λ e. max (base e) (min (q e) 1)) k

  pub base_begun :
      (i m : ℕ) → i + m ≡ chunks j → 1 ≤ i → p ≤ due j i → base i ≡ 0 → T (carries fetched i) →
      T (kept_chunk i) ↔ (rest i 0 + max (A (due j i)) (need_of after_bases (due j) A (picked (λ k. busy fetched q k && leb p (due j k)) i m)) ≤ A 0)
  base_begun i m all lo due-then lacks b =
      let ks = picked (λ k. busy fetched q k && leb p (due j k)) i m in
      let r = kept_begun i m all lo due-then lacks (inl b) b in
      let e : need_of (left (tried_from j fetched q 0 i)) (due j) A ks ≡ need_of after_bases (due j) A ks =
      need_cong (left (tried_from j fetched q 0 i)) after_bases (due j) A ks (picked_each (λ k. busy fetched q k && leb p (due j k)) (λ k. left (tried_from j fetched q 0 i) k ≡ after_bases k) i m (λ k u v t. ap (sum (rest k)) (z_behind i m all lo due-then lacks (inl b) k u))) in
      (λ t. subst (λ (x : ℕ). rest i 0 + max (A (due j i)) x ≤ A 0) e (r.0 t), λ t. r.1 (subst (λ (x : ℕ). rest i 0 + max (A (due j i)) x ≤ A 0) (sym e) t))

  -- No chunk from i on is begun.
  module _ (i : ℕ) (lo : 1 ≤ i) (new : All (λ x. x.chunk < i) fetched) where
    not_begun : (k : ℕ) → i ≤ k → T (carries fetched k) → ⊥
    not_begun k h t =
        let x = any_some (λ y. eqb y.chunk k) fetched t in
        let e : x.row.chunk ≡ k = eqb→eq _ _ x.passes in
        omega (arith, at_row (λ x. x.chunk < i) x.listed new, e)

    pub no_base : (k : ℕ) → i ≤ k → k ≤ chunks j → base k ≡ 0
    no_base k h v = ⊎_elim (λ t. absurd (not_begun k h (whole_begun k (omega arith) v (leb→le 1 (base k) t)))) (λ t. omega (arith, nleb→lt 1 (base k) t)) (test (leb 1 (base k)))

    pub no_bytes : (k : ℕ) → i ≤ k → rest k 0 ≡ one k
    no_bytes k h =
        let e = bytes_none (λ x. eqb x.chunk k && eqb x.layer 0) fetched (λ x m t. omega (arith, at_row (λ x. x.chunk < i) m new, eqb→eq x.chunk k (and_T (eqb x.chunk k) (eqb x.layer 0) t).0)) in
        omega (arith, e)

    pub base_new :
        (m : ℕ) → i + m ≡ chunks j → p ≤ due j i →
        T (kept_chunk i) ↔
        ((need_of one (due j) A (i ∷ picked kept_chunk i m) ≤ A 0) × (need_of one (due j) A (drop H (i ∷ picked kept_chunk i m)) ≤ A (due j i - 1)) × FrontOk (due j) A H (picked begun_from 0 (i - 1)) (needs_of_lem one (due j) A (i ∷ picked kept_chunk i m)))
    base_new m all due-then =
        let lacks = no_base i (omega arith) (omega arith) in
        let z = tried_from j fetched q 0 i in
        let r = kept_new i m all lo due-then lacks (inr new) in
        let list : picked (λ k. busy fetched q k && leb p (due j k)) i m ≡ picked kept_chunk i m =
        picked_cong (λ k. busy fetched q k && leb p (due j k)) kept_chunk i m (λ k u v.
        same_test (busy fetched q k && leb p (due j k)) (kept_chunk k)
        (λ t. ⊎_elim (λ x. absurd (not_begun k (omega arith) x)) (λ x. x) ((T_or_iff (carries fetched k) (leb 1 (q k))).0 (and_T (busy fetched q k) (leb p (due j k)) t).0))
        (λ t. T_and (busy fetched q k) (leb p (due j k)) ((T_or_iff (carries fetched k) (leb 1 (q k))).1 (inr t)) (le→leb p (due j k) (omega (arith, due_mono j i k (omega arith)))))) in
        let ks = picked kept_chunk i m in
        let weights : All (λ k. left z k ≡ one k) (i ∷ ks) = (
          own_left i m all lo due-then lacks (inr new) ∙ no_bytes i (omega arith),
          picked_each kept_chunk (λ k. left z k ≡ one k) i m (λ k u v t.
              let e : z k ≡ 1 = omega (arith, z_behind i m all lo due-then lacks (inr new) k u, leb→le 1 (q k) t, no_base k (omega arith) (omega arith)) in
              ap (sum (rest k)) e ∙ omega (arith, no_bytes k (omega arith))),
        ) in
        let n1 = need_cong (left z) one (due j) A (i ∷ ks) weights in
        let n2 = need_cong (left z) one (due j) A (drop H (i ∷ ks)) (all_drop (λ k. left z k ≡ one k) H (i ∷ ks) weights) in
        let n3 = needs_cong (left z) one (due j) A (i ∷ ks) weights in
        let S : (ℕ → ℕ) → List ℕ → Type 0 = λ w l. (need_of w (due j) A (i ∷ l) ≤ A 0) × (need_of w (due j) A (drop H (i ∷ l)) ≤ A (due j i - 1)) × FrontOk (due j) A H (picked begun_from 0 (i - 1)) (needs_of_lem w (due j) A (i ∷ l)) in
        let r' : T (kept_chunk i) ↔ S (left z) ks = subst (λ (l : List ℕ). T (kept_chunk i) ↔ S (left z) l) list r in (
          λ t. let u = r'.0 t in (omega (arith, u.0, n1), omega (arith, u.1, n2), subst (FrontOk (due j) A H (picked begun_from 0 (i - 1))) n3 u.2),
          λ u. r'.1 (omega (arith, u.0, n1), omega (arith, u.1, n2), subst (FrontOk (due j) A H (picked begun_from 0 (i - 1))) (sym n3) u.2),
        )

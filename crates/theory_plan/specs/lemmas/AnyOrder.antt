-- Lemmas. Whatever order a passing list fetches in: chunks of which it has z bytes each fit, taken
-- with z bytes each. Section 5 (b) of the argument, the counting.
use Rattle.std.specs.Prelude.{ℕ, zero, suc, ◌+◌, ◌*◌, ◌-◌, ◌≤◌, ◌<◌, pred, ◌≡◌, Bool, not, ◌&&◌, List, [], ◌∷◌, drop, T, leb, ltb, eqb}
use Rattle.std.proofs.Common.{⊎_elim, arith, mul-le-mul_right, T_not, leb→le, ltb→lt, lt→ltb, eqb→eq}
use Rattle.std.proofs.Math.Dec.{not_T, nleb→lt, eqb_refl}
use Rattle.theory_basics.specs.Sums.{count}
use Rattle.theory_basics.specs.lemmas.Ranges.{pre_mono, bit, count_none, count_step}
use Rattle.theory_basics.specs.Tests.{All}
use Rattle.theory_basics.specs.lemmas.Tests.{T_and, and_T, any_row_lem, at_row, test}
use Rattle.fetch.specs.Rows.{Row, begun, bytes_if, held}
use Rattle.fetch.specs.Rules.{RowInRange, OnTime, Passes}
use Rattle.job.specs.Job.{Job, chunks, due, held_most, last_slot}
use Rattle.theory_plan.specs.lemmas.Count.{bytes_disjoint, bytes_mono, some_row}
use Rattle.theory_plan.specs.lemmas.Necessity.{within_between}
use Rattle.theory_plan.specs.lemmas.Need.{Feas, Tails}
use Rattle.theory_plan.specs.Plan.{after}
use Rattle.theory_plan.specs.lemmas.Feasible.{need_of}
use Rattle.theory_plan.specs.lemmas.Words.{bytes_of_chunk, due_mono}
use Rattle.theory_plan.specs.Bases.{Asc}

-- A row of a chunk before lo that is not begun by slot q.
abbrev fresh : List Row → ℕ → ℕ → Row → Bool
fresh l q lo x = ltb x.chunk lo && not (begun l q x.chunk)

fresh_further : (l : List Row) (q lo hi : ℕ) (x : Row) → lo ≤ hi → T (fresh l q lo x) → T (fresh l q hi x)
fresh_further l q lo hi x h t =
    let u = and_T (ltb x.chunk lo) (not (begun l q x.chunk)) t in
    T_and (ltb x.chunk hi) (not (begun l q x.chunk)) (lt→ltb x.chunk hi (omega (arith, ltb→lt x.chunk lo u.0))) u.1

fresh_grows :
    (l : List Row) (q lo g : ℕ) → lo ≤ g → T (not (begun l q g)) →
    bytes_if (fresh l q lo) l + bytes_of_chunk l g ≤ bytes_if (fresh l q (suc g)) l
fresh_grows l q lo g h v =
    bytes_disjoint
    (fresh l q lo)
    (λ x. eqb x.chunk g)
    (fresh l q (suc g))
    (λ x t. fresh_further l q lo (suc g) x (omega arith) t)
    (λ x t.
    let e : x.chunk ≡ g = eqb→eq x.chunk g t in
    T_and (ltb x.chunk (suc g)) (not (begun l q x.chunk)) (lt→ltb x.chunk (suc g) (omega arith)) (rw e v))
    (λ x t w. omega (arith, ltb→lt x.chunk lo (and_T (ltb x.chunk lo) (not (begun l q x.chunk)) t).0, eqb→eq x.chunk g w))
    l

module _ (j : Job) (l : List Row) (ok : Passes j l) (z : ℕ) where
  -- A slot q, a first chunk, and how many of the chunks from it on may be begun by q: those are
  -- held at its end.
  module _
      (q base most : ℕ) (q-in : q ≤ due j base) (begun-held : (g : ℕ) → base ≤ g → T (begun l q g) → T (held j l q g))
      (few : count (held j l q) (chunks j) ≤ most) where
    -- One chunk more: z bytes more in rows after q, or one more chunk held.
    fresh_or_held :
        (lo g c : ℕ) → 1 ≤ lo → base ≤ lo → lo ≤ g → z ≤ bytes_of_chunk l g →
        c ≤ bytes_if (fresh l q lo) l + count (held j l q) (pred lo) * z →
        c + z ≤ bytes_if (fresh l q (suc g)) l + count (held j l q) g * z
    fresh_or_held lo g c h b k e m =
        ⊎_elim
        (λ t.
        let s = count_step (held j l q) (pred lo) g (omega arith) (begun-held g (omega arith) t) in
        omega (arith, bytes_mono (fresh l q lo) (fresh l q (suc g)) (λ x u. fresh_further l q lo (suc g) x (omega arith) u) l, mul-le-mul_right z s))
        (λ t.
        let s = pre_mono (λ i. bit (held j l q i)) (pred lo) g (omega arith) in
        omega (arith, fresh_grows l q lo g k t, mul-le-mul_right z s))
        (test (begun l q g))

    fresh_within : (g : ℕ) → base ≤ g → g ≤ chunks j → bytes_if (fresh l q (suc g)) l + after j (due j g) ≤ after j q
    fresh_within g b h =
        within_between
        j
        l
        ok
        (fresh l q (suc g))
        q
        (due j g)
        (omega (arith, due_mono j base g b))
        (due_mono j g (chunks j) h)
        (λ x i t.
        let u = and_T (ltb x.chunk (suc g)) (not (begun l q x.chunk)) t in
        let c : x.chunk < suc g = ltb→lt x.chunk (suc g) u.0 in
        let by : T (leb x.slot q) → T (begun l q x.chunk) = λ v.
        any_row_lem (λ y. eqb y.chunk x.chunk && leb y.slot q) i (T_and (eqb x.chunk x.chunk) (leb x.slot q) (eqb_refl x.chunk) v) in (
          ⊎_elim
              (λ v. absurd (T_not (begun l q x.chunk) u.1 (by v)))
              (λ v. nleb→lt x.slot q v)
              (test (leb x.slot q)),
          omega (arith, at_row (OnTime j) i ok.on_time_lem, due_mono j x.chunk g (omega arith)),
        ))

    -- Behind as many chunks as may be held, the bytes of each further chunk stand after q.
    need_beyond_held :
        (gs : List ℕ) (lo c : ℕ) → 1 ≤ lo → base ≤ lo → Asc lo (chunks j) gs → All (λ e. z ≤ bytes_of_chunk l e) gs →
        c + most * z ≤ bytes_if (fresh l q lo) l + count (held j l q) (pred lo) * z → c ≤ after j q →
        c + need_of (λ k. z) (due j) (after j) gs ≤ after j q
    need_beyond_held [] lo c h b s e m n = omega arith
    need_beyond_held (g ∷ gs) lo c h b s e m n =
        let r = fresh_or_held lo g (c + most * z) h b s.0 e.0 m in
        let f = fresh_within g (omega arith) s.1 in
        let y : count (held j l q) g ≤ most = omega (arith, few, pre_mono (λ i. bit (held j l q i)) g (chunks j) s.1) in
        let k = mul-le-mul_right z y in
        omega (arith, need_beyond_held gs (suc g) (c + z) (omega arith) (omega arith) s.2 e.1 (omega arith) (omega arith))

    need_after :
        (n : ℕ) (gs : List ℕ) (lo i : ℕ) → i + n ≡ most → 1 ≤ lo → base ≤ lo → Asc lo (chunks j) gs →
        All (λ e. z ≤ bytes_of_chunk l e) gs → i * z ≤ bytes_if (fresh l q lo) l + count (held j l q) (pred lo) * z →
        need_of (λ k. z) (due j) (after j) (drop n gs) ≤ after j q
    need_after zero gs lo i p h b s e m = let y : i ≡ most = omega arith in omega (arith, need_beyond_held gs lo 0 h b s e (let w = rw y at m in omega arith) (omega arith))
    need_after (suc n) [] lo i p h b s e m = omega arith
    need_after (suc n) (g ∷ gs) lo i p h b s e m =
        need_after n gs (suc g) (suc i) (omega arith) (omega arith) (omega arith) s.2 e.1 (omega (arith, fresh_or_held lo g (i * z) h b s.0 e.0 m))

  begun_from_one : (q g : ℕ) → T (begun l q g) → 1 ≤ q
  begun_from_one q g t =
      let r = some_row (λ x. eqb x.chunk g && leb x.slot q) l t in
      omega (arith, (at_row (RowInRange j) r.1 ok.in_range_lem).slot_low, leb→le r.0.slot q (and_T (eqb r.0.chunk g) (leb r.0.slot q) r.2).1)

  -- Rule 6 starts at slot 1; before it nothing is held.
  none_held_at_0 : count (held j l 0) (chunks j) ≡ 0
  none_held_at_0 =
      count_none (held j l 0) (chunks j) (λ e u v.
      not_T (held j l 0 e) (λ t. omega (arith, begun_from_one 0 e (and_T (begun l 0 e) (ltb 0 (due j e)) t).0)))

  held_few : (q : ℕ) → q ≤ last_slot j → count (held j l q) (chunks j) ≤ held_most j
  held_few zero h = omega (arith, none_held_at_0)
  held_few (suc q) h = ok.few_held (suc q) (omega arith) h

  any_order_tails :
      (ks : List ℕ) (lo : ℕ) → 1 ≤ lo → Asc lo (chunks j) ks → All (λ e. z ≤ bytes_of_chunk l e) ks →
      Tails (λ k. z) (due j) (after j) (held_most j) ks
  any_order_tails [] lo h s e = tt
  any_order_tails (k ∷ ks) lo h s e =
      let q = due j k - 1 in (
        need_after
            q
            k
            (held_most j)
            (omega arith)
            (λ g b t. T_and (begun l q g) (ltb q (due j g)) t (lt→ltb q (due j g) (omega (arith, begun_from_one q g t, due_mono j k g b))))
            (held_few q (omega (arith, due_mono j k (chunks j) s.1)))
            (held_most j)
            (k ∷ ks)
            k
            0
            (omega arith)
            (omega arith)
            (omega arith)
            (omega arith, s.1, s.2)
            e
            (omega arith),
        any_order_tails ks (suc k) (omega arith) s.2 e.1,
      )

  pub any_order_fit :
      (ks : List ℕ) → Asc 1 (chunks j) ks → All (λ e. z ≤ bytes_of_chunk l e) ks → Feas (λ k. z) (due j) (after j) (held_most j) ks
  any_order_fit ks s e =
      record {
        whole =
            need_after
            0
            0
            0
            (omega arith)
            (λ g b t. absurd (omega (arith, begun_from_one 0 g t)))
            (omega (arith, none_held_at_0))
            0
            ks
            1
            0
            (omega arith)
            (omega arith)
            (omega arith)
            s
            e
            (omega arith);
        tails = any_order_tails ks 1 (omega arith) s e;
      }

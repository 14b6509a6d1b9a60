-- Lemmas. In any order, by counting: of the chunks from k on that a passing list carries at most H
-- are begun before slot d(k), and the bytes of the others stand from there on.
use Rattle.std.specs.Prelude.{ℕ, zero, suc, ◌+◌, ◌-◌, ◌≤◌, ◌<◌, ◌≡◌, Bool, true, false, cond, not, ◌&&◌, List, ◌∷◌, ◌⊎◌, length, T, leb, ltb, eqb}
use Rattle.std.proofs.Common.{sym, subst, ⊎_elim, inl, inr, arith, le-leb, T_not, leb→le, ltb→lt, lt→ltb, le→leb, eqb→eq}
use Rattle.std.proofs.Math.Dec.{not_T, nleb→lt, eqb_refl}
use Rattle.theory_basics.specs.Sums.{count}
use Rattle.theory_basics.specs.lemmas.Ranges.{bit, count_none, sum_mono}
use Rattle.theory_basics.specs.lemmas.Tests.{T_and, and_T, any_row_lem, at_row, by_cond, test}
use Rattle.fetch.specs.Rows.{Row, begun, bytes_if, held}
use Rattle.fetch.specs.Rules.{RowInRange, OnTime, Passes}
use Rattle.job.specs.Job.{Job, chunks, due, held_most, last_slot, size}
use Rattle.theory_plan.specs.Bases.{base_size}
use Rattle.theory_plan.specs.Plan.{after, picked}
use Rattle.theory_plan.specs.lemmas.Base.{bases_in}
use Rattle.theory_plan.specs.lemmas.Choice.{chunk_bytes}
use Rattle.theory_plan.specs.lemmas.Count.{bytes_disjoint, bytes_mono, some_row}
use Rattle.theory_plan.specs.lemmas.Feasible.{need_of}
use Rattle.theory_plan.specs.lemmas.Kept.{length_picked_le}
use Rattle.theory_plan.specs.lemmas.Level.{level, level_choice, level_exactly}
use Rattle.theory_plan.specs.lemmas.Necessity.{within_between}
use Rattle.theory_plan.specs.lemmas.Words.{bytes_of_chunk, due_mono}
use Rattle.theory_most.specs.Statement.{any_row, cut_from, most_from, with_or_without}
use Rattle.theory_most.proofs.Bounds.{largest_most}

-- ---- how many are picked

length_cond : (b : Bool) (x : ℕ) (ks : List ℕ) → length (cond b (x ∷ ks) ks) ≡ bit b + length ks
length_cond true x ks = omega arith
length_cond false x ks = omega arith

bit_either : (a b c : Bool) → (T a → T b ⊎ T c) → bit a ≤ bit b + bit c
bit_either true true c f = omega arith
bit_either true false true f = omega arith
bit_either true false false f = absurd (⊎_elim (λ (x : ⊥). x) (λ (x : ⊥). x) (f tt))
bit_either false b c f = omega arith

-- Each that passes p passes one of two tests.
split_length :
    (p f h : ℕ → Bool) (lo m : ℕ) → ((i : ℕ) → lo < i → i ≤ m + lo → T (p i) → T (f i) ⊎ T (h i)) →
    length (picked p lo m) + count h lo ≤ length (picked f lo m) + count h (m + lo)
split_length p f h lo zero g = let e : 0 + lo ≡ lo = omega arith in rw e (omega arith)
split_length p f h lo (suc m) g =
    let e : suc m + lo ≡ m + suc lo = omega arith in
    let r = split_length p f h (suc lo) m (λ i u v t. g i (omega arith) (omega arith) t) in
    rw e
    (omega (
      arith,
      r,
      length_cond (p (suc lo)) (suc lo) (picked p (suc lo) m),
      length_cond (f (suc lo)) (suc lo) (picked f (suc lo) m),
      bit_either (p (suc lo)) (f (suc lo)) (h (suc lo)) (g (suc lo) (omega arith) (omega arith)),
    ))

-- ---- rows of chunks that are not begun by slot q

-- A row of a chunk before lo that is not begun by slot q.
abbrev fresh : List Row → ℕ → ℕ → Row → Bool
fresh l q lo x = ltb x.chunk lo && not (begun l q x.chunk)

fresh_further : (l : List Row) (q lo hi : ℕ) (x : Row) → lo ≤ hi → T (fresh l q lo x) → T (fresh l q hi x)
fresh_further l q lo hi x h t =
    let u = and_T (ltb x.chunk lo) (not (begun l q x.chunk)) t in
    T_and (ltb x.chunk hi) (not (begun l q x.chunk)) (lt→ltb x.chunk hi (omega (arith, ltb→lt x.chunk lo u.0))) u.1

fresh_grows :
    (l : List Row) (q g : ℕ) → T (not (begun l q g)) → bytes_if (fresh l q g) l + bytes_of_chunk l g ≤ bytes_if (fresh l q (suc g)) l
fresh_grows l q g v =
    bytes_disjoint
    (fresh l q g)
    (λ x. eqb x.chunk g)
    (fresh l q (suc g))
    (λ x t. fresh_further l q g (suc g) x (omega arith) t)
    (λ x t.
    let e : x.chunk ≡ g = eqb→eq x.chunk g t in
    T_and (ltb x.chunk (suc g)) (not (begun l q x.chunk)) (lt→ltb x.chunk (suc g) (omega arith)) (rw e v))
    (λ x t w. omega (arith, ltb→lt x.chunk g (and_T (ltb x.chunk g) (not (begun l q x.chunk)) t).0, eqb→eq x.chunk g w))
    l

module _ (j : Job) (l : List Row) (ok : Passes j l) where
  -- They stand after q and are on time.
  fresh_within : (q g : ℕ) → q ≤ due j g → g ≤ chunks j → bytes_if (fresh l q (suc g)) l + after j (due j g) ≤ after j q
  fresh_within q g b h =
      within_between
      j
      l
      ok
      (fresh l q (suc g))
      q
      (due j g)
      b
      (due_mono j g (chunks j) h)
      (λ x i t.
      let u = and_T (ltb x.chunk (suc g)) (not (begun l q x.chunk)) t in
      let c : x.chunk < suc g = ltb→lt x.chunk (suc g) u.0 in
      let by : T (leb x.slot q) → T (begun l q x.chunk) = λ v.
      any_row_lem (λ y. eqb y.chunk x.chunk && leb y.slot q) i (T_and (eqb x.chunk x.chunk) (leb x.slot q) (eqb_refl x.chunk) v) in (
        ⊎_elim
            (λ v. absurd (T_not (begun l q x.chunk) u.1 (by v)))
            (λ v. nleb→lt x.slot q v)
            (test (leb x.slot q)),
        omega (arith, at_row (OnTime j) i ok.on_time_lem, due_mono j x.chunk g (omega arith)),
      ))

  -- Chunks that are not begun by slot q, and whose base bytes the list has, need no more than is
  -- forecast after q.
  need_fresh :
      (q : ℕ) (f : ℕ → Bool) (lo m c : ℕ) → lo + m ≤ chunks j → q ≤ due j (suc lo) →
      ((i : ℕ) → lo < i → i ≤ chunks j → T (f i) → T (not (begun l q i)) × (base_size j i ≤ bytes_of_chunk l i)) →
      c ≤ bytes_if (fresh l q (suc lo)) l → c ≤ after j q → c + need_of (base_size j) (due j) (after j) (picked f lo m) ≤ after j q
  need_fresh q f lo zero c h d g a b = omega arith
  need_fresh q f lo (suc m) c h d g a b =
      let d' : q ≤ due j (suc (suc lo)) = omega (arith, due_mono j (suc lo) (suc (suc lo)) (omega arith)) in
      by_cond
      (λ (ks : List ℕ). c + need_of (base_size j) (due j) (after j) ks ≤ after j q)
      (f (suc lo))
      {x = suc lo ∷ picked f (suc lo) m}
      {y = picked f (suc lo) m}
      (λ t.
      let s = g (suc lo) (omega arith) (omega arith) t in
      let grown = fresh_grows l q (suc lo) s.0 in
      let inside = fresh_within q (suc lo) d (omega arith) in
      let r = need_fresh q f (suc lo) m (c + base_size j (suc lo)) (omega arith) d' (λ i u v w. g i (omega arith) v w) (omega (arith, grown, s.1, a)) (omega (arith, grown, inside, s.1, a)) in
      omega (arith, r, grown, inside, s.1, a))
      (λ t.
      need_fresh q f (suc lo) m c (omega arith) d' (λ i u v w. g i (omega arith) v w)
      (omega (arith, bytes_mono (fresh l q (suc lo)) (fresh l q (suc (suc lo))) (λ x u. fresh_further l q (suc lo) (suc (suc lo)) x (omega arith) u) l))
      b)

  -- ---- what is held

  begun_from_one : (q g : ℕ) → T (begun l q g) → 1 ≤ q
  begun_from_one q g t =
      let r = some_row (λ x. eqb x.chunk g && leb x.slot q) l t in
      omega (arith, (at_row (RowInRange j) r.1 ok.in_range_lem).slot_low, leb→le r.0.slot q (and_T (eqb r.0.chunk g) (leb r.0.slot q) r.2).1)

  -- Rule 6 starts at slot 1; before it nothing is held.
  held_few : (q : ℕ) → q ≤ last_slot j → count (held j l q) (chunks j) ≤ held_most j
  held_few zero h =
      omega (
        arith,
        count_none (held j l 0) (chunks j) (λ e u v.
            not_T (held j l 0 e) (λ t. omega (arith, begun_from_one 0 e (and_T (begun l 0 e) (ltb 0 (due j e)) t).0))),
      )
  held_few (suc q) h = ok.few_held (suc q) (omega arith) h

  -- ---- the rows

  raw_le : (k : ℕ) (row : ℕ → ℕ) (c : ℕ) → with_or_without j k row c ≤ row c
  raw_le k row zero = omega arith
  raw_le k row (suc c) = omega arith

  -- What a row says of chunks, picked by a test.
  abbrev Says : (ℕ → ℕ) → (ℕ → Bool) → ℕ → ℕ → Type 0
  Says row p lo n = row (length (picked p lo n)) ≤ need_of (base_size j) (due j) (after j) (picked p lo n)

  raw_says : (row : ℕ → ℕ) (p : ℕ → Bool) (lo n : ℕ) → Says row p (suc lo) n → Says (with_or_without j (suc lo) row) p lo (suc n)
  raw_says row p lo n h =
      by_cond
      (λ (ks : List ℕ). with_or_without j (suc lo) row (length ks) ≤ need_of (base_size j) (due j) (after j) ks)
      (p (suc lo))
      {x = suc lo ∷ picked p (suc lo) n}
      {y = picked p (suc lo) n}
      (λ t. omega (arith, h))
      (λ t. omega (arith, h, raw_le (suc lo) row (length (picked p (suc lo) n))))

  -- The chunks that pass are carried, at least their bases.
  abbrev HasBases : (ℕ → Bool) → ℕ → Type 0
  HasBases p lo = (i : ℕ) → lo < i → i ≤ chunks j → T (p i) → base_size j i ≤ bytes_of_chunk l i

  -- At most so many: the fresh ones need no more than is there, and the others are held.
  cut_few :
      (row : ℕ → ℕ) (p : ℕ → Bool) (lo n : ℕ) → lo + suc n ≡ chunks j → HasBases p lo →
      ((f : ℕ → Bool) → HasBases f lo → Says row f lo (suc n)) → length (picked p lo (suc n)) ≤ most_from j (suc lo) row
  cut_few row p lo n e has says =
      let q = due j (suc lo) - 1 in
      let f : ℕ → Bool = λ i. p i && not (begun l q i) in
      let s = says f (λ i u v t. has i u v (and_T (p i) (not (begun l q i)) t).0) in
      let need =
      need_fresh q f lo (suc n) 0 (omega arith) (omega arith)
      (λ i u v t. let w = and_T (p i) (not (begun l q i)) t in (w.1, has i u v w.0))
      (omega arith)
      (omega arith) in
      let c = length (picked f lo (suc n)) in
      let few =
      largest_most (λ c. leb (row c) (after j q)) (chunks j) c (omega (arith, length_picked_le f lo (suc n)))
      (le→leb (row c) (after j q) (omega (arith, s, need))) in
      let m : suc n + lo ≡ chunks j = omega arith in
      let split =
      rw m at
      (split_length p f (held j l q) lo (suc n) (λ i u v t.
      ⊎_elim
      (λ b. inr (T_and (begun l q i) (ltb q (due j i)) b (lt→ltb q (due j i) (omega (arith, begun_from_one q i b, due_mono j (suc lo) i u)))))
      (λ b. inl (T_and (p i) (not (begun l q i)) t b))
      (test (begun l q i)))) in
      omega (arith, split, few, held_few q (omega (arith, due_mono j (suc lo) (chunks j) (omega arith))))

  pub any_under : (n lo : ℕ) → lo + n ≡ chunks j → (p : ℕ → Bool) → HasBases p lo → Says (any_row j n) p lo n
  any_under zero lo e p has = omega arith
  any_under (suc n) lo e p has =
      let k : chunks j - n ≡ suc lo = omega arith in
      let row = with_or_without j (suc lo) (any_row j n) in
      let raw : (f : ℕ → Bool) → HasBases f lo → Says row f lo (suc n) = λ f h.
      raw_says (any_row j n) f lo n (any_under n (suc lo) (omega arith) f (λ i u v t. h i (omega arith) v t)) in
      let few = cut_few row p lo n e has raw in
      subst (λ (x : ℕ). Says (cut_from j x (with_or_without j x (any_row j n))) p lo (suc n)) (sym k)
      (rw (le-leb (length (picked p lo (suc n))) (most_from j (suc lo) row) few) (raw p has))

  -- The bases that the list carries.
  pub bases_had : HasBases (λ i. ltb 0 (level j l i)) 0
  bases_had i u v t =
      let x = level j l in
      let b = chunk_bytes j l x ok (level_choice j l) (level_exactly j l ok) i u v in
      omega (arith, b, sum_mono (size j i) 1 (x i) (ltb→lt 0 (x i) t))

  pub bases_need : need_of (base_size j) (due j) (after j) (bases_in j l) ≤ after j 0
  bases_need =
      omega (
        arith,
        need_fresh 0 (λ i. ltb 0 (level j l i)) 0 (chunks j) 0 (omega arith) (omega arith)
            (λ i u v t. (not_T (begun l 0 i) (λ b. omega (arith, begun_from_one 0 i b)), bases_had i u v t))
            (omega arith)
            (omega arith),
      )

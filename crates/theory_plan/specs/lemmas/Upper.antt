-- Lemmas. A layer above the base, in playing order: where the layers below are the plan's, the plan
-- carries it for as many chunks as any choice that fits, if it has one size. Section 5 (c) of the
-- argument, for layer n.
use Rattle.std.specs.Prelude.{ℕ, zero, suc, ◌+◌, ◌*◌, ◌-◌, ◌≤◌, ◌<◌, max, min, ◌≡◌, refl, Bool, true, false, not, cond, List, ◌∷◌, T, leb, ltb}
use Rattle.std.proofs.Common.{ap, ⊎_elim, arith, mul-le-mul_right, eq-eqb, ne_eqb, le-leb, lt-ltb, le-ltb, T_not, leb→le, ltb→lt, nltb→le, lt→ltb}
use Rattle.std.proofs.lemmas.Bool.{lt-leb}
use Rattle.std.proofs.Math.Dec.{nleb→lt}
use Rattle.theory_basics.specs.Sums.{count, sum}
use Rattle.theory_basics.specs.lemmas.Ranges.{sum_mono, bit}
use Rattle.theory_basics.specs.lemmas.Tests.{by_cond, test}
use Rattle.job.specs.Job.{Job, chunks, due, held_most, size}
use Rattle.theory_plan.specs.lemmas.Choice.{Fits}
use Rattle.theory_plan.specs.Plan.{bytes, kept, picked, after, tried}
use Rattle.theory_plan.specs.lemmas.Feasible.{need_of}
use Rattle.theory_plan.specs.lemmas.Kept.{need_picked, picked_drop}
use Rattle.theory_plan.specs.lemmas.Need.{feas_max}
use Rattle.theory_plan.specs.lemmas.Plan.{same_kept, tried_kept}
use Rattle.theory_plan.specs.Statement.{count_of}

-- ---- one chunk of the scan

-- How many of lo + 1 .. lo + m pass.
abbrev among : (ℕ → Bool) → ℕ → ℕ → ℕ
among q lo zero = 0
among q lo (suc m) = bit (q (suc lo)) + among q (suc lo) m

among_count : (q : ℕ → Bool) (lo m : ℕ) → among q lo m + count q lo ≡ count q (m + lo)
among_count q lo zero = let e : 0 + lo ≡ lo = omega arith in rw e (omega arith)
among_count q lo (suc m) = let e : suc m + lo ≡ m + suc lo = omega arith in rw e (omega (arith, among_count q (suc lo) m))

-- The scan goes from the last chunk down: g and c are how many the plan and the other have taken,
-- np and nx what they need. One chunk: the plan takes the layer if a, the other if b.
scan_step :
    (a b : Bool) (s r np nx g c z : ℕ) → c ≤ g → np + c * z ≤ nx + g * z → (T (not a) → T b → c < g) →
    (bit b + c ≤ bit a + g) × (s + cond a z 0 + max r np + (bit b + c) * z ≤ s + cond b z 0 + max r nx + (bit a + g) * z)
scan_step true true s r np nx g c z h e f = (omega arith, omega (arith, mul-le-mul_right z h))
scan_step true false s r np nx g c z h e f = (omega arith, omega (arith, mul-le-mul_right z h))
scan_step false true s r np nx g c z h e f = let l : suc c ≤ g = f tt tt in (omega arith, omega (arith, mul-le-mul_right z h, mul-le-mul_right z l))
scan_step false false s r np nx g c z h e f = (omega arith, omega (arith, mul-le-mul_right z h))

module _
    (j : Job) (n z : ℕ) (up : 1 ≤ n) (equal : (i : ℕ) → 1 ≤ i → i ≤ chunks j → size j i n ≡ z) (p x : ℕ → ℕ) (fp : Fits j p)
    (fx : Fits j x) (agree : (i : ℕ) → 1 ≤ i → i ≤ chunks j → min (x i) n ≡ min (p i) n)
    (accepts : (i : ℕ) → 1 ≤ i → i ≤ chunks j → n ≤ p i → Fits j (tried p n i) → n < p i) where
  -- The plan keeps chunk i.
  abbrev base : ℕ → Bool
  base i = leb 1 (p i)

  -- The bytes of a chunk up to layer n.
  abbrev up_to_layer : (ℕ → ℕ) → ℕ → ℕ
  up_to_layer lv k = sum (size j k) (min (lv k) (suc n))

  -- The need of chunks of the job.
  abbrev need_of_lem : (ℕ → ℕ) → List ℕ → ℕ
  need_of_lem w = need_of w (due j) (after j)

  up_to_layer_is : (lv : ℕ → ℕ) (k : ℕ) → 1 ≤ k → k ≤ chunks j → up_to_layer lv k ≡ sum (size j k) (min (lv k) n) + cond (ltb n (lv k)) z 0
  up_to_layer_is lv k g h =
      ⊎_elim
      (λ t.
      let l = ltb→lt n (lv k) t in
      let e : min (lv k) (suc n) ≡ suc n = omega arith in
      let e' : min (lv k) n ≡ n = omega arith in
      rw (e, e', lt-ltb n (lv k) l) (omega (arith, equal k g h)))
      (λ t.
      let l = nltb→le n (lv k) t in
      let e : min (lv k) (suc n) ≡ min (lv k) n = omega arith in
      rw (e, le-ltb n (lv k) l) (omega arith))
      (test (ltb n (lv k)))

  -- ---- where the layer is tried at lo + 1, the other takes it, and the plan needs no more behind
  -- it, the plan takes it

  module _
      (lo m : ℕ) (all : lo + suc m ≡ chunks j) (takes : n < x (suc lo))
      (no-more-behind : need_of_lem (up_to_layer p) (picked base (suc lo) m) ≤ need_of_lem (up_to_layer x) (picked base (suc lo) m)) where
    -- The chunk that is tried.
    abbrev i : ℕ
    i = suc lo

    -- The bytes that are tried.
    abbrev t : ℕ → ℕ
    t = bytes j (tried p n i)

    below_carried : n ≤ p i
    below_carried = omega (arith, agree i (omega arith) (omega arith))

    -- Behind i the trial is the plan up to layer n.
    tried_behind : (b k : ℕ) → i ≤ b → need_of_lem t (picked base b k) ≤ need_of_lem (up_to_layer p) (picked base b k)
    tried_behind b k h =
        need_picked t (up_to_layer p) (due j) (after j) base b k (λ e u v w. rw (ne_eqb e i (omega arith), lt-ltb i e (omega arith)) (omega arith))

    up_to_layer_needs_less : (lv : ℕ → ℕ) (b k : ℕ) → need_of_lem (up_to_layer lv) (picked base b k) ≤ need_of_lem (bytes j lv) (picked base b k)
    up_to_layer_needs_less lv b k =
        need_picked (up_to_layer lv) (bytes j lv) (due j) (after j) base b k (λ e u v w. sum_mono (size j e) (min (lv e) (suc n)) (lv e) (omega arith))

    -- From i to the front it is no heavier than the other.
    tried_to_front : (e b : ℕ) → e + b ≡ lo → need_of_lem t (picked base b (e + suc m)) ≤ need_of_lem (bytes j x) (picked base b (e + suc m))
    tried_to_front zero b h =
        let q : 0 + suc m ≡ suc m = omega arith in
        let q' : b ≡ lo = omega arith in
        let r = tried_behind i m (omega arith) in
        let r' = up_to_layer_needs_less x i m in
        rw (q, q')
        (by_cond
        (λ (ks : List ℕ). need_of_lem t ks ≤ need_of_lem (bytes j x) ks)
        (base i)
        {x = i ∷ picked base i m}
        {y = picked base i m}
        (λ w. rw (eq-eqb i i refl) (omega (arith, r, r', no-more-behind, sum_mono (size j i) (suc n) (x i) takes)))
        (λ w. omega (arith, r, r', no-more-behind)))
    tried_to_front (suc e) b h =
        let q : suc e + suc m ≡ suc (e + suc m) = omega arith in
        let r = tried_to_front e (suc b) (omega arith) in
        let s = sum_mono (size j (suc b)) (min (p (suc b)) n) (x (suc b)) (omega (arith, agree (suc b) (omega arith) (omega arith))) in
        rw q
        (by_cond
        (λ (ks : List ℕ). need_of_lem t ks ≤ need_of_lem (bytes j x) ks)
        (base (suc b))
        {x = suc b ∷ picked base (suc b) (e + suc m)}
        {y = picked base (suc b) (e + suc m)}
        (λ w. rw (ne_eqb (suc b) i (omega arith), le-ltb i (suc b) (omega arith)) (omega arith))
        (λ w. r))

    -- From any chunk on it is no heavier than the plan or than the other.
    tried_from_any :
        (b k : ℕ) → b + k ≡ chunks j →
        need_of_lem t (picked base b k) ≤ max (need_of_lem (bytes j p) (picked base b k)) (need_of_lem (bytes j x) (picked base b k))
    tried_from_any b k h =
        ⊎_elim
        (λ w. omega (arith, tried_behind b k (leb→le i b w), up_to_layer_needs_less p b k))
        (λ w.
        let l : b < i = nleb→lt i b w in
        let e : k ≡ lo - b + suc m = omega arith in
        rw e (omega (arith, tried_to_front (lo - b) b (omega arith))))
        (test (leb i b))

    tried_fits : Fits j (tried p n i)
    tried_fits =
        rw (tried_kept j n p i up below_carried)
        (feas_max t (bytes j p) (bytes j x) (due j) (after j) (held_most j) (kept j p)
        (λ e. let b = picked_drop base e 0 (chunks j) in rw b.4 (tried_from_any b.0 b.1 (omega (arith, b.2))))
        fp
        (rw (same_kept j n p x up agree) at fx))

    plan_takes : n < p i
    plan_takes = accepts i (omega arith) (omega arith) below_carried tried_fits

  -- ---- the scan

  -- Over lo + 1 .. lo + m the plan has taken no fewer, and needs no more but for what it took more.
  record Ahead (lo m : ℕ) : Type 0 where
    count : among (λ i. ltb n (x i)) lo m ≤ among (λ i. ltb n (p i)) lo m
    needs :
        need_of_lem (up_to_layer p) (picked base lo m) + among (λ i. ltb n (x i)) lo m * z ≤ need_of_lem (up_to_layer x) (picked base lo m) + among (λ i. ltb n (p i)) lo m * z

  ahead_kept : (lo m : ℕ) → lo + suc m ≡ chunks j → T (base (suc lo)) → Ahead (suc lo) m → Ahead lo (suc m)
  ahead_kept lo m h k a =
      let i = suc lo in
      let g = among (λ i. ltb n (p i)) i m in
      let c = among (λ i. ltb n (x i)) i m in
      let e : base i ≡ true = le-leb 1 (p i) (leb→le 1 (p i) k) in
      let s =
      scan_step
      (ltb n (p i))
      (ltb n (x i))
      (sum (size j i) (min (p i) n))
      (after j (due j i))
      (need_of_lem (up_to_layer p) (picked base i m))
      (need_of_lem (up_to_layer x) (picked base i m))
      g
      c
      z
      a.count
      a.needs
      (λ u v.
      ⊎_elim
      (λ w. ltb→lt c g w)
      (λ w.
      let d : c ≡ g = omega (arith, a.count, nltb→le c g w) in
      absurd (T_not (ltb n (p i)) u (lt→ltb n (p i) (plan_takes lo m h (ltb→lt n (x i) v) (omega (arith, a.needs, ap (λ (y : ℕ). y * z) d))))))
      (test (ltb c g))) in
      let wp = up_to_layer_is p i (omega arith) (omega arith) in
      let wx = up_to_layer_is x i (omega arith) (omega arith) in
      record { count = s.0; needs = rw e (omega (arith, s.1, wp, wx, ap (sum (size j i)) (agree i (omega arith) (omega arith)))) }

  ahead_skipped : (lo m : ℕ) → lo + suc m ≡ chunks j → T (not (base (suc lo))) → Ahead (suc lo) m → Ahead lo (suc m)
  ahead_skipped lo m h k a =
      let i = suc lo in
      let l = nleb→lt 1 (p i) k in
      let e : base i ≡ false = lt-leb 1 (p i) l in
      let ep : ltb n (p i) ≡ false = le-ltb n (p i) (omega arith) in
      let ex : ltb n (x i) ≡ false = le-ltb n (x i) (omega (arith, agree i (omega arith) (omega arith))) in
      record { count = rw (ep, ex) (omega (arith, a.count)); needs = rw (e, ep, ex) (omega (arith, a.needs)) }

  ahead : (lo m : ℕ) → lo + m ≡ chunks j → Ahead lo m
  ahead lo zero h = record { count = omega arith; needs = omega arith }
  ahead lo (suc m) h =
      let a = ahead (suc lo) m (omega arith) in
      ⊎_elim (λ k. ahead_kept lo m h k a) (λ k. ahead_skipped lo m h k a) (test (base (suc lo)))

  -- The other takes the layer for no more chunks than the plan.
  pub upper_most : count_of j x n ≤ count_of j p n
  upper_most =
      let e : chunks j + 0 ≡ chunks j = omega arith in
      omega (
        arith,
        (ahead 0 (chunks j) (omega arith)).count,
        rw e at (among_count (λ i. ltb n (x i)) 0 (chunks j)),
        rw e at (among_count (λ i. ltb n (p i)) 0 (chunks j)),
      )

-- Lemmas. The base, in any order: the plan keeps as many chunks as any passing list, where the
-- chunks have one base size. Section 5 (b) of the argument: the plan stays ahead.
use Rattle.std.specs.Prelude.{ℕ, zero, suc, ◌+◌, ◌-◌, ◌≤◌, ◌<◌, min, ◌≡◌, refl, Bool, List, [], ◌∷◌, ◌↔◌, length, drop, T, leb, ltb, eqb}
use Rattle.std.proofs.Common.{sym, ap, ◌∙◌, subst, ⊎_elim, arith, eq-eqb, ne_eqb, lt-ltb, le-ltb, T_not, leb→le, ltb→lt, lt→ltb, le→leb}
use Rattle.std.proofs.lemmas.Bool.{lt-leb}
use Rattle.std.proofs.Math.Dec.{nleb→lt}
use Rattle.theory_basics.specs.lemmas.Ranges.{sum_mono}
use Rattle.theory_basics.specs.lemmas.Tests.{by_cond, test}
use Rattle.fetch.specs.Rows.{Row}
use Rattle.fetch.specs.Rules.{Passes}
use Rattle.job.specs.Job.{Job, chunks, due, held_most, size}
use Rattle.theory_plan.specs.lemmas.AnyOrder.{any_order_fit}
use Rattle.theory_plan.specs.lemmas.Ascending.{count_all}
use Rattle.theory_plan.specs.lemmas.Choice.{Fits, chunk_bytes}
use Rattle.theory_plan.specs.Plan.{bytes, kept, picked, after, tried}
use Rattle.theory_plan.specs.lemmas.Feasible.{need_of}
use Rattle.theory_plan.specs.lemmas.Kept.{feas_picked, length_picked, picked_asc, picked_cong, picked_each, picked_skip}
use Rattle.theory_plan.specs.lemmas.Level.{level, level_choice, level_exactly}
use Rattle.theory_plan.specs.lemmas.Need.{Feas, feas_mono, feas_tail}
use Rattle.theory_plan.specs.lemmas.Plan.{kept_same_test}
use Rattle.theory_plan.specs.Statement.{count_of}
use Rattle.theory_plan.specs.lemmas.Words.{after_anti, bytes_of_chunk, due_mono}
use Rattle.theory_plan.specs.Bases.{Asc}

-- ---- lists of chunks compared

-- As long, and no element larger.
data AtMost : List ℕ → List ℕ → Type 0 where
  none : AtMost [] []
  both : {k g : ℕ} {ks gs : List ℕ} → k ≤ g → AtMost ks gs → AtMost (k ∷ ks) (g ∷ gs)

-- Aligned at the end: the j-th from the end is no larger, and the second list may be longer.
data Below : List ℕ → List ℕ → Type 0 where
  same : {ks gs : List ℕ} → AtMost ks gs → Below ks gs
  more : {g : ℕ} {ks gs : List ℕ} → Below ks gs → Below ks (g ∷ gs)

at_most_length : {ks gs : List ℕ} → AtMost ks gs → length ks ≡ length gs
at_most_length none = refl
at_most_length (both h r) = omega (arith, at_most_length r)

below_length : {ks gs : List ℕ} → Below ks gs → length ks ≤ length gs
below_length (same r) = omega (arith, at_most_length r)
below_length (more r) = omega (arith, below_length r)

below_nil : (gs : List ℕ) → Below [] gs
below_nil [] = same none
below_nil (g ∷ gs) = more (below_nil gs)

below_cons : {ks gs : List ℕ} (i g hi : ℕ) → i ≤ g → Asc (suc g) hi gs → Below ks gs → Below (i ∷ ks) (g ∷ gs)
below_cons i g hi h a (same r) = same (both h r)
below_cons i g hi h a (more {g = g'} r) = more (below_cons i g' hi (omega arith) a.2 r)

-- ---- picking from the last down what keeps the picked ones good

-- F says that a list is good; where one list is good with x in front, so is a good list of later
-- elements.
module _
    (F : List ℕ → Type 0) (c : ℕ) (p : ℕ → Bool) (nil : F []) (tail : (k : ℕ) (ks : List ℕ) → F (k ∷ ks) → F ks)
    (swap : (x : ℕ) (ks gs : List ℕ) → AtMost ks gs → F (x ∷ ks) → F gs → F (x ∷ gs))
    (picks : (i m : ℕ) → i + m ≡ c → 1 ≤ i → T (p i) ↔ F (i ∷ picked p i m)) where
  picked_good : (lo m : ℕ) → lo + m ≡ c → F (picked p lo m)
  picked_good lo zero h = nil
  picked_good lo (suc m) h = by_cond F (p (suc lo)) (λ t. (picks (suc lo) m (omega arith) (omega arith)).0 t) (λ t. picked_good (suc lo) m (omega arith))

  below_if_refused :
      (i : ℕ) (ks gs : List ℕ) → F (i ∷ ks) → F gs → Asc (suc i) c gs → (F (i ∷ gs) → ⊥) → Below ks gs → Below (i ∷ ks) gs
  below_if_refused i ks gs t u a v (same r) = absurd (v (swap i ks gs r t u))
  below_if_refused i ks gs t u a v (more {g = g} r) = below_cons i g c (omega arith) a.2 r

  below_with_next :
      (lo m : ℕ) (ks : List ℕ) → lo + suc m ≡ c → F (suc lo ∷ ks) → Below ks (picked p (suc lo) m) →
      Below (suc lo ∷ ks) (picked p lo (suc m))
  below_with_next lo m ks h t b =
      let s = picked_asc p (suc lo) m c (omega arith) in
      by_cond
      (Below (suc lo ∷ ks))
      (p (suc lo))
      (λ v. below_cons (suc lo) (suc lo) c (omega arith) s b)
      (λ v. below_if_refused (suc lo) ks (picked p (suc lo) m) t (picked_good (suc lo) m (omega arith)) s (λ f. T_not (p (suc lo)) v ((picks (suc lo) m (omega arith) (omega arith)).1 f)) b)

  -- Every good list lies below what is picked.
  below_picked : (lo m : ℕ) (ks : List ℕ) → lo + m ≡ c → Asc (suc lo) c ks → F ks → Below ks (picked p lo m)
  below_picked lo zero [] h a t = same none
  below_picked lo zero (k ∷ ks) h a t = absurd (omega arith)
  below_picked lo (suc m) [] h a t = below_nil _
  below_picked lo (suc m) (k ∷ ks) h a t =
      ⊎_elim
      (λ u.
      let e : k ≡ suc lo = omega (arith, leb→le k (suc lo) u) in
      let b = below_picked (suc lo) m ks (omega arith) (rw e at a.2) (tail k ks t) in
      rw e (below_with_next lo m ks h (rw e at t) b))
      (λ u.
      let b = below_picked (suc lo) m (k ∷ ks) (omega arith) (omega (arith, nleb→lt k (suc lo) u), a.1, a.2) t in
      by_cond (Below (k ∷ ks)) (p (suc lo)) (λ v. more b) (λ v. b))
      (test (leb k (suc lo)))

  longest_picked : (ks : List ℕ) → Asc 1 c ks → F ks → length ks ≤ length (picked p 0 c)
  longest_picked ks a t = below_length (below_picked 0 c ks (omega arith) a t)

-- ---- later chunks of no more bytes need no more

at_most_drop : (n : ℕ) {ks gs : List ℕ} → AtMost ks gs → AtMost (drop n ks) (drop n gs)
at_most_drop zero r = r
at_most_drop (suc n) none = none
at_most_drop (suc n) (both h r) = at_most_drop n r

module _
    (w d A : ℕ → ℕ) (h : ℕ) (w-anti : (x y : ℕ) → x ≤ y → w y ≤ w x) (d-mono : (x y : ℕ) → x ≤ y → d x ≤ d y)
    (A-anti : (x y : ℕ) → x ≤ y → A y ≤ A x) where
  need_of_later : {ks gs : List ℕ} → AtMost ks gs → need_of w d A gs ≤ need_of w d A ks
  need_of_later none = omega arith
  need_of_later (both {k = k} {g = g} l r) =
      omega (arith, need_of_later r, w-anti k g l, A-anti (d k) (d g) (d-mono k g l))

  feas_exchange : (x : ℕ) (ks gs : List ℕ) → AtMost ks gs → Feas w d A h (x ∷ ks) → Feas w d A h gs → Feas w d A h (x ∷ gs)
  feas_exchange x ks gs r f g =
      let r' : AtMost (x ∷ ks) (x ∷ gs) = both {k = x} {g = x} (omega arith) r in
      record {
        whole = omega (arith, need_of_later r', f.whole);
        tails = (omega (arith, need_of_later (at_most_drop h r'), f.tails.0), g.tails);
      }

-- ---- the bases of a passing list

-- The chunks whose base a list carries, in playing order.
abbrev pub bases_in : Job → List Row → List ℕ
bases_in j l = picked (λ i. ltb 0 (level j l i)) 0 (chunks j)

pub bases_asc : (j : Job) (l : List Row) → Asc 1 (chunks j) (bases_in j l)
bases_asc j l = picked_asc (λ i. ltb 0 (level j l i)) 0 (chunks j) (chunks j) (omega arith)

pub bases_counted : (j : Job) (l : List Row) → count_of j (level j l) 0 ≡ length (bases_in j l)
bases_counted j l =
    let e : chunks j + 0 ≡ chunks j = omega arith in
    omega (arith, rw e at (length_picked (λ i. ltb 0 (level j l i)) 0 (chunks j)))

-- They fit, in whatever order the list fetches, where the chunks have one base size z.
pub bases_fit :
    (j : Job) (z : ℕ) → ((i : ℕ) → 1 ≤ i → i ≤ chunks j → size j i 0 ≡ z) → (l : List Row) → Passes j l →
    Feas (λ k. z) (due j) (after j) (held_most j) (bases_in j l)
bases_fit j z equal l ok =
    let x = level j l in
    any_order_fit j l ok z (bases_in j l) (bases_asc j l)
    (picked_each (λ i. ltb 0 (x i)) (λ e. z ≤ bytes_of_chunk l e) 0 (chunks j) (λ i u v t.
    let b = chunk_bytes j l x ok (level_choice j l) (level_exactly j l ok) i u (omega arith) in
    omega (arith, equal i u (omega arith), b, sum_mono (size j i) 1 (x i) (ltb→lt 0 (x i) t))))

-- ---- the base of a plan

module _ (j : Job) (p : ℕ → ℕ) (accepts : (i : ℕ) → 1 ≤ i → i ≤ chunks j → (0 < p i) ↔ Fits j (tried p 0 i)) where
  -- The chunks that are kept when the base of chunk i is tried.
  tried_kept_base : (i m : ℕ) → i + m ≡ chunks j → 1 ≤ i → kept j (tried p 0 i) ≡ i ∷ picked (λ i. leb 1 (p i)) i m
  tried_kept_base i m e g =
      let q : ℕ → Bool = λ k. leb 1 (tried p 0 i k) in
      let c : (i - 1) + suc m ≡ chunks j = omega arith in
      let o : (i - 1) + 0 ≡ (i - 1) = omega arith in
      let s : suc (i - 1) ≡ i = omega arith in
      let skip : picked q 0 (chunks j) ≡ picked q (i - 1) (suc m) =
      rw (c, o) at
      (picked_skip q 0 (i - 1) (suc m) (λ k u v. rw (ne_eqb k i (omega arith), le-ltb i k (omega arith)) (lt-leb 1 (min (p k) 0) (omega arith)))) in
      skip
      ∙ rw (s, eq-eqb i i refl)
      (ap
      (λ (ks : List ℕ). i ∷ ks)
      (picked_cong q (λ i. leb 1 (p i)) i m (λ k u v. rw (ne_eqb k i (omega arith), lt-ltb i k u) (kept_same_test (min (p k) 1) (p k) 1 (omega arith) (omega arith)))))

  -- Each of them has its base alone.
  tried_bytes : (i k : ℕ) → T (leb 1 (tried p 0 i k)) → bytes j (tried p 0 i) k ≡ size j k 0
  tried_bytes i k t =
      let a : tried p 0 i k ≤ 1 = by_cond (λ x. x ≤ 1) (eqb k i) (λ u. omega arith) (λ u. by_cond (λ x. min (p k) x ≤ 1) (ltb i k) {x = 1} {y = 0} (λ v. omega arith) (λ v. omega arith)) in
      let e : tried p 0 i k ≡ 1 = omega (arith, leb→le 1 (tried p 0 i k) t) in
      rw e (omega arith)

  -- The plan keeps chunk i exactly if it fits with the chunks kept behind it.
  pub base_picks :
      (i m : ℕ) → i + m ≡ chunks j → 1 ≤ i →
      T (leb 1 (p i)) ↔ Feas (λ k. size j k 0) (due j) (after j) (held_most j) (i ∷ picked (λ i. leb 1 (p i)) i m)
  base_picks i m e g =
      let a = accepts i g (omega arith) in
      let w = tried_kept_base i m e g in
      let b : ℕ → ℕ = λ k. size j k 0 in
      let t : ℕ → ℕ = bytes j (tried p 0 i) in
      let q : ℕ → Bool = λ k. leb 1 (tried p 0 i k) in
      let lighter = feas_picked b t (due j) (after j) (held_most j) q 0 (chunks j) (λ k u v y. omega (arith, tried_bytes i k y)) in
      let heavier = feas_picked t b (due j) (after j) (held_most j) q 0 (chunks j) (λ k u v y. omega (arith, tried_bytes i k y)) in (
        λ y. subst (Feas b (due j) (after j) (held_most j)) w (lighter (a.0 (leb→le 1 (p i) y))),
        λ f. le→leb 1 (p i) (a.1 (heavier (subst (Feas b (due j) (after j) (held_most j)) (sym w) f))),
      )

module _
    (j : Job) (z : ℕ) (equal : (i : ℕ) → 1 ≤ i → i ≤ chunks j → size j i 0 ≡ z) (p : ℕ → ℕ)
    (accepts : (i : ℕ) → 1 ≤ i → i ≤ chunks j → (0 < p i) ↔ Fits j (tried p 0 i)) where
  -- The plan keeps chunk i.
  abbrev base : ℕ → Bool
  base i = leb 1 (p i)

  -- Chunks of z bytes fit.
  abbrev Good : List ℕ → Type 0
  Good = Feas (λ k. z) (due j) (after j) (held_most j)

  good_picks : (i m : ℕ) → i + m ≡ chunks j → 1 ≤ i → T (base i) ↔ Good (i ∷ picked base i m)
  good_picks i m e g =
      let a = base_picks j p accepts i m e g in
      let b : ℕ → ℕ = λ k. size j k 0 in
      let ks = picked base i m in
      let front = equal i g (omega arith) in
      let le = picked_each base (λ k. z ≤ b k) i m (λ k u v t. omega (arith, equal k (omega arith) (omega arith))) in
      let ge = picked_each base (λ k. b k ≤ z) i m (λ k u v t. omega (arith, equal k (omega arith) (omega arith))) in (
        λ t. feas_mono (λ k. z) b (due j) (after j) (held_most j) (i ∷ ks) (omega arith, le) (a.0 t),
        λ f. a.1 (feas_mono b (λ k. z) (due j) (after j) (held_most j) (i ∷ ks) (omega arith, ge) f),
      )

  -- No passing list carries more bases than the plan.
  pub base_most : (l : List Row) → Passes j l → count_of j (level j l) 0 ≤ count_of j p 0
  base_most l ok =
      let m =
      longest_picked Good (chunks j) base
      (record { whole = omega arith; tails = tt })
      (feas_tail (λ k. z) (due j) (after j) (held_most j))
      (feas_exchange (λ k. z) (due j) (after j) (held_most j) (λ x y h. omega arith) (due_mono j) (after_anti j))
      good_picks (bases_in j l) (bases_asc j l) (bases_fit j z equal l ok) in
      omega (
        arith,
        m,
        bases_counted j l,
        count_all
            (λ i. ltb 0 (p i))
            0
            (chunks j)
            (picked base 0 (chunks j))
            (omega arith)
            (picked_asc base 0 (chunks j) (chunks j) (omega arith))
            (picked_each base (λ i. T (ltb 0 (p i))) 0 (chunks j) (λ i u v t. lt→ltb 0 (p i) (leb→le 1 (p i) t))),
      )

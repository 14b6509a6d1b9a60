-- Lemmas. The Moore-Hodgson algorithm, as lists of numbers: what is dropped, that one drop is
-- enough, and that what is kept at the end fits at every place. s k: the bytes of chunk k; room i:
-- what those of chunks 1 to i may sum to. Assumes nothing of them but that room rises.
use Rattle.std.specs.Prelude.{ℕ, zero, suc, ◌+◌, ◌≤◌, ◌<◌, ◌≡◌, refl, List, [], ◌∷◌, ◌++◌, ◌⊎◌, ◌↔◌, T, leb, ltb, eqb}
use Rattle.std.proofs.Common.{inl, inr, ⊎_elim, arith, T_not, leb→le, ltb→lt, nltb→le, eqb→eq}
use Rattle.std.proofs.Math.Dec.{nleb→lt}
use Rattle.theory_basics.specs.lemmas.Tests.{T_or_iff, T_true, by_cond, eqb_iff, not_T_false, test, neqb_ne}
use Rattle.theory_plan.specs.lemmas.Ascending.{asc_lower}
use Rattle.theory_basics.specs.Lists.{has}
use Rattle.theory_plan.specs.Bases.{kept_bytes, drop_largest, kept_after, largest, all_but, Asc}

-- ---- lists of chunks

pub has_iff : (x : ℕ) (ks : List ℕ) (i : ℕ) → T (has (x ∷ ks) i) ↔ ((x ≡ i) ⊎ T (has ks i))
has_iff x ks i =
    let o = T_or_iff (eqb x i) (has ks i) in (
      λ t. ⊎_elim (λ u. inl (eqb→eq x i u)) (λ u. inr u) (o.0 t),
      λ c. o.1 (⊎_elim (λ e. inl ((eqb_iff x i).1 e)) (λ u. inr u) c),
    )

-- An element of an ascending list is in its range.
pub has_in : (lo hi : ℕ) (ks : List ℕ) (i : ℕ) → Asc lo hi ks → T (has ks i) → (lo ≤ i) × (i ≤ hi)
has_in lo hi [] i a t = absurd t
has_in lo hi (k ∷ ks) i a t =
    ⊎_elim
    (λ e. omega (arith, a.0, a.1))
    (λ u. omega (arith, has_in (suc k) hi ks i a.2 u, a.0))
    ((has_iff k ks i).0 t)

-- ---- "add each"

pub asc_add : (lo hi : ℕ) (ks : List ℕ) → lo ≤ suc hi → Asc lo hi ks → Asc lo (suc hi) (ks ++ (suc hi ∷ []))
asc_add lo hi [] h a = (h, omega arith, tt)
asc_add lo hi (k ∷ ks) h a = (a.0, omega (arith, a.1), asc_add (suc k) hi ks (omega (arith, a.1)) a.2)

pub has_add : (x : ℕ) (ks : List ℕ) (i : ℕ) → T (has (ks ++ (x ∷ [])) i) ↔ (T (has ks i) ⊎ (x ≡ i))
has_add x [] i = let o = has_iff x [] i in (λ t. ⊎_elim (λ e. inr e) (λ u. absurd u) (o.0 t), λ c. o.1 (⊎_elim (λ u. absurd u) (λ e. inl e) c))
has_add x (k ∷ ks) i =
    let o = has_iff k (ks ++ (x ∷ [])) i in
    let p = has_iff k ks i in
    let r = has_add x ks i in (
      λ t. ⊎_elim (λ e. inl (p.1 (inl e))) (λ u. ⊎_elim (λ v. inl (p.1 (inr v))) (λ e. inr e) (r.0 u)) (o.0 t),
      λ c. o.1 (⊎_elim (λ u. ⊎_elim (λ e. inl e) (λ v. inr (r.1 (inl v))) (p.0 u)) (λ e. inr (r.1 (inr e))) c),
    )

pub bytes_add : (s : ℕ → ℕ) (x : ℕ) (ks : List ℕ) → kept_bytes s (ks ++ (x ∷ [])) ≡ kept_bytes s ks + s x
bytes_add s x [] = omega arith
bytes_add s x (k ∷ ks) = omega (arith, bytes_add s x ks)

-- ---- "drop"

pub asc_all_but : (m lo hi : ℕ) (ks : List ℕ) → Asc lo hi ks → Asc lo hi (all_but m ks)
asc_all_but m lo hi [] a = tt
asc_all_but m lo hi (k ∷ ks) a =
    by_cond (Asc lo hi) (eqb k m) (λ t. asc_lower lo (suc k) hi ks (omega (arith, a.0)) a.2) (λ t. (a.0, a.1, asc_all_but m (suc k) hi ks a.2))

pub has_all_but : (m lo hi : ℕ) (ks : List ℕ) (i : ℕ) → Asc lo hi ks → T (has (all_but m ks) i) ↔ (T (has ks i) × (m ≡ i → ⊥))
has_all_but m lo hi [] i a = (λ t. absurd t, λ u. absurd u.0)
has_all_but m lo hi (k ∷ ks) i a =
    let o = has_iff k ks i in
    by_cond
    (λ (l : List ℕ). T (has l i) ↔ (T (has (k ∷ ks) i) × (m ≡ i → ⊥)))
    (eqb k m)
    {x = ks}
    {y = k ∷ all_but m ks}
    (λ t.
    let e = eqb→eq k m t in (
      λ u. (o.1 (inr u), λ q. let b = has_in (suc k) hi ks i a.2 u in omega arith),
      λ u. ⊎_elim (λ q. absurd (u.1 (omega arith))) (λ v. v) (o.0 u.0),
    ))
    (λ t.
    let r = has_all_but m (suc k) hi ks i a.2 in
    let q = has_iff k (all_but m ks) i in
    let n : k ≡ m → ⊥ = neqb_ne k m t in (
      λ u. ⊎_elim (λ e. (o.1 (inl e), λ d. n (omega arith))) (λ v. let w = r.0 v in (o.1 (inr w.0), w.1)) (q.0 u),
      λ u. q.1 (⊎_elim (λ e. inl e) (λ v. inr (r.1 (v, u.1))) (o.0 u.0)),
    ))

pub bytes_all_but : (s : ℕ → ℕ) (m : ℕ) (ks : List ℕ) → T (has ks m) → kept_bytes s (all_but m ks) + s m ≡ kept_bytes s ks
bytes_all_but s m [] t = absurd t
bytes_all_but s m (k ∷ ks) t =
    by_cond
    (λ (l : List ℕ). kept_bytes s l + s m ≡ kept_bytes s (k ∷ ks))
    (eqb k m)
    {x = ks}
    {y = k ∷ all_but m ks}
    (λ u. let e = eqb→eq k m u in rw e (omega arith))
    (λ u. ⊎_elim (λ e. absurd (T_not (eqb k m) u ((eqb_iff k m).1 e))) (λ v. omega (arith, bytes_all_but s m ks v)) ((has_iff k ks m).0 t))

-- ---- "the largest kept one, the earliest among equals"

module _ (s : ℕ → ℕ) where
  pub largest_in : (k : ℕ) (ks : List ℕ) → T (has (k ∷ ks) (largest s k ks))
  largest_in k [] = (has_iff k [] k).1 (inl refl)
  largest_in k (l ∷ ls) =
      by_cond
      (λ (x : ℕ). T (has (k ∷ (l ∷ ls)) (largest s x ls)))
      (ltb (s k) (s l))
      {x = l}
      {y = k}
      (λ t. (has_iff k (l ∷ ls) _).1 (inr (largest_in l ls)))
      (λ t. (has_iff k (l ∷ ls) _).1 (⊎_elim (λ e. inl e) (λ u. inr ((has_iff l ls _).1 (inr u))) ((has_iff k ls _).0 (largest_in k ls))))

  -- The largest, and of the largest the earliest.
  pub record Largest (ks : List ℕ) (m : ℕ) : Type 0 where
    pub in_list : T (has ks m)
    pub top : (i : ℕ) → T (has ks i) → s i ≤ s m
    pub first : (i : ℕ) → T (has ks i) → s i ≡ s m → m ≤ i

  largest_top : (k : ℕ) (ks : List ℕ) (i : ℕ) → T (has (k ∷ ks) i) → s i ≤ s (largest s k ks)
  largest_top k [] i t = ⊎_elim (λ e. rw e (omega arith)) (λ u. absurd u) ((has_iff k [] i).0 t)
  largest_top k (l ∷ ls) i t =
      by_cond
      (λ (x : ℕ). s i ≤ s (largest s x ls))
      (ltb (s k) (s l))
      {x = l}
      {y = k}
      (λ u.
      ⊎_elim
      (λ e. rw (← e) (omega (arith, ltb→lt (s k) (s l) u, largest_top l ls l ((has_iff l ls l).1 (inl refl)))))
      (λ v. largest_top l ls i v)
      ((has_iff k (l ∷ ls) i).0 t))
      (λ u.
      ⊎_elim
      (λ e. rw (← e) (largest_top k ls k ((has_iff k ls k).1 (inl refl))))
      (λ v.
      ⊎_elim
      (λ e. rw (← e) (omega (arith, nltb→le (s k) (s l) u, largest_top k ls k ((has_iff k ls k).1 (inl refl)))))
      (λ w. largest_top k ls i ((has_iff k ls i).1 (inr w)))
      ((has_iff l ls i).0 v))
      ((has_iff k (l ∷ ls) i).0 t))

  largest_first : (lo hi k : ℕ) (ks : List ℕ) (i : ℕ) → Asc lo hi (k ∷ ks) → T (has (k ∷ ks) i) → s i ≡ s (largest s k ks) → largest s k ks ≤ i
  largest_first lo hi k [] i a t = λ e. ⊎_elim (λ d. omega arith) (λ u. absurd u) ((has_iff k [] i).0 t)
  largest_first lo hi k (l ∷ ls) i a t =
      by_cond
      (λ (x : ℕ). s i ≡ s (largest s x ls) → largest s x ls ≤ i)
      (ltb (s k) (s l))
      {x = l}
      {y = k}
      (λ u e.
      ⊎_elim
      (λ d. let e' = rw (← d) at e in absurd (omega (arith, ltb→lt (s k) (s l) u, largest_top l ls l ((has_iff l ls l).1 (inl refl)), e')))
      (λ v. largest_first (suc k) hi l ls i a.2 v e)
      ((has_iff k (l ∷ ls) i).0 t))
      (λ u e.
      let b : Asc lo hi (k ∷ ls) = (a.0, a.1, asc_lower (suc k) (suc l) hi ls (omega (arith, a.2.0)) a.2.2) in
      let at-k = largest_top k ls k ((has_iff k ls k).1 (inl refl)) in
      ⊎_elim
      (λ d. largest_first lo hi k ls i b ((has_iff k ls i).1 (inl d)) e)
      (λ v.
      ⊎_elim
      (λ d.
      let e' = rw (← d) at e in
      omega (arith, d, a.2.0, largest_first lo hi k ls k b ((has_iff k ls k).1 (inl refl)) (omega (arith, at-k, nltb→le (s k) (s l) u))))
      (λ w. largest_first lo hi k ls i b ((has_iff k ls i).1 (inr w)) e)
      ((has_iff l ls i).0 v))
      ((has_iff k (l ∷ ls) i).0 t))

  -- What is dropped of an ascending list that is not empty.
  pub dropped : (lo hi : ℕ) (ks : List ℕ) (x : ℕ) → Asc lo hi ks → T (has ks x) → (m : ℕ) × Largest ks m × (drop_largest s ks ≡ all_but m ks)
  dropped lo hi [] x a t = absurd t
  dropped lo hi (k ∷ ks) x a t =
      (largest s k ks, record { in_list = largest_in k ks; top = largest_top k ks; first = λ i u e. largest_first lo hi k ks i a u e }, refl)

-- ---- all chunks

-- What is kept after n chunks depends on their rooms alone.
pub kept_cong : (s room room' : ℕ → ℕ) (n : ℕ) → ((i : ℕ) → i ≤ n → room i ≡ room' i) → kept_after s room n ≡ kept_after s room' n
kept_cong s room room' zero f = refl
kept_cong s room room' (suc n) f = rw (f (suc n) (omega arith), kept_cong s room room' n (λ i h. f i (omega arith)))

-- ---- one chunk

module _ (s room : ℕ → ℕ) where
  -- With chunk i + 1 added.
  abbrev pub added : ℕ → List ℕ
  added i = kept_after s room i ++ (suc i ∷ [])

  -- All fit and stay, or the largest is dropped.
  pub data Step (i : ℕ) : Type 0 where
    stays : kept_bytes s (added i) ≤ room (suc i) → kept_after s room (suc i) ≡ added i → Step i
    drops :
        room (suc i) < kept_bytes s (added i) → (m : ℕ) → Largest s (added i) m → kept_after s room (suc i) ≡ all_but m (added i) → Step i

  pub added_has : (i k : ℕ) → T (has (added i) k) ↔ (T (has (kept_after s room i) k) ⊎ (suc i ≡ k))
  added_has i k = has_add (suc i) (kept_after s room i) k

  step_of : (i : ℕ) → Asc 1 i (kept_after s room i) → Step i
  step_of i a =
      let b = asc_add 1 i (kept_after s room i) (omega arith) a in
      let d = dropped s 1 (suc i) (added i) (suc i) b ((added_has i (suc i)).1 (inr refl)) in
      ⊎_elim
      (λ t. stays (leb→le _ _ t) (rw (T_true (leb (kept_bytes s (added i)) (room (suc i))) t)))
      (λ t. drops (nleb→lt _ _ t) d.0 d.1 (rw (not_T_false (leb (kept_bytes s (added i)) (room (suc i))) t) d.2))
      (test (leb (kept_bytes s (added i)) (room (suc i))))

  pub kept_asc : (i : ℕ) → Asc 1 i (kept_after s room i)
  kept_asc zero = tt
  kept_asc (suc i) =
      let a = kept_asc i in
      let b = asc_add 1 i (kept_after s room i) (omega arith) a in
      by_step (step_of i a) b
    where
      by_step : Step i → Asc 1 (suc i) (added i) → Asc 1 (suc i) (kept_after s room (suc i))
      by_step (stays h e) b = rw e b
      by_step (drops h m l e) b = rw e (asc_all_but m 1 (suc i) (added i) b)

  pub added_asc : (i : ℕ) → Asc 1 (suc i) (added i)
  added_asc i = asc_add 1 i (kept_after s room i) (omega arith) (kept_asc i)

  pub step : (i : ℕ) → Step i
  step i = step_of i (kept_asc i)

  -- What is kept after chunk i + 1 was kept before, or is that chunk.
  pub kept_added : (i k : ℕ) → T (has (kept_after s room (suc i)) k) → T (has (added i) k)
  kept_added i k t = by_step (step i) where
    by_step : Step i → T (has (added i) k)
    by_step (stays h e) = rw e at t
    by_step (drops h m l e) = ((has_all_but m 1 (suc i) (added i) k (added_asc i)).0 (rw e at t)).0

  -- What is kept at a later place was kept at each earlier one.
  pub kept_earlier : (n i k : ℕ) → k ≤ i → T (has (kept_after s room (n + i)) k) → T (has (kept_after s room i) k)
  kept_earlier zero i k h t = let e : 0 + i ≡ i = omega arith in rw e at t
  kept_earlier (suc n) i k h t =
      let e : suc n + i ≡ suc (n + i) = omega arith in
      kept_earlier n i k h (⊎_elim (λ u. u) (λ d. absurd (omega arith)) ((added_has (n + i) k).0 (kept_added (n + i) k (rw e at t))))

  -- After one drop the kept ones fit again.
  module _ (rises : (i : ℕ) → room i ≤ room (suc i)) where
    pub kept_fits : (i : ℕ) → kept_bytes s (kept_after s room i) ≤ room i
    kept_fits zero = omega arith
    kept_fits (suc i) = by_step (step i) (kept_fits i) where
      by_step : Step i → kept_bytes s (kept_after s room i) ≤ room i → kept_bytes s (kept_after s room (suc i)) ≤ room (suc i)
      by_step (stays h e) before = rw e h
      by_step (drops h m l e) before =
          rw e
          (omega (
            arith,
            bytes_all_but s m (added i) l.in_list,
            bytes_add s (suc i) (kept_after s room i),
            l.top (suc i) ((added_has i (suc i)).1 (inr refl)),
            rises i,
          ))

-- Lemmas. Trials in general, layer by layer, chunks from C down to 1: base k layers of chunk k are
-- carried from the start, and Ok i says of the choice that is tried whether chunk i may have one
-- layer more. The plan has base 0 (Plan); a plan made afresh has the layers fetched before.
use Rattle.std.specs.Prelude.{ℕ, zero, suc, ◌+◌, ◌-◌, ◌≤◌, ◌<◌, min, max, ◌≡◌, refl, Bool, true, false, cond, ◌⊎◌, ◌↔◌, T, ltb, eqb}
use Rattle.std.proofs.Common.{sym, ap, ◌∙◌, subst, inl, inr, ⊎_elim, arith, eq-eqb, ne_eqb, lt-ltb, le-ltb, ltb→lt, nltb→le, eqb→eq}
use Rattle.std.proofs.Math.Dec.{eqb_refl}
use Rattle.theory_basics.specs.lemmas.Tests.{and_T, by_cond, not_T_false, T_and, T_true, test, neqb_ne}
use Rattle.theory_plan.specs.Plan.{raise, settled, sweep, takes, try}

-- Two choices agree at the chunks 1 to c.
abbrev pub SameTo : ℕ → (ℕ → ℕ) → (ℕ → ℕ) → Type 0
SameTo c p q = (k : ℕ) → 1 ≤ k → k ≤ c → p k ≡ q k

-- What is settled when layer n of chunk i is tried, and that layer too.
abbrev pub settled_on : (ℕ → ℕ) → (ℕ → ℕ) → ℕ → ℕ → ℕ → ℕ
settled_on base plan n i k = max (base k) (settled plan n i k)

abbrev pub tried_on : (ℕ → ℕ) → (ℕ → ℕ) → ℕ → ℕ → ℕ → ℕ
tried_on base plan n i k = cond (eqb k i) (suc n) (settled_on base plan n i k)

-- ---- what trials change

-- y is x, or x is n and y one layer more.
abbrev pub SameOrOneMore : ℕ → ℕ → ℕ → Type 0
SameOrOneMore n x y = (y ≡ x) ⊎ ((x ≡ n) × (y ≡ suc n))

module _ (ok : ℕ → (ℕ → ℕ) → Bool) where
  try_other : (n : ℕ) (p : ℕ → ℕ) (i k : ℕ) → (k ≡ i → ⊥) → try ok n p i k ≡ p k
  try_other n p i k o = by_cond (λ (q : ℕ → ℕ). q k ≡ p k) (takes ok n p i) (λ t. rw (ne_eqb k i o)) (λ t. refl)

  try_own : (n : ℕ) (p : ℕ → ℕ) (i : ℕ) → try ok n p i i ≡ cond (takes ok n p i) (suc (p i)) (p i)
  try_own n p i = by_test (takes ok n p i)
    where
      by_test : (b : Bool) → cond b (raise p i) p i ≡ cond b (suc (p i)) (p i)
      by_test true = rw (eq-eqb i i refl)
      by_test false = refl

  try_grown : (n : ℕ) (p : ℕ → ℕ) (i : ℕ) → SameOrOneMore n (p i) (try ok n p i i)
  try_grown n p i =
      rw (try_own n p i)
      (by_cond (SameOrOneMore n (p i)) (takes ok n p i) (λ t. let e = eqb→eq (p i) n (and_T (eqb (p i) n) (ok i (raise p i)) t).0 in inr (e, ap suc e)) (λ t. inl refl))

  sweep_below : (n lo m : ℕ) (p : ℕ → ℕ) (k : ℕ) → k ≤ lo → sweep ok n lo m p k ≡ p k
  sweep_below n lo zero p k h = refl
  sweep_below n lo (suc m) p k h = try_other n (sweep ok n (suc lo) m p) (suc lo) k (λ e. omega arith) ∙ sweep_below n (suc lo) m p k (omega arith)

  pub sweep_grown : (n lo m : ℕ) (p : ℕ → ℕ) (k : ℕ) → SameOrOneMore n (p k) (sweep ok n lo m p k)
  sweep_grown n lo zero p k = inl refl
  sweep_grown n lo (suc m) p k =
      let q = sweep ok n (suc lo) m p in
      ⊎_elim
      (λ t.
      let e : k ≡ suc lo = eqb→eq k (suc lo) t in
      let s : q (suc lo) ≡ p (suc lo) = sweep_below n (suc lo) m p (suc lo) (omega arith) in
      rw e (subst (λ (x : ℕ). SameOrOneMore n x (try ok n q (suc lo) (suc lo))) s (try_grown n q (suc lo))))
      (λ t. rw (try_other n q (suc lo) k (neqb_ne k (suc lo) t)) (sweep_grown n (suc lo) m p k))
      (test (eqb k (suc lo)))

  -- Trials of earlier chunks leave the later ones alone.
  sweep_behind : (n lo a m : ℕ) (p : ℕ → ℕ) (k : ℕ) → a + lo < k → sweep ok n lo (a + m) p k ≡ sweep ok n (a + lo) m p k
  sweep_behind n lo zero m p k h = let e : 0 + m ≡ m = omega arith in let e' : 0 + lo ≡ lo = omega arith in rw (e, e')
  sweep_behind n lo (suc a) m p k h =
      let e : suc a + m ≡ suc (a + m) = omega arith in
      let e' : suc a + lo ≡ a + suc lo = omega arith in
      rw (e, e') (try_other n (sweep ok n (suc lo) (a + m) p) (suc lo) k (λ e. omega arith) ∙ sweep_behind n (suc lo) a m p k (omega arith))

  -- What every choice taken has, and the one at the start, the one after the trials has.
  pub sweep_holds :
      (C : ℕ) (P : (ℕ → ℕ) → Type 0) → ((i : ℕ) (p : ℕ → ℕ) → 1 ≤ i → i ≤ C → T (ok i p) → P p) →
      (n lo m : ℕ) (p : ℕ → ℕ) → m + lo ≤ C → P p → P (sweep ok n lo m p)
  sweep_holds C P taken n lo zero p h f = f
  sweep_holds C P taken n lo (suc m) p h f =
      let q = sweep ok n (suc lo) m p in
      by_cond P (takes ok n q (suc lo)) (λ t. taken (suc lo) (raise q (suc lo)) (omega arith) (omega arith) (and_T (eqb (q (suc lo)) n) (ok (suc lo) (raise q (suc lo))) t).1) (λ t. sweep_holds C P taken n (suc lo) m p (omega arith) f)

  -- ---- the trial of one layer of one chunk

  -- The choice p carries q below layer n, and of layer n what the trials make on q.
  module _
      (C : ℕ) (base : ℕ → ℕ) (Ok : ℕ → (ℕ → ℕ) → Type 0) (says : (i : ℕ) (p : ℕ → ℕ) → T (ok i p) ↔ Ok i p)
      (cong : (i : ℕ) (p q : ℕ → ℕ) → SameTo C p q → Ok i p → Ok i q) (p q : ℕ → ℕ) (n : ℕ)
      (below : (k : ℕ) → max (base k) (min (p k) n) ≡ q k) (upto : (k : ℕ) → max (base k) (min (p k) (suc n)) ≡ sweep ok n 0 C q k)
      (i : ℕ) (lo : 1 ≤ i) (hi : i ≤ C) (low : base i ≤ p i) where
    -- What the trials before that of chunk i have made.
    abbrev state : ℕ → ℕ
    state = sweep ok n i (C - i) q

    state_is_settled : (k : ℕ) → state k ≡ settled_on base p n i k
    state_is_settled k =
        ⊎_elim
        (λ t.
        let e : i + (C - i) ≡ C = omega arith in
        let e' : i + 0 ≡ i = omega arith in
        let b : sweep ok n 0 C q k ≡ state k = rw (e, e') at (sweep_behind n 0 i (C - i) q k (omega (arith, ltb→lt i k t))) in
        rw (lt-ltb i k (ltb→lt i k t)) (sym b ∙ sym (upto k)))
        (λ t. rw (le-ltb i k (nltb→le i k t)) (sweep_below n i (C - i) q k (nltb→le i k t) ∙ sym (below k)))
        (test (ltb i k))

    sweep_is_trial : sweep ok n 0 C q i ≡ try ok n state i i
    sweep_is_trial =
        let e : (i - 1) + suc (C - i) ≡ C = omega arith in
        let e' : (i - 1) + 0 ≡ (i - 1) = omega arith in
        let e'' : suc (i - 1) ≡ i = omega arith in
        rw e'' at (rw (e, e') at (sweep_behind n 0 (i - 1) (suc (C - i)) q i (omega arith)))

    state_at_own : state i ≡ max (base i) (min (p i) n)
    state_at_own = rw (le-ltb i i (omega arith)) at (state_is_settled i)

    raise_is_tried : state i ≡ n → (k : ℕ) → raise state i k ≡ tried_on base p n i k
    raise_is_tried e k =
        ⊎_elim
        (λ t. let q = eqb→eq k i t in rw (q, eq-eqb i i refl) (ap suc e))
        (λ t. rw (not_T_false (eqb k i) t) (state_is_settled k))
        (test (eqb k i))

    trial_takes : state i ≡ n → Ok i (raise state i) → n < try ok n state i i
    trial_takes e o =
        let t : T (takes ok n state i) = T_and (eqb (state i) n) (ok i (raise state i)) (rw e (eqb_refl n)) ((says i (raise state i)).1 o) in
        rw (try_own n state i, T_true (takes ok n state i) t) (omega arith)

    trial_taken : n < try ok n state i i → (n < state i) ⊎ ((state i ≡ n) × Ok i (raise state i))
    trial_taken l =
        ⊎_elim
        (λ t.
        let u = and_T (eqb (state i) n) (ok i (raise state i)) t in
        inr (eqb→eq (state i) n u.0, (says i (raise state i)).0 u.1))
        (λ t. inl (rw (try_own n state i, not_T_false (takes ok n state i) t) at l))
        (test (takes ok n state i))

    -- It carries the layer exactly if it did from the start, or the layers below are carried and
    -- the choice that is tried passes.
    pub taken_iff : (n < p i) ↔ ((n < base i) ⊎ ((n ≤ p i) × Ok i (tried_on base p n i)))
    taken_iff =
        let m = upto i in (
          λ l.
              ⊎_elim
              (λ u. inl (omega (arith, state_at_own)))
              (λ u. inr (
                omega arith,
                cong i (raise state i) (tried_on base p n i) (λ k x y. raise_is_tried u.0 k) u.1,
              ))
              (trial_taken (omega (arith, sweep_is_trial, m))),
          ⊎_elim
              (λ u. omega arith)
              (λ u.
              ⊎_elim
              (λ t. omega (arith, ltb→lt n (base i) t))
              (λ t.
              let b = nltb→le n (base i) t in
              let s : state i ≡ n = omega (arith, state_at_own, u.0) in
              let r = trial_takes s (cong i (tried_on base p n i) (raise state i) (λ k x y. sym (raise_is_tried s k)) u.1) in
              omega (arith, sweep_is_trial, r, m))
              (test (ltb n (base i)))),
        )

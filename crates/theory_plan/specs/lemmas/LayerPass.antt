-- Lemmas. A layer above the base in linear time, in general: the passes `rooms` and `back` of
-- Trials take layer n of a chunk exactly where the choice q does. The list is that of the chunks
-- that pass `member`; rest k m is what layer m of chunk k costs, base k layers of it are carried
-- from the start and cost nothing, and Ok i says that the choice tried with chunk i may be. Section
-- 4 of the argument.
use Prim.Native.Nat.{ℕ, zero, suc, ◌+◌, ◌-◌, ◌≤◌, ◌<◌, max, min}
use Rattle.std.specs.Prelude.{◌≡◌, Bool, ◌&&◌, ◌↔◌, T, leb, ltb, eqb}
use Rattle.std.proofs.Math.Path.{refl, ap}
use Rattle.std.proofs.Common.{sym, ◌∙◌, subst, arith, eq-eqb, ne_eqb, le-leb, lt-ltb, le-ltb, pow_mono, ltb→lt, nltb→le, lt→ltb, le→leb, eqb→eq}
use Rattle.std.proofs.Math.Bool.{true, false}
use mathlib.Core.List.{List, [], ◌∷◌, map}
use Rattle.std.proofs.Math.Logic.{⊎_elim}
use Rattle.std.proofs.Math.Dec.{eqb_refl}
use Rattle.theory_basics.specs.Sums.{sum}
use Rattle.theory_basics.specs.lemmas.Ranges.{sum_mono}
use Rattle.theory_basics.specs.lemmas.Tests.{T_and, T_true, not_T_false, same_test, test, tests}
use Rattle.fetch.specs.Marks.{bit, with_layer}
use Rattle.fetch.specs.lemmas.Marks.{mark_lt, same_bits, with_bit, with_lt}
use Rattle.theory_plan.specs.Plan.{picked}
use Rattle.theory_plan.specs.lemmas.Feasible.{need_of}
use Rattle.theory_plan.specs.lemmas.Kept.{picked_each}
use Rattle.theory_plan.specs.lemmas.Linear.{Roomy, front, level_bit, level_next, level_top, relok_mono}
use Rattle.theory_plan.specs.lemmas.Need.{need_mono}
use Rattle.theory_plan.specs.lemmas.Sweep.{tried_on}
use Rattle.theory_plan.specs.lemmas.Trials.{Kept, Tried, back, level_mark, rooms, try_one}

-- A layer that is set stays set.
level_set : (m n : ℕ) → n < m → m ≤ 8 → with_layer (level_mark m) n ≡ level_mark m
level_set m n h few =
    same_bits (with_layer (level_mark m) n) (level_mark m) 8 (with_lt (level_mark m) n) (omega (arith, mark_lt (λ i. true) m, pow_mono {i = m} {j = 8} few)) (λ k u.
    with_bit (level_mark m) n k u ∙
    ⊎_elim
    (λ t. let e = eqb→eq k n t in rw (e, eq-eqb n n refl) (sym (level_bit m n ∙ lt-ltb n m h)))
    (λ t. rw (not_T_false (eqb k n) t))
    (test (eqb k n)))

module _
    (C : ℕ) (d A : ℕ → ℕ) (rest : ℕ → ℕ → ℕ) (base q : ℕ → ℕ) (n : ℕ) (up : 1 ≤ n) (few : n < 8) (member : ℕ → Bool)
    (own : (i : ℕ) → 1 ≤ i → i ≤ C → base i ≤ q i) (whole : (i : ℕ) → 1 ≤ i → i ≤ C → n < base i → (rest i n ≡ 0) × (base i ≤ 8))
    (Ok : ℕ → Type 0) (accepts : (i : ℕ) → 1 ≤ i → i ≤ C → T (member i) → base i ≤ n → (n < q i) ↔ ((n ≤ q i) × Ok i)) where
  -- What a chunk costs in a choice.
  abbrev left : (ℕ → ℕ) → ℕ → ℕ
  left lv k = sum (rest k) (lv k)

  -- What is carried of the layers below n, and of the layers up to n.
  abbrev lower : ℕ → ℕ
  lower k = max (base k) (min (q k) n)

  abbrev upper : ℕ → ℕ
  upper k = max (base k) (min (q k) (suc n))

  abbrev upto : ℕ → ℕ
  upto k = left upper k

  abbrev trial : ℕ → ℕ → ℕ
  trial i = left (tried_on base q n i)

  -- A chunk of the list: its due slot, its bytes, its mark.
  abbrev kept_rest : (ℕ → ℕ) → ℕ → Kept
  kept_rest lv k = record { chunk = k; due = d k; bytes = left lv k; mark = level_mark (lv k) }

  abbrev result : List ℕ → Tried
  result ks = record { need = need_of upto d A ks; kept = map (kept_rest upper) ks }

  abbrev run : ℕ → List ℕ → List ℕ → Tried
  run room ks rs = back rest A n (rooms A room (map (left lower) ks) rs) (map (kept_rest lower) ks)

  abbrev InRoom : (ℕ → ℕ) → ℕ → List ℕ → List ℕ → Type 0
  InRoom w room ks rs = Roomy w d A room ks rs

  -- What is known of the room before the chunks ks, which stand behind lo.
  pub record Ready (room lo : ℕ) (ks rs : List ℕ) : Type 0 where
    pub trials : (i : ℕ) → lo < i → i ≤ C → T (member i) → n ≤ q i → base i ≤ n → Ok i ↔ InRoom (trial i) room ks rs
    pub plan_in_lem : InRoom upto room ks rs

  below : (k : ℕ) → left lower k ≤ upto k
  below k = sum_mono (rest k) (lower k) (upper k) (omega arith)

  behind : (i k : ℕ) → i < k → trial i k ≡ upto k
  behind i k h = rw (ne_eqb k i (omega arith), lt-ltb i k h)

  before : (i k : ℕ) → k < i → trial i k ≡ left lower k
  before i k h = rw (ne_eqb k i (omega arith), le-ltb i k (omega arith))

  at_own : (i : ℕ) → lower i ≡ n → trial i i ≡ left lower i + rest i n
  at_own i e = rw (eq-eqb i i refl, e)

  module _ (room lo m r : ℕ) (rs : List ℕ) (all : lo + suc m ≡ C) (mem : T (member (suc lo))) (known : Ready room lo (suc lo ∷ picked member (suc lo) m) (r ∷ rs)) where
    abbrev i : ℕ
    i = suc lo

    abbrev here : ℕ
    here = min room (A (r - 1))

    abbrev ks : List ℕ
    ks = picked member i m

    abbrev want : ℕ
    want = left lower i + max (A (d i)) (need_of upto d A ks)

    own_base : base i ≤ q i
    own_base = own i (omega arith) (omega arith)

    ready_front : Ready (here - left lower i) i ks rs
    ready_front =
        let b = below i in
        let f = known.plan_in_lem in
        record {
          trials = λ e u v me w x₀.
              let t = trial e in
              let o : t i ≡ left lower i = before e i u in
              let g = front t d A room i r ks rs (omega (arith, f.within, f.released.0, o, b)) in
              let a = known.trials e (omega arith) v me w x₀ in
              let s : here - t i ≡ here - left lower i = ap (λ (y : ℕ). here - y) o in
              (λ x. subst (λ (y : ℕ). InRoom t y ks rs) s (g.0 (a.0 x)), λ x. a.1 (g.1 (subst (λ (y : ℕ). InRoom t y ks rs) (sym s) x)));
          plan_in_lem = record { within = omega (arith, f.within, f.released.0, b); released = f.released.1 };
        }

    module _ (lacks : base i ≤ n) where
      abbrev test_here : Bool
      test_here = eqb (lower i) n && leb (want + rest i n) here

      accepts_if : T test_here → T (ltb n (q i))
      accepts_if x =
          let t = trial i in
          let a = accepts i (omega arith) (omega arith) mem lacks in
          let le = picked_each member (λ k. t k ≤ upto k) i m (λ k u v w. omega (arith, behind i k u)) in
          let nle = need_mono t upto d A ks le in
          let y = simp tests at x in
          let o = at_own i y.0 in
          let reached : n ≤ q i = omega (arith, y.0, lacks, own_base) in
          lt→ltb n (q i) (a.1 (reached, (known.trials i (omega arith) (omega arith) mem reached lacks).1 (record { within = omega (arith, y.1, o, nle); released = (omega (arith, y.1, o, nle), relok_mono t upto d A ks rs le known.plan_in_lem.released.1) })))

      only_if : T (ltb n (q i)) → T test_here
      only_if x =
          let t = trial i in
          let a = accepts i (omega arith) (omega arith) mem lacks in
          let ge = picked_each member (λ k. upto k ≤ t k) i m (λ k u v w. omega (arith, behind i k u)) in
          let nge = need_mono upto t d A ks ge in
          let more = ltb→lt n (q i) x in
          let z : lower i ≡ n = omega (arith, lacks) in
          let o = at_own i z in
          let u = a.0 (ltb→lt n (q i) x) in
          let f = (known.trials i (omega arith) (omega arith) mem u.0 lacks).0 u.1 in
          T_and (eqb (lower i) n) (leb (want + rest i n) here) (rw z (eqb_refl n)) (le→leb (want + rest i n) here (omega (arith, f.within, f.released.0, o, nge)))

      -- The trial of i, after those behind it.
      open_trial : try_one rest A n here (kept_rest lower i) (result ks) ≡ result (i ∷ ks)
      open_trial =
          let small : lower i ≤ n = omega (arith, lacks) in
          let b = same_test test_here (ltb n (q i)) accepts_if only_if in
          let c : bit (level_mark (lower i)) (n - 1) ≡ eqb (lower i) n = level_bit (lower i) (n - 1) ∙ level_top (lower i) n up small in
          rw (c, b)
          (⊎_elim
          (λ t.
          let l = ltb→lt n (q i) t in
          let e : upper i ≡ suc n = omega (arith, lacks) in
          let e' : lower i ≡ n = omega (arith, lacks) in
          let s : want + rest i n ≡ upto i + max (A (d i)) (need_of upto d A ks) = rw (e, e') (omega arith) in
          let k : record { chunk = i; due = d i; bytes = left lower i + rest i n; mark = with_layer (level_mark (lower i)) n } ≡ kept_rest upper i = rw (e, e', level_next n few) in
          rw (lt-ltb n (q i) l, s, k))
          (λ t.
          let l = nltb→le n (q i) t in
          let e : upper i ≡ lower i = omega arith in
          let s : want ≡ upto i + max (A (d i)) (need_of upto d A ks) = rw e in
          let k : kept_rest lower i ≡ kept_rest upper i = ap (λ (m : ℕ). kept_rest (λ k. m) i) (sym e) in
          rw (le-ltb n (q i) l, s, k))
          (test (ltb n (q i))))

    -- A layer that is carried from the start stays.
    whole_trial : n < base i → try_one rest A n here (kept_rest lower i) (result ks) ≡ result (i ∷ ks)
    whole_trial h =
        let w = whole i (omega arith) (omega arith) h in
        let z = w.0 in
        let e : lower i ≡ base i = omega arith in
        let e' : upper i ≡ base i = omega arith in
        let f = known.plan_in_lem in
        let same : left lower i ≡ upto i = ap (sum (rest i)) (e ∙ sym e') in
        let c : bit (level_mark (lower i)) (n - 1) ≡ true = level_bit (lower i) (n - 1) ∙ lt-ltb (n - 1) (lower i) (omega (arith, e)) in
        let fits : leb (want + rest i n) here ≡ true = le-leb (want + rest i n) here (omega (arith, z, same, f.within, f.released.0)) in
        let s : want + rest i n ≡ upto i + max (A (d i)) (need_of upto d A ks) = omega (arith, z, same) in
        let b : left lower i + rest i n ≡ left upper i = omega (arith, z, same) in
        let mk : with_layer (level_mark (lower i)) n ≡ level_mark (upper i) = rw (e, e') (level_set (base i) n h w.1) in
        rw (c, fits, s, b, mk)

    one_trial : try_one rest A n here (kept_rest lower i) (result ks) ≡ result (i ∷ ks)
    one_trial = ⊎_elim (λ t. whole_trial (ltb→lt n (base i) t)) (λ t. open_trial (nltb→le n (base i) t)) (test (ltb n (base i)))

    stepped : run (here - left lower i) ks rs ≡ result ks → run room (i ∷ ks) (r ∷ rs) ≡ result (i ∷ ks)
    unfolding back
    stepped e = ap (try_one rest A n here (kept_rest lower i)) e ∙ one_trial

  front_scan :
      (m lo room : ℕ) (rs : List ℕ) → lo + suc m ≡ C → T (member (suc lo)) →
      ((room : ℕ) (rs : List ℕ) → Ready room (suc lo) (picked member (suc lo) m) rs → run room (picked member (suc lo) m) rs ≡ result (picked member (suc lo) m)) →
      Ready room lo (suc lo ∷ picked member (suc lo) m) rs → run room (suc lo ∷ picked member (suc lo) m) rs ≡ result (suc lo ∷ picked member (suc lo) m)
  front_scan m lo room [] h mem next b = absurd b.plan_in_lem.released
  front_scan m lo room (r ∷ rs) h mem next b = stepped room lo m r rs h mem b (next (min room (A (r - 1)) - left lower (suc lo)) rs (ready_front room lo m r rs h mem b))

  -- The pass takes the layer where the choice does.
  pub scan : (m lo room : ℕ) (rs : List ℕ) → lo + m ≡ C → Ready room lo (picked member lo m) rs → run room (picked member lo m) rs ≡ result (picked member lo m)
  unfolding back
  scan zero lo room rs h a = refl
  scan (suc m) lo room rs h a =
      let next : (room : ℕ) (rs : List ℕ) → Ready room (suc lo) (picked member (suc lo) m) rs → run room (picked member (suc lo) m) rs ≡ result (picked member (suc lo) m) = λ room rs b. scan m (suc lo) room rs (omega arith) b in
      ⊎_elim
      (λ t.
      let e : member (suc lo) ≡ true = T_true (member (suc lo)) t in
      rw e (front_scan m lo room rs h t next (rw e at a)))
      (λ t.
      let e : member (suc lo) ≡ false = not_T_false (member (suc lo)) t in
      let a' : Ready room lo (picked member (suc lo) m) rs = rw e at a in
      rw e (next room rs (record { trials = λ i u v w. a'.trials i (omega arith) v w; plan_in_lem = a'.plan_in_lem })))
      (test (member (suc lo)))

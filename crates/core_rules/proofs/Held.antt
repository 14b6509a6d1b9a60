-- Lemmas. Rule 6 by two tables, the chunks that begin and that cease to be held in each slot.
-- Assumes nothing.
use Prim.Native.Nat.{ℕ, zero, suc, ◌+◌, ◌-◌, ◌/◌, ◌≤◌, ◌<◌}
use mathlib.Core.Path.{◌≡◌, refl, sym, ap, ◌∙◌}
use mathlib.Core.Bool.{Bool, true, false, cond, ◌&&◌}
use mathlib.Core.List.{List}
use native.Mathlib.Omega.{arith}
use native.Mathlib.Numerals.{add-one}
use lib.ListN.{length, get_or, set, replicate, get_or-replicate}
use lib.Seq.{get_or-set_same, get_or-set_other}
use lib.Dec.{ltb, leb, eqb}
use borrow.Author.Tests.{le-leb, lt-leb, lt-ltb, le-ltb, ne_eqb, eqb-true, eqb-false, ltb-true, ltb-false, leb-true, leb-false}
use Rattle.theory_basics.specs.Tests.{all_to}
use Rattle.theory_basics.specs.Sums.{count}
use Rattle.job.specs.declared.Programme.{Programme}
use Rattle.job.specs.Job.{due_slot}
use Rattle.core_rules.specs.lemmas.Tables.{held_by, starts_at, ends_at, MarkTimesPost}
use Rattle.theory_basics.specs.lemmas.Ranges.{count_more, count_none, count_small, counts_add}
use Rattle.theory_basics.specs.lemmas.Tests.{all_to_cong, all_to_holds, all_to_not}

abbrev bit : Bool → ℕ
bit b = cond b 1 0

-- ---- a chunk begun in slot f and due in d, from the end of slot t to that of the next

module _ (f d t : ℕ) where
  abbrev Step : Type 0
  Step = bit (leb f (t + 1) && ltb (t + 1) d) + bit (ltb f d && eqb d (t + 1)) ≡ bit (leb f t && ltb t d) + bit (ltb f d && eqb f (t + 1))

  -- due later than the next slot
  later : f < d → t + 1 < d → (x : Bool) → leb f t ≡ x → (y : Bool) → eqb f (t + 1) ≡ y → Step
  later h k true e y g =
      let u = leb-true f t e in
      rw (le-leb f (t + 1) (omega arith), lt-ltb (t + 1) d k, lt-ltb f d h, ne_eqb d (t + 1) (λ q. omega arith), e, lt-ltb t d (omega arith), ne_eqb f (t + 1) (λ q. omega arith))
  later h k false e true g =
      let u = eqb-true f (t + 1) g in
      rw (le-leb f (t + 1) (omega arith), lt-ltb (t + 1) d k, lt-ltb f d h, ne_eqb d (t + 1) (λ q. omega arith), e, g)
  later h k false e false g =
      let u = leb-false f t e in
      let v = eqb-false f (t + 1) g in
      rw (lt-leb f (t + 1) (omega arith), lt-ltb f d h, ne_eqb d (t + 1) (λ q. omega arith), e, g)

  -- due in it or earlier
  earlier : f < d → d ≤ t + 1 → (x : Bool) → eqb d (t + 1) ≡ x → Step
  earlier h k true e =
      let u = eqb-true d (t + 1) e in
      rw (le-leb f (t + 1) (omega arith), le-ltb (t + 1) d k, lt-ltb f d h, e, le-leb f t (omega arith), lt-ltb t d (omega arith), ne_eqb f (t + 1) (λ q. omega arith))
  earlier h k false e =
      let u = eqb-false d (t + 1) e in
      rw (le-leb f (t + 1) (omega arith), le-ltb (t + 1) d k, lt-ltb f d h, e, le-leb f t (omega arith), le-ltb t d (omega arith), ne_eqb f (t + 1) (λ q. omega arith))

  never : (n : ℕ) → d ≤ f → (x : Bool) → leb f n ≡ x → bit (leb f n && ltb n d) ≡ 0
  never n h true e = let u = leb-true f n e in rw (e, le-ltb n d (omega arith))
  never n h false e = rw e

  one_step : Step
  one_step = go (ltb f d) refl (ltb (t + 1) d) refl where
    go : (x : Bool) → ltb f d ≡ x → (y : Bool) → ltb (t + 1) d ≡ y → bit (leb f (t + 1) && ltb (t + 1) d) + bit (ltb f d && eqb d (t + 1)) ≡ bit (leb f t && ltb t d) + bit (ltb f d && eqb f (t + 1))
    go true e true g = later (ltb-true f d e) (ltb-true (t + 1) d g) (leb f t) refl (eqb f (t + 1)) refl
    go true e false g = earlier (ltb-true f d e) (ltb-false (t + 1) d g) (eqb d (t + 1)) refl
    go false e y g =
        let h = ltb-false f d e in
        rw (never (t + 1) h (leb f (t + 1)) refl, never t h (leb f t) refl, e)

-- ---- the tables of begins and ends

-- The chunks held at the end of slot t, by the two tables.
abbrev pub held_at : List ℕ → List ℕ → ℕ → ℕ
held_at begins ends zero = 0
held_at begins ends (suc t) = held_at begins ends t + get_or begins (suc t) 0 - get_or ends (suc t) 0

held_more : (begins ends : List ℕ) (t : ℕ) → held_at begins ends (t + 1) ≡ held_at begins ends t + get_or begins (t + 1) 0 - get_or ends (t + 1) 0
held_more begins ends t = rw add-one

module _ (p : Programme) (first : List ℕ) where
  pub marked_none : MarkTimesPost p first 0 (replicate 3601 0) (replicate 3601 0)
  marked_none = record {
    begin_at = λ t h. get_or-replicate {A = ℕ} 3601 t 0 0 (omega arith);
    end_at = λ t h. get_or-replicate {A = ℕ} 3601 t 0 0 (omega arith);
  }

  module _ (begins ends : List ℕ) (i : ℕ) (m : MarkTimesPost p first i begins ends) where
    abbrev f : ℕ
    f = get_or first (i + 1) 0

    abbrev d : ℕ
    d = due_slot p (i + 1)

    pub marked_pass : d ≤ f → MarkTimesPost p first (i + 1) begins ends
    marked_pass h =
        let e = le-ltb f d h in
        record {
          begin_at = λ t w. m.begin_at t w ∙ sym (count_more i (starts_at p first t) ∙ rw e (omega arith));
          end_at = λ t w. m.end_at t w ∙ sym (count_more i (ends_at p first t) ∙ rw e (omega arith));
        }

    bump : (l : List ℕ) (v t c : ℕ) → v ≤ 3600 → t ≤ 3600 → length l ≡ 3601 → get_or l t 0 ≡ c → (e : Bool) → eqb v t ≡ e → get_or (set l v (get_or l v 0 + 1)) t 0 ≡ c + bit e
    bump l v t c a b n q true e =
        let z : v ≡ t = eqb-true _ _ e in
        rw (z, get_or-set_same l t (get_or l t 0 + 1) 0 (omega arith)) (omega arith)
    bump l v t c a b n q false e = rw (get_or-set_other l v t (get_or l v 0 + 1) 0 (λ z. eqb-false _ _ e (sym z))) (omega arith)

    pub marked_more : f < d → d ≤ 3600 → length begins ≡ 3601 → length ends ≡ 3601 → MarkTimesPost p first (i + 1) (set begins f (get_or begins f 0 + 1)) (set ends d (get_or ends d 0 + 1))
    marked_more h k n q =
        let e = lt-ltb f d h in
        record {
          begin_at = λ t w. bump begins f t (count (starts_at p first t) i) (omega arith) w n (m.begin_at t w) (eqb f t) refl ∙ sym (count_more i (starts_at p first t) ∙ rw e);
          end_at = λ t w. bump ends d t (count (ends_at p first t) i) k w q (m.end_at t w) (eqb d t) refl ∙ sym (count_more i (ends_at p first t) ∙ rw e);
        }

    pub marked_small : (t : ℕ) → t ≤ 3600 → (get_or begins t 0 ≤ i) × (get_or ends t 0 ≤ i)
    marked_small t h = (omega (arith, m.begin_at t h, count_small i (starts_at p first t)), omega (arith, m.end_at t h, count_small i (ends_at p first t)))

-- ---- the sweep

-- What the sums of slot t + 1 need: no more than 500 begin or are held, and no more cease than are
-- held.
pub record Fine (begins ends : List ℕ) (t : ℕ) : Type 0 where
  pub held_few : held_at begins ends t ≤ 500
  pub begin_few : get_or begins (t + 1) 0 ≤ 500
  pub end_held : get_or ends (t + 1) 0 ≤ held_at begins ends t + get_or begins (t + 1) 0

pub record Sweeping (last most : ℕ) (begins ends : List ℕ) (held t : ℕ) : Type 0 where
  pub now_held : held ≡ held_at begins ends t
  pub kept : all_to t (λ u. leb (held_at begins ends u) most) ≡ true
  pub short : last ≤ 3600
  pub fine : (u : ℕ) → u < 3600 → Fine begins ends u

module _ (last most : ℕ) (begins ends : List ℕ) (held t : ℕ) (s : Sweeping last most begins ends held t) (h : t < last) where
  abbrev next : ℕ
  next = held + get_or begins (t + 1) 0 - get_or ends (t + 1) 0

  pub sweeping_fine : Fine begins ends t
  sweeping_fine = s.fine t (omega (arith, s.short))

  next_is : held_at begins ends (t + 1) ≡ next
  next_is = held_more begins ends t ∙ rw (sym s.now_held)

  pub sweeping_more : next ≤ most → Sweeping last most begins ends next (t + 1)
  sweeping_more k = record {
    now_held = sym next_is;
    kept = all_to_holds t (λ u. leb (held_at begins ends u) most) s.kept (le-leb (held_at begins ends (t + 1)) most (omega (arith, next_is)));
    short = s.short;
    fine = s.fine;
  }

  pub sweeping_stop : most < next → all_to last (λ u. leb (held_at begins ends u) most) ≡ false
  sweeping_stop k = all_to_not t last (λ u. leb (held_at begins ends u) most) h (lt-leb (held_at begins ends (t + 1)) most (omega (arith, next_is)))

module _ (p : Programme) (first begins ends : List ℕ) (few : p.chunks ≤ 500) (some : (i : ℕ) → 1 ≤ i → i ≤ 500 → 1 ≤ get_or first i 0) (m : MarkTimesPost p first p.chunks begins ends) where
  held_none : held_by p first 0 ≡ 0
  held_none = count_none (λ i. leb (get_or first i 0) 0 && ltb 0 (due_slot p i)) p.chunks (λ k u v. rw (lt-leb (get_or first k 0) 0 (some k u (omega arith))) tt)

  held_step : (t : ℕ) → t < 3600 → held_by p first (t + 1) + get_or ends (t + 1) 0 ≡ held_by p first t + get_or begins (t + 1) 0
  held_step t h =
      omega (
        arith,
        m.begin_at (t + 1) (omega arith),
        m.end_at (t + 1) (omega arith),
        counts_add p.chunks (λ i. leb (get_or first i 0) (t + 1) && ltb (t + 1) (due_slot p i)) (ends_at p first (t + 1)) (λ i. leb (get_or first i 0) t && ltb t (due_slot p i)) (starts_at p first (t + 1))
            (λ k. one_step (get_or first k 0) (due_slot p k) t),
      )

  -- The two tables give the chunks held.
  held_run : (t : ℕ) → t ≤ 3600 → held_at begins ends t ≡ held_by p first t
  held_run zero h = sym held_none
  held_run (suc t) h = omega (arith, held_run t (omega arith), rw (add-one t) at (held_step t (omega arith)))

  held_fine : (t : ℕ) → t < 3600 → Fine begins ends t
  held_fine t h = record {
    held_few = omega (arith, held_run t (omega arith), count_small p.chunks (λ i. leb (get_or first i 0) t && ltb t (due_slot p i)));
    begin_few = omega (arith, m.begin_at (t + 1) (omega arith), count_small p.chunks (starts_at p first (t + 1)));
    end_held = omega (arith, held_run t (omega arith), held_step t h);
  }

  pub sweeping_start : (last most : ℕ) → last ≤ 3600 → Sweeping last most begins ends 0 0
  sweeping_start last most h = record { now_held = refl; kept = refl; short = h; fine = held_fine }

  -- The sweep by the tables is rule 6 by first slots.
  pub sweep_is : (last most : ℕ) → last ≤ 3600 → most ≡ p.limit / p.span
      → all_to last (λ t. leb (held_at begins ends t) most) ≡ all_to last (λ t. leb (held_by p first t) (p.limit / p.span))
  sweep_is last most h e = rw (sym e) (all_to_cong last (λ t. leb (held_at begins ends t) most) (λ t. leb (held_by p first t) most) (λ t a b. ap (λ (n : ℕ). leb n most) (held_run t (omega arith))))

-- Laws on the pass over the bases: the kept chunks at the end of the tables, with the stack of
-- needs. Assumes nothing.
use mathlib.Core.Path.{◌≡◌, sym, ◌∙◌, ap}
use mathlib.Core.Bool.{Bool, true, false, cond, ◌&&◌}
use mathlib.Core.List.{List, [], ◌∷◌, map}
use Prim.Native.Nat.{ℕ, suc, ◌+◌, ◌-◌, ◌/◌, ◌≤◌, ◌<◌, max}
use native.Mathlib.Omega.{arith}
use lib.ListN.{length, get_or, set, drop, length-set, drop_of_length-le}
use lib.Seq.{drop-set-lt, get_or-drop}
use lib.Dec.{leb}
use borrow.Author.Tests.{le-leb, lt-leb}
use Rattle.job.specs.declared.Programme.{Programme}
use Rattle.job.specs.Job.{due_slot}
use Rattle.theory_plan.specs.lemmas.Ascending.{asc_lower}
use Rattle.theory_plan.specs.lemmas.Trials.{Stack, candidate, keeps, push, bases}
use Rattle.theory_plan.specs.lemmas.Parts.{at}
use Rattle.core_decide.specs.lemmas.Decision.{KeepBasesPre, stack_in}
use Rattle.core_moore_hodgson.specs.lemmas.Tables.{KeptIn}
use Rattle.theory_basics.specs.lemmas.Tables.{set_before}
use Rattle.theory_plan.specs.Bases.{Asc}

-- The chunk i is due by the last slot.
module _ (p : Programme) (size : ℕ → ℕ → ℕ) (after : List ℕ) where
  abbrev base : ℕ → ℕ
  base k = size k 0

  abbrev held : ℕ
  held = p.limit / p.span

  -- What is kept of the chunks behind i.
  abbrev behind : ℕ → Stack
  behind i = bases base (due_slot p) (at after) held i (p.chunks - i)

  pub record Basing (ids dues bytes needs : List ℕ) (last first i : ℕ) : Type 0 where
    pub chunks : drop first ids ≡ (behind i).chunks
    pub stack : drop first needs ≡ (behind i).needs
    pub top : last ≡ get_or (behind i).needs 0 0
    pub due_slots : drop first dues ≡ map (due_slot p) (drop first ids)
    pub base_bytes : drop first bytes ≡ map base (drop first ids)
    pub ascending : Asc (suc i) p.chunks (drop first ids)
    pub small : last ≤ at after 0
    pub room : i + 500 ≤ first + p.chunks
    pub within : first ≤ 500
    pub left : i ≤ p.chunks
    pub long : (length ids ≡ 500) × (length dues ≡ 500) × (length bytes ≡ 500) × (length needs ≡ 500)

  pub basing_start : (ids dues bytes needs : List ℕ) → KeepBasesPre p size after ids dues bytes needs → Basing ids dues bytes needs 0 500 p.chunks
  basing_start ids dues bytes needs o =
      let z : p.chunks - p.chunks ≡ 0 = omega arith in
      let e : drop 500 ids ≡ [] = drop_of_length-le ids {i = 500} (omega (arith, o.long.1)) in
      let f : drop 500 dues ≡ [] = drop_of_length-le dues {i = 500} (omega (arith, o.long.2)) in
      let g : drop 500 bytes ≡ [] = drop_of_length-le bytes {i = 500} (omega (arith, o.long.3)) in
      let h : drop 500 needs ≡ [] = drop_of_length-le needs {i = 500} (omega (arith, o.long.4)) in
      record {
        chunks = rw (z, e);
        stack = rw (z, h);
        top = rw z;
        due_slots = rw (e, f);
        base_bytes = rw (e, g);
        ascending = rw e tt;
        small = omega arith;
        room = omega arith;
        within = omega arith;
        left = omega arith;
        long = (o.long.1, o.long.2, o.long.3, o.long.4);
      }

  module _ (ids dues bytes needs : List ℕ) (last first i : ℕ) (b : Basing ids dues bytes needs last first i) (some : 0 < i) (few : p.chunks ≤ 500) where
    abbrev cand : ℕ
    cand = base i + max (at after (due_slot p i)) last

    some_place : 0 < first
    some_place = omega (arith, b.room)

    -- One chunk more is tried.
    step : behind (i - 1) ≡ push base (due_slot p) (at after) held (behind i) i
    step =
        let e : p.chunks - (i - 1) ≡ suc (p.chunks - i) = omega (arith, b.left) in
        let e' : suc (i - 1) ≡ i = omega arith in
        rw (e, e')

    cand_is : candidate base (due_slot p) (at after) (behind i).needs i ≡ cand
    cand_is = ap (λ (n : ℕ). base i + max (at after (due_slot p i)) n) (sym b.top)

    front : (l : List ℕ) (v : ℕ) → length l ≡ 500 → drop (first - 1) (set l (first - 1) v) ≡ v ∷ drop first l
    front l v e = set_before l first v some_place (omega (arith, b.within))

    stored : drop (first - 1) (set needs (first - 1) cand) ≡ cand ∷ (behind i).needs
    stored = front needs cand b.long.3 ∙ rw b.stack

    pub held_is : get_or (set needs (first - 1) cand) (first - 1 + held) 0 ≡ get_or (cand ∷ (behind i).needs) held 0
    held_is = sym (get_or-drop (first - 1) (set needs (first - 1) cand) held 0) ∙ ap (λ (l : List ℕ). get_or l held 0) stored

    kept_needs : drop first (set needs (first - 1) cand) ≡ drop first needs
    kept_needs = drop-set-lt first needs (first - 1) cand (omega (arith, some_place))

    abbrev keep : Bool
    keep = leb cand (at after 0) && leb (get_or (cand ∷ (behind i).needs) held 0) (at after (due_slot p i - 1))

    tested : keeps base (due_slot p) (at after) held (behind i).needs i ≡ keep
    tested = rw cand_is

    pushed : (t : Bool) → keep ≡ t → behind (i - 1) ≡ cond t (record { needs = cand ∷ (behind i).needs; chunks = i ∷ (behind i).chunks }) (behind i)
    pushed t e = step ∙ rw (tested, cand_is, e)

    pub basing_pass : keep ≡ false → Basing ids dues bytes (set needs (first - 1) cand) last first (i - 1)
    basing_pass e =
        let q = pushed false e in
        let s : suc (i - 1) ≡ i = omega arith in
        record {
          chunks = b.chunks ∙ ap (λ (o : Stack). o.chunks) (sym q);
          stack = kept_needs ∙ b.stack ∙ ap (λ (o : Stack). o.needs) (sym q);
          top = b.top ∙ ap (λ (o : Stack). get_or o.needs 0 0) (sym q);
          due_slots = b.due_slots;
          base_bytes = b.base_bytes;
          ascending = rw s (asc_lower i (suc i) p.chunks (drop first ids) (omega arith) b.ascending);
          small = b.small;
          room = omega (arith, b.room);
          within = b.within;
          left = omega (arith, b.left);
          long = (b.long.0, b.long.1, b.long.2, simp length-set b.long.3);
        }

    pub basing_keep : keep ≡ true → cand ≤ at after 0 → Basing (set ids (first - 1) i) (set dues (first - 1) (due_slot p i)) (set bytes (first - 1) (base i)) (set needs (first - 1) cand) cand (first - 1) (i - 1)
    basing_keep e small =
        let q = pushed true e in
        let s : suc (i - 1) ≡ i = omega arith in
        let f = front ids i b.long.0 in
        record {
          chunks = f ∙ ap (λ (l : List ℕ). i ∷ l) b.chunks ∙ ap (λ (o : Stack). o.chunks) (sym q);
          stack = stored ∙ ap (λ (o : Stack). o.needs) (sym q);
          top = ap (λ (o : Stack). get_or o.needs 0 0) (sym q);
          due_slots = rw f (front dues (due_slot p i) b.long.1 ∙ rw b.due_slots);
          base_bytes = rw f (front bytes (base i) b.long.2 ∙ rw b.base_bytes);
          ascending = rw (f, s) (omega arith, b.left, b.ascending);
          small = small;
          room = omega (arith, b.room);
          within = omega (arith, b.within);
          left = omega (arith, b.left);
          long = (simp length-set b.long.0, simp length-set b.long.1, simp length-set b.long.2, simp length-set b.long.3);
        }

    -- The two tests.
    pub keep_not_all : at after 0 < cand → keep ≡ false
    keep_not_all g = rw (lt-leb cand (at after 0) g)

    pub keep_not_held : cand ≤ at after 0 → at after (due_slot p i - 1) < get_or (cand ∷ (behind i).needs) held 0 → keep ≡ false
    keep_not_held g k = rw (le-leb cand (at after 0) g, lt-leb _ _ k)

    pub keep_both : cand ≤ at after 0 → get_or (cand ∷ (behind i).needs) held 0 ≤ at after (due_slot p i - 1) → keep ≡ true
    keep_both g k = rw (le-leb cand (at after 0) g, le-leb _ _ k)

  pub basing_end : (ids dues bytes needs : List ℕ) (last first i : ℕ) → Basing ids dues bytes needs last first i → i ≤ 0 → KeptIn p size (stack_in p size (at after)) first ids dues bytes
  basing_end ids dues bytes needs last first i b h =
      let e : i ≡ 0 = omega arith in
      let s : p.chunks - i ≡ p.chunks = omega arith in
      record {
        within = b.within;
        kept = b.chunks ∙ rw (s, e);
        due_slots = b.due_slots;
        base_bytes = b.base_bytes;
        ascending = rw e at b.ascending;
        long = (b.long.0, b.long.1, b.long.2);
      }

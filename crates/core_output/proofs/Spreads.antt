-- Laws on the marks of all chunks: what is whole of each, and over it the one that stands with it in
-- the tables. Assumes nothing.
use mathlib.Core.Path.{◌≡◌, refl, sym, ◌∙◌, ap}
use mathlib.Core.Bool.{cond}
use mathlib.Core.List.{List, [], ◌++◌}
use Prim.Native.Nat.{ℕ, suc, ◌+◌, ◌-◌, ◌≤◌, ◌<◌}
use native.Mathlib.Omega.{arith}
use lib.ListN.{length, get_or, set, take, drop, length-set, take-append-drop, drop_of_length-le, get_or-append}
use lib.Seq.{drop_at, drop-set-lt, ext_get_or, get_or-take, length-take-le}
use lib.Dec.{eqb}
use borrow.Author.Tests.{eq-eqb, ne_eqb}
use Rattle.theory_basics.specs.Lent.{over}
use Rattle.theory_basics.specs.Lists.{up_to}
use Rattle.theory_basics.proofs.Lent.{over_long}
use Rattle.theory_basics.specs.lemmas.Lists.{get_d_up_to, length_up_to}
use Rattle.theory_basics.specs.lemmas.Tables.{at_set, drop_next}
use Rattle.theory_plan.specs.Bases.{Asc}
use Rattle.core_decide.specs.lemmas.Marks.{asc_none, mark_or}

-- The first n of one slice over those of another.
pub over_front : (whole before : List ℕ) (n : ℕ) (ys : List ℕ) → n ≤ length whole → ys ≡ take n whole → ys ++ drop n before ≡ over (take n whole) before
over_front whole before n ys h e =
    let m : length (take n whole) ≡ n = length-take-le n whole h in
    rw (e, m)

module _ (ids mark : List ℕ) (first : ℕ) (whole : List ℕ) (count : ℕ) (old : List ℕ) where
  abbrev mark_of : ℕ → ℕ
  mark_of i = mark_or (get_or whole i 0) (i + 1) (drop first ids) (drop first mark)

  -- What stands from place q on, over what is stored, gives every mark.
  pub record Spreading (marks : List ℕ) (q : ℕ) : Type 0 where
    pub to : q ≤ 500
    pub long : length marks ≡ length old
    pub fits : count ≤ length marks
    pub past : drop count marks ≡ drop count old
    pub lowest : ℕ
    pub some : 1 ≤ lowest
    pub ascending : Asc lowest count (drop q ids)
    pub left : (i : ℕ) → i < count → mark_or (get_or marks i 0) (i + 1) (drop q ids) (drop q mark) ≡ mark_of i

  pub spreading_start : (before : List ℕ) → first ≤ 500 → Asc 1 count (drop first ids) → count ≤ length whole → count ≤ length before → old ≡ over (take count whole) before → Spreading old first
  spreading_start before h a w f e =
      let n = length-take-le count whole w in
      record {
        to = h;
        long = refl;
        fits = omega (arith, n, ap length e ∙ over_long (take count whole) before (omega (arith, n)));
        past = refl;
        lowest = 1;
        some = omega arith;
        ascending = a;
        left = λ i u.
            ap (λ (x : ℕ). mark_or x (i + 1) (drop first ids) (drop first mark))
            (ap (λ (l : List ℕ). get_or l i 0) e ∙ get_or-append (take count whole) (drop (length (take count whole)) before) 0 i (omega (arith, n)) ∙ get_or-take count whole i 0 u);
      }

  module _ (li : length ids ≡ 500) (lm : length mark ≡ 500) (marks : List ℕ) (q : ℕ) (s : Spreading marks q) (h : q < 500) where
    abbrev chunk : ℕ
    chunk = get_or ids q 0

    asc : (s.lowest ≤ chunk) × (chunk ≤ count) × Asc (suc chunk) count (drop (q + 1) ids)
    asc = rw (drop_next ids q (omega (arith, li))) at s.ascending

    pub chunk_in : (1 ≤ chunk) × (chunk ≤ count)
    chunk_in = (omega (arith, asc.0, s.some), asc.1)

    here : (i : ℕ) → i < count → cond (eqb chunk (i + 1)) (get_or mark q 0) (mark_or (get_or marks i 0) (i + 1) (drop (q + 1) ids) (drop (q + 1) mark)) ≡ mark_of i
    here i u = rw (drop_next ids q (omega (arith, li)), drop_next mark q (omega (arith, lm))) at (s.left i u)

    pub spreading_more : Spreading (set marks (chunk - 1) (get_or mark q 0)) (q + 1)
    spreading_more =
        record {
          to = omega arith;
          long = simp length-set s.long;
          fits = simp length-set s.fits;
          past = drop-set-lt count marks (chunk - 1) (get_or mark q 0) (omega (arith, chunk_in.0, chunk_in.1)) ∙ s.past;
          lowest = suc chunk;
          some = omega arith;
          ascending = asc.2;
          left = λ i u.
              at_set (λ x. mark_or x (i + 1) (drop (q + 1) ids) (drop (q + 1) mark) ≡ mark_of i) marks (chunk - 1) (get_or mark q 0) i
              (omega (arith, s.fits, chunk_in.0, chunk_in.1))
              (λ e.
              let d : chunk ≡ i + 1 = omega (arith, e, chunk_in.0) in
              let stands : get_or mark q 0 ≡ mark_of i = rw (eq-eqb chunk (i + 1) d) at (here i u) in
              asc_none (get_or mark q 0) (suc chunk) count (i + 1) (drop (q + 1) ids) (drop (q + 1) mark) asc.2 (omega (arith, d)) ∙ stands)
              (λ o. rw (ne_eqb chunk (i + 1) (λ d. o (omega (arith, d)))) at (here i u));
        }

  pub spreading_end : (before : List ℕ) → length ids ≡ 500 → count ≤ length whole → old ≡ over (take count whole) before → (marks : List ℕ) (q : ℕ) → Spreading marks q → 500 ≤ q → marks ≡ over (up_to mark_of count) before
  spreading_end before li w e marks q s h =
      let none : drop q ids ≡ [] = drop_of_length-le ids {i = q} (omega (arith, li)) in
      let n = length-take-le count marks s.fits in
      let m = length_up_to mark_of count in
      let k = length-take-le count whole w in
      let front : take count marks ≡ up_to mark_of count = ext_get_or 0 (take count marks) (up_to mark_of count) (n ∙ sym m) (λ i u.
      let v : i < count = omega (arith, n) in
      get_or-take count marks i 0 v ∙ (rw none at (s.left i v)) ∙ sym (get_d_up_to mark_of count i 0 v)) in
      let rest : drop count marks ≡ drop count before = s.past ∙ ap (drop count) e ∙ drop_at (take count whole) (drop (length (take count whole)) before) count k ∙ ap (λ (i : ℕ). drop i before) k in
      sym (take-append-drop count marks) ∙ ap (λ (l : List ℕ). l ++ drop count marks) front ∙ ap (λ (l : List ℕ). up_to mark_of count ++ l) (rest ∙ ap (λ (i : ℕ). drop i before) (sym m))

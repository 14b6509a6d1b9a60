-- Laws on what is passed over: the chunks of the next H. Assumes nothing.
use Prim.Native.Nat.{ℕ, ◌+◌, ◌/◌, ◌≤◌, ◌<◌}
use mathlib.Core.Path.{◌≡◌, sym, ap}
use mir.Val.{bool_byte}
use mathlib.Core.Bool.{Bool, false, cond, ◌&&◌}
use mathlib.Core.List.{List}
use mathlib.Core.Logic.{⊎_elim}
use native.Mathlib.Omega.{arith}
use lib.Dec.{T, leb, ltb, leb→le, nleb→lt}
use borrow.Author.Tests.{le-leb, lt-leb, lt-ltb}
use Rattle.theory_basics.specs.Sums.{count}
use Rattle.theory_basics.specs.lemmas.Ranges.{bit_le, count_more}
use Rattle.theory_basics.specs.lemmas.Tests.{and_T, test}
use Rattle.job.specs.declared.Programme.{Programme}
use Rattle.core_live.specs.lemmas.ByTables.{could_come_at, in_time_at, lacks_at, open_at}
use Rattle.core_live.proofs.Laws.{byte_is, Clear, clear_more}

-- ---- of the next H

same_near : (a b seen most : ℕ) → a ≡ b + seen → leb a (b + most) ≡ leb seen most
same_near a b seen most e =
    ⊎_elim
    (λ t. let h = leb→le seen most t in rw (le-leb seen most h, le-leb a (b + most) (omega arith)))
    (λ t. let h = nleb→lt seen most t in rw (lt-leb seen most h, lt-leb a (b + most) (omega arith)))
    (test (leb seen most))

could_is :
    (k i a b seen most : ℕ) (x y : Bool) → k < i → a ≡ b + seen →
    (ltb k i && leb a (b + most) && x && y) ≡ (leb seen most && x && y)
could_is k i a b seen most x y h e = rw (lt-ltb k i h, same_near a b seen most e)

module _ (p : Programme) (start rate : ℕ) (left : ℕ → ℕ → ℕ) (begun : List ℕ) (last k : ℕ) where
  -- The chunks after k up to i: seen are open, and none could come.
  pub record Looking (seen i : ℕ) : Type 0 where
    pub from : k ≤ i
    pub opened : count (open_at p start begun last) i ≡ count (open_at p start begun last) k + seen
    pub clear : Clear (could_come_at p start rate left begun last k) i
    pub few : seen ≤ i

  -- One chunk more, by the three tests.
  pub one_more :
      {seen i : ℕ} → Looking seen i → {more : ℕ} → more ≡ seen + cond (open_at p start begun last (i + 1)) 1 0 →
      could_come_at p start rate left begun last k (i + 1)
      ≡ (leb more (p.limit / p.span) && lacks_at p start left begun last (i + 1) && in_time_at p start rate left (i + 1))
  one_more {seen} {i} l {more} e =
      could_is k (i + 1) (count (open_at p start begun last) (i + 1)) (count (open_at p start begun last) k) more (p.limit / p.span)
      (lacks_at p start left begun last (i + 1)) (in_time_at p start rate left (i + 1)) (omega (arith, l.from))
      (omega (arith, l.opened, e, count_more i (open_at p start begun last)))

  -- As the scan computes it.
  pub here_is :
      {seen i : ℕ} → Looking seen i → {most : ℕ} {opens lacking timely : Bool} → opens ≡ open_at p start begun last (i + 1) →
      lacking ≡ lacks_at p start left begun last (i + 1) → timely ≡ in_time_at p start rate left (i + 1) → most ≡ p.limit / p.span →
      (leb (seen + bool_byte opens) most && lacking && timely) ≡ could_come_at p start rate left begun last k (i + 1)
  here_is {seen} {i} l o a b e = rw (o, a, b, e) (sym (one_more l (ap (λ (n : ℕ). seen + n) (byte_is (open_at p start begun last (i + 1))))))

  pub looking_more :
      {seen i : ℕ} → Looking seen i → {more : ℕ} → more ≡ seen + cond (open_at p start begun last (i + 1)) 1 0 →
      could_come_at p start rate left begun last k (i + 1) ≡ false → Looking more (i + 1)
  looking_more {seen} {i} l {more} e f = record {
    from = omega (arith, l.from);
    opened = omega (arith, l.opened, e, count_more i (open_at p start begun last));
    clear = clear_more (could_come_at p start rate left begun last k) i l.clear f;
    few = omega (arith, l.few, e, bit_le (open_at p start begun last (i + 1)));
  }

pub six_T :
    (a b c d e f : Bool) → T (a && b && c && d && e && f) → T a × T b × T c × T d × T e × T f
six_T a b c d e f t =
    let s = and_T (a && b && c && d && e) f t in
    let r = and_T (a && b && c && d) e s.0 in
    let q = and_T (a && b && c) d r.0 in
    let o = and_T (a && b) c q.0 in
    let n = and_T a b o.0 in
    (n.0, n.1, o.1, q.1, r.1, s.1)

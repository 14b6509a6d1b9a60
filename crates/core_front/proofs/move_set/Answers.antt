-- `move_set` meets its contract.
use Prim.Native.Nat.{ℕ, ◌+◌, ◌*◌, ◌-◌}
use mathlib.Core.Path.{◌≡◌, ap, ◌∙◌}
use mathlib.Core.Logic.{⊎_elim}
use native.Mathlib.Omega.{arith}
use lib.ListN.{get_or}
use Rattle.core_front.specs.lemmas.Sets.{Copying, move_end}
use Rattle.core_front.proofs.move_set.Goals as goal

pub returns : goal.returns
returns c =
    let a = c.args in
    let s = a.sets.now in
    let moved = c.copy_within.ensures.by_index in
    let z : Copying s.chunks s.chunks (a.a * 500) (a.b * 500) (get_or s.counts a.a 0) c.copy_within.new.self =
    record {
      long = c.copy_within.ensures.len;
      copied = λ p u.
          let e : a.b * 500 + p - a.b * 500 ≡ p = omega arith in
          moved.0 (a.b * 500 + p) 0 (omega arith) (omega (arith, c.from.ensures)) ∙ ap (λ (x : ℕ). get_or s.chunks (a.a * 500 + x) 0) e;
      kept = λ p u. ⊎_elim (λ l. moved.1 p 0 l) (λ l. moved.2 p 0 (omega (arith, c.from.ensures))) u;
    } in
    move_end c.requires c.copy_within.new.self z

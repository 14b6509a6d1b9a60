-- `covers` meets its contract.
use Prim.Native.Nat.{◌+◌, ◌*◌, ◌-◌, ◌≤◌, max}
use native.Mathlib.Omega.{arith}
use lib.ListN.{length}
use Rattle.theory_most.specs.Statement.{after_set}
use Rattle.core_covering.proofs.Covering.{other_of, level_room, covers_both}
use Rattle.core_covering.proofs.covers.Goals as goal

pub overflow_add-level : goal.overflow_add-level
overflow_add-level c =
    let a = c.args in
    let o = c.requires in
    omega (arith, (level_room _ _ _ _ _ _ o.job a.used_u o.holds (length a.u.now - length a.s.now) c.if-held-lead.false).1)

pub returns-then-used_u-max : goal.returns-then-used_u-max
returns-then-used_u-max c = λ j h t.
    let a = c.args in
    let w = c.wait_of.ensures j (other_of _ _ _ _ _ _ j a.used_u h) in
    let low : a.used_u ≤ max (a.used_s + (length a.u.now - length a.s.now) * a.smallest) ((after_set j a.s.now).waits (length a.u.now - length a.s.now)) =
    omega (arith, w) in
    covers_both _ _ a.opens.now _ _ _ j a.used_u h c.if-u-s.false low (c.waits_covered.ensures j a.used_u h t)

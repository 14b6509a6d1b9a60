use Prim.Native.Nat.{◌+◌}
use lib.ListN.{get_or}
use native.Mathlib.Omega.{arith}
use Rattle.core_rules.proofs.Held.{marked_none, marked_pass, marked_more, marked_small}
use Rattle.core_rules.proofs.mark_times.Goals as goal
use Rattle.core_rules.proofs.mark_times.Goals.{then-a-d, else-a-d}

pub loop-i-init : goal.loop-i-init
loop-i-init c = rw (c.requires.2, c.requires.3) (marked_none c.args.p c.args.first.now)

pub overflow_add-begins : goal.overflow_add-begins
overflow_add-begins c =
    let a = c.args in
    let l = c.loop-i in
    let d = c.requires.1 (l.i + 1) (omega arith) in
    omega (arith, (marked_small a.p a.first.now l.begins l.ends l.i l.invariant (get_or a.first.now (l.i + 1) 0) (omega arith)).0)

pub overflow_add-ends : goal.overflow_add-ends
overflow_add-ends c =
    let a = c.args in
    let l = c.loop-i in
    let d = c.requires.1 (l.i + 1) (omega arith) in
    omega (arith, (marked_small a.p a.first.now l.begins l.ends l.i l.invariant c.due_slot-d.result (omega arith)).1)

pub loop-i-preserved : goal.loop-i-preserved
loop-i-preserved c =
    let a = c.args in
    let l = c.loop-i in
    let e = c.due_slot-d.ensures in
    elim c.if-a-d.branch [
      | then-a-d w ↦ rw (w.begins-is, w.ends-is, e) (marked_more a.p a.first.now l.begins l.ends l.i l.invariant (rw e at w.if-a-d.true) (c.requires.1 (l.i + 1) (omega arith)) (omega arith) (omega arith))
      | else-a-d w ↦ rw (w.begins-is, w.ends-is) (marked_pass a.p a.first.now l.begins l.ends l.i l.invariant (rw e at w.if-a-d.false))
    ]

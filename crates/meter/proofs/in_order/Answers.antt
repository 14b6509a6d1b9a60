use mathlib.Core.Path.{◌≡◌, sym}
use native.Mathlib.Omega.{arith}
use Rattle.meter.proofs.Laws.{cell, found_in, found_out, looked_start, looked_more, looked_all, looked_broken, too_many}
use Rattle.meter.proofs.in_order.Goals as goal
use Rattle.meter.proofs.in_order.Goals.{then-not-in_range-via-then-not-in_range, then-not-in_range-via-else-not-in_range+then-slot-before}

pub returns-then-m-gt10 : goal.returns-then-m-gt10
returns-then-m-gt10 c = sym (too_many c.args.m (omega arith))

pub loop-i-init : goal.loop-i-init
loop-i-init c = looked_start c.args.m

pub returns-then-not-in_range : goal.returns-then-not-in_range
returns-then-not-in_range c =
    let m = c.args.m in
    let i = c.loop-i.i in
    let last = c.loop-i.invariant.last in
    sym (looked_broken m i (omega arith) (λ r h.
    elim c.then-not-in_range.branch [
      | then-not-in_range-via-then-not-in_range w ↦ found_out (cell m i) c.in_range.result c.in_range.ensures w.if-not-in_range.true r
      | then-not-in_range-via-else-not-in_range+then-slot-before w ↦ omega (arith, w.if-slot-before.true)
    ]))

pub loop-i-preserved : goal.loop-i-preserved
loop-i-preserved c =
    let m = c.args.m in
    let i = c.loop-i.i in
    let ranged = found_in (cell m i) c.in_range.result c.in_range.ensures c.if-not-in_range.false in
    looked_more m c.loop-i.before i c.loop-i.invariant ranged c.if-slot-before.false

pub returns : goal.returns
returns c =
    let m = c.args.m in
    let e : c.loop-i.i ≡ m.kept = omega arith in
    sym (looked_all m c.loop-i.before (omega arith) (rw e at c.loop-i.invariant))

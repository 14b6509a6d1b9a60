use native.Mathlib.Omega.{arith}
use mathlib.Core.Path.{◌≡◌}
use Prim.Native.Nat.{◌+◌, min}
use lib.ListN.{length}
use Rattle.trace.proofs.Scans.{scanning_start, scanning_end, scanning_empty, scanning_cut, scanning_other, scanning_falls, scanning_line}
use Rattle.trace.proofs.count_lines.Goals as goal
use Rattle.trace.proofs.count_lines.Goals.{then-next-i-via-then-next-i, then-next-i-via-else-next-i+then-trace-next, then-next-i-via-else-next-i+else-trace-next+then-trace-next-ne10, then-next-i-via-else-next-i+else-trace-next+else-trace-next-ne10+then-time-t}

pub loop-i-init : goal.loop-i-init
loop-i-init c = let a = c.args in scanning_start a.trace.now a.counts.now

pub overflow_add-i : goal.overflow_add-i
overflow_add-i c = omega (arith, c.well_formed)

pub digits_from-time-requires : goal.digits_from-time-requires
digits_from-time-requires c = (omega (arith, c.min-end.ensures, c.loop-i-test.true), omega (arith, c.min-end.ensures), omega (arith, c.min-end.ensures))

pub returns-then-next-i : goal.returns-then-next-i
returns-then-next-i c =
    let a = c.args in
    let l = c.loop-i in
    let d = c.digits_from-time in
    let e = c.min-end in
    let seven : e.result ≡ min (l.i + 7) (length a.trace.now) = omega (arith, e.ensures) in
    elim c.then-next-i.branch [
      | then-next-i-via-then-next-i w ↦ scanning_empty a.trace.now a.counts.now l.counts l.i l.t l.invariant c.loop-i-test.true e.result d.result.value d.result.next seven d.ensures w.if-next-i.true
      | then-next-i-via-else-next-i+then-trace-next w ↦ scanning_cut a.trace.now a.counts.now l.counts l.i l.t l.invariant c.loop-i-test.true e.result d.result.value d.result.next seven d.ensures w.if-next-i.false w.if-trace-next.true
      | then-next-i-via-else-next-i+else-trace-next+then-trace-next-ne10 w ↦ scanning_other a.trace.now a.counts.now l.counts l.i l.t l.invariant c.loop-i-test.true e.result d.result.value d.result.next seven d.ensures w.if-trace-next.false w.if-trace-next-ne10.true
      | then-next-i-via-else-next-i+else-trace-next+else-trace-next-ne10+then-time-t w ↦ scanning_falls a.trace.now a.counts.now l.counts l.i l.t l.invariant c.loop-i-test.true e.result d.result.value d.result.next seven d.ensures w.if-trace-next-ne10.false w.if-trace-next.false w.if-time-t.true
    ]

pub loop-i-preserved : goal.loop-i-preserved
loop-i-preserved c =
    let a = c.args in
    let l = c.loop-i in
    let d = c.digits_from-time in
    let e = c.min-end in
    let seven : e.result ≡ min (l.i + 7) (length a.trace.now) = omega (arith, e.ensures) in
    rw c.count_line.ensures
    (scanning_line a.trace.now a.counts.now l.counts l.i l.t l.invariant c.loop-i-test.true e.result d.result.value d.result.next seven d.ensures c.if-trace-next-ne10.false c.if-trace-next.false c.if-next-i.false c.if-time-t.false)

pub returns : goal.returns
returns c =
    let a = c.args in
    let l = c.loop-i in
    scanning_end a.trace.now a.counts.now l.counts l.i l.t l.invariant c.loop-i-test.false

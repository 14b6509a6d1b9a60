use mathlib.Core.Path.{◌≡◌}
use Prim.Native.Nat.{◌+◌}
use native.Mathlib.Omega.{arith}
use Rattle.core_reasons.proofs.PassForward.{seeking_start, seeking_more, seeking_found, seeking_end, spent_at}
use Rattle.core_reasons.proofs.passes.find_late.Goals as goal

pub loop-q-init : goal.loop-q-init
loop-q-init c = let a = c.args in seeking_start a.after.now a.dues.now a.ready.now a.bytes.now a.first c.requires.within

pub overflow_sub-r : goal.overflow_sub-r
overflow_sub-r c = omega (arith, (c.requires.begins c.loop-q.q c.loop-q.invariant.reached c.loop-q-test.true).low)

pub offset_bounds-after-r : goal.offset_bounds-after-r
offset_bounds-after-r c = omega (arith, (c.requires.begins c.loop-q.q c.loop-q.invariant.reached c.loop-q-test.true).high)

pub overflow_add-v : goal.overflow_add-v
overflow_add-v c = omega (arith, c.from.ensures, c.from.type_inv, c.max.ensures, c.saturating_sub.ensures, c.loop-q.invariant.small, c.requires.sums 0)

pub offset_bounds-after-d : goal.offset_bounds-after-d
offset_bounds-after-d c = omega (arith, (c.requires.due_slots c.loop-q.q c.loop-q.invariant.reached c.loop-q-test.true).high)

pub returns-then-saturating_sub-v : goal.returns-then-saturating_sub-v
returns-then-saturating_sub-v c =
    let l = c.loop-q in
    let a = c.args in
    let v : c.max.result + c.from.result ≡ spent_at a.after.now a.dues.now a.ready.now a.bytes.now a.first l.used l.q = rw (c.from.ensures, c.max.ensures, c.saturating_sub.ensures) in
    seeking_found a.after.now a.dues.now a.ready.now a.bytes.now a.first l.used l.q l.invariant c.loop-q-test.true (rw (v, c.saturating_sub-in-loop-q.ensures) at c.if-saturating_sub-v.true)

pub loop-q-preserved : goal.loop-q-preserved
loop-q-preserved c =
    let l = c.loop-q in
    let a = c.args in
    let v : c.max.result + c.from.result ≡ spent_at a.after.now a.dues.now a.ready.now a.bytes.now a.first l.used l.q = rw (c.from.ensures, c.max.ensures, c.saturating_sub.ensures) in
    seeking_more a.after.now a.dues.now a.ready.now a.bytes.now a.first l.used l.q l.invariant c.loop-q-test.true _ v
    (omega (arith, c.from.ensures, c.from.type_inv, c.max.ensures, c.saturating_sub.ensures, l.invariant.small, l.invariant.reached, c.requires.sums 0))
    (rw (v, c.saturating_sub-in-loop-q.ensures) at c.if-saturating_sub-v.false)

pub returns : goal.returns
returns c =
    let l = c.loop-q in
    let a = c.args in
    let e : l.q ≡ 500 = omega (arith, l.invariant.within) in
    rw e at (seeking_end a.after.now a.dues.now a.ready.now a.bytes.now a.first l.used l.q l.invariant (omega arith))

use mathlib.Core.Path.{◌≡◌, ◌∙◌}
use Prim.Native.Nat.{◌+◌, ◌-◌}
use native.Mathlib.Omega.{arith}
use Rattle.core_bounds.proofs.Bounds.{fill_from, order_end, order_more, order_start, slot_most, sum_most}
use Rattle.core_bounds.proofs.in_order.Goals as goal

pub overflow_add-none : goal.overflow_add-none
overflow_add-none c = omega (arith, sum_most c.requires.job 0)

pub loop-i-init : goal.loop-i-init
loop-i-init c = order_start c.requires c.clear_row.new.row _ c.clear_row.ensures (omega arith)

pub bounds-after-d : goal.bounds-after-d
bounds-after-d c = omega (arith, slot_most c.requires.job (c.loop-i.i - 1 + 1) (omega (arith, c.loop-i.invariant.within)))

pub bounds-after-d-in-loop-i : goal.bounds-after-d-in-loop-i
bounds-after-d-in-loop-i c = omega (arith, slot_most c.requires.job (c.loop-i.i - 1 + 1) (omega (arith, c.loop-i.invariant.within)))

pub fill_row-requires : goal.fill_row-requires
fill_row-requires c =
    let l = c.loop-i in
    let k : l.i - 1 + 1 ≡ l.i = omega arith in
    fill_from c.requires _ l.i l.work l.invariant c.loop-i-test.true c.held_most-held.result c.from.result c.due_slot-d.result
    c.held_most-held.ensures (rw k at (c.from.ensures ∙ c.size_in-base.ensures))

pub loop-i-preserved : goal.loop-i-preserved
loop-i-preserved c =
    let l = c.loop-i in
    let k : l.i - 1 + 1 ≡ l.i = omega arith in
    order_more c.requires _ l.i l.work l.invariant c.loop-i-test.true c.held_most-held.result c.from.result c.due_slot-d.result
    _ c.held_most-held.ensures (rw k at (c.from.ensures ∙ c.size_in-base.ensures)) (rw k at c.due_slot-d.ensures) c.fill_row.ensures

pub returns : goal.returns
returns c =
    let l = c.loop-i in
    order_end c.requires _ l.i c.most_within.result l.work l.invariant (omega arith) c.loop-i-test.false c.most_within.ensures

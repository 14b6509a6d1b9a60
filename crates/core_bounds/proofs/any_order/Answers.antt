use mathlib.Core.Path.{◌≡◌, ◌∙◌}
use Prim.Native.Nat.{◌+◌, ◌-◌}
use native.Mathlib.Omega.{arith}
use lib.ListN.{get_or}
use lib.Dec.{leb}
use Rattle.theory_most.proofs.Bounds.{largest_le}
use Rattle.core_bounds.proofs.Bounds.{any_loop_end, any_loop_more, any_loop_start, few, held_small, row_from, sum_most}
use Rattle.core_bounds.proofs.any_order.Goals as goal

pub overflow_add-none : goal.overflow_add-none
overflow_add-none c = omega (arith, sum_most c.requires 0)

pub loop-i-init : goal.loop-i-init
loop-i-init c = any_loop_start c.requires c.clear_row.new.row c.clear_row.ensures

pub put_in_front-requires : goal.put_in_front-requires
put_in_front-requires c =
    let l = c.loop-i in
    let k : l.i - 1 + 1 ≡ l.i = omega arith in
    row_from c.requires l.i c.from.result c.due_slot-d.result l.row (rw k at (c.from.ensures ∙ c.size_in-base.ensures)) l.invariant

pub overflow_add-most : goal.overflow_add-most
overflow_add-most c =
    let a = c.args in
    let n = largest_le (λ k. leb (get_or c.put_in_front.new.row k 0) (get_or a.after.now (c.due_slot-d.result - 1) 0)) a.p.chunks in
    omega (arith, n, few c.requires, held_small c.requires)

pub loop-i-preserved : goal.loop-i-preserved
loop-i-preserved c =
    let l = c.loop-i in
    let k : l.i - 1 + 1 ≡ l.i = omega arith in
    any_loop_more c.requires l.i c.from.result c.due_slot-d.result c.most_within.result
    l.row c.put_in_front.new.row c.cut_above.new.row l.invariant c.loop-i-test.true
    (rw k at (c.from.ensures ∙ c.size_in-base.ensures)) (rw k at c.due_slot-d.ensures)
    c.put_in_front.ensures c.most_within.ensures c.cut_above.ensures (omega (arith, c.held_most-held.ensures))

pub returns : goal.returns
returns c =
    let l = c.loop-i in
    any_loop_end c.requires l.i c.most_within-2.result l.row l.invariant c.loop-i-test.false c.most_within-2.ensures

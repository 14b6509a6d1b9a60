use Rattle.std.proofs.Common.{◌+◌, arith}
use Rattle.core_sizes.specs.Table.{table_at}
use Rattle.core_moore_hodgson.proofs.Keeping.{drop_within, leaf_free, keeping_start, keeping_stays, keeping_passes, keeping_drops}
use Rattle.core_moore_hodgson.proofs.keep_or_drop.Goals as goal
use Rattle.core_moore_hodgson.proofs.keep_or_drop.Goals.{then-more-after, else-more-after+then-z-top, else-more-after+else-z-top}

pub loop-k-init : goal.loop-k-init
loop-k-init c = let a = c.args in keeping_start a.p (table_at a.table.now) a.after.now a.tree.now c.requires

pub add_leaf-requires-then-z-top : goal.add_leaf-requires-then-z-top
add_leaf-requires-then-z-top c =
    let l = c.loop-k in
    let a = c.args in
    (record { low = omega arith; high = omega (arith, c.requires.fit.few); maxima = l.invariant.shows.maxima }, leaf_free a.p (table_at a.table.now) a.after.now c.requires.fit l.tree l.sum l.k l.invariant (l.k + 1) (omega arith) (omega arith) c.size_in-z.result c.size_in-z.ensures)

pub overflow_sub-sum : goal.overflow_sub-sum
overflow_sub-sum c =
    let l = c.loop-k in
    let a = c.args in
    (drop_within a.p (table_at a.table.now) a.after.now c.requires.fit l.tree l.sum l.k l.invariant (l.k + 1) (omega arith) (omega arith) c.size_in-z.result c.size_in-z.ensures (rw c.due_slot-d.ensures at c.if-more-after.false) _ c.find_largest-q.ensures c.if-z-top.true).1

pub loop-k-preserved : goal.loop-k-preserved
loop-k-preserved c =
    let l = c.loop-k in
    let a = c.args in
    let z = c.size_in-z in
    let d = c.due_slot-d.ensures in
    elim c.if-more-after.branch [
      | then-more-after w ↦ rw (w.tree-is, w.sum-is) (keeping_stays a.p (table_at a.table.now) a.after.now c.requires.fit l.tree l.sum l.k l.invariant (l.k + 1) (omega arith) (omega arith) z.result z.ensures _ w.add_leaf.ensures (rw d at w.if-more-after.true))
      | else-more-after+then-z-top w ↦ rw (w.tree-is, w.sum-is) (keeping_drops a.p (table_at a.table.now) a.after.now c.requires.fit l.tree l.sum l.k l.invariant (l.k + 1) (omega arith) (omega arith) z.result z.ensures (rw d at w.if-more-after.false) _ w.find_largest-q.ensures w.if-z-top.true _ _ w.add_leaf-then-z-top.ensures w.clear_leaf.ensures)
      | else-more-after+else-z-top w ↦ rw (w.tree-is, w.sum-is) (keeping_passes a.p (table_at a.table.now) a.after.now c.requires.fit l.tree l.sum l.k l.invariant (l.k + 1) (omega arith) (omega arith) z.result z.ensures (rw d at w.if-more-after.false) w.if-z-top.false)
    ]

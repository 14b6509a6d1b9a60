use Rattle.std.proofs.Common.{arith}
use Rattle.core_moore_hodgson.proofs.Maxima.{falling_start, falling_left, falling_right, falling_end}
use Rattle.core_moore_hodgson.proofs.find_largest.Goals as goal

pub loop-p-init : goal.loop-p-init
loop-p-init c = falling_start c.args.tree.now

pub loop-p-preserved-then-tree-left : goal.loop-p-preserved-then-tree-left
loop-p-preserved-then-tree-left c = let l = c.loop-p in falling_left c.args.tree.now c.requires l.p c.loop-p-test.true l.invariant c.if-tree-left.true

pub loop-p-preserved : goal.loop-p-preserved
loop-p-preserved c = let l = c.loop-p in falling_right c.args.tree.now c.requires l.p c.loop-p-test.true l.invariant c.if-tree-left.false

pub returns : goal.returns
returns c = let l = c.loop-p in falling_end c.args.tree.now l.p l.invariant (omega (arith, c.loop-p-test.false))

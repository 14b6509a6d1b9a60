use Rattle.std.proofs.Common.{arith}
use Rattle.core_moore_hodgson.proofs.Maxima.{adding_more, adding_stops, stored}
use Rattle.core_moore_hodgson.proofs.add_leaf.Goals as goal

pub loop-p-preserved : goal.loop-p-preserved
loop-p-preserved c = let l = c.loop-p in adding_more c.args.v _ l.tree l.p l.invariant c.loop-p-test.true (omega arith) c.if-tree-p.true

pub returns-else-tree-p : goal.returns-else-tree-p
returns-else-tree-p c =
    let l = c.loop-p in
    let a = c.args in
    stored a.leaf a.v a.tree.now l.tree l.p c.told-tree c.requires.0 l.invariant.climbing (adding_stops a.v _ l.tree l.p l.invariant c.loop-p-test.true c.if-tree-p.false)

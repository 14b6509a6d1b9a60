use Rattle.std.proofs.Common.{◌∙◌, arith}
use Rattle.core_moore_hodgson.proofs.Maxima.{climbing_more, climbing_stops, stored}
use Rattle.core_moore_hodgson.proofs.clear_leaf.Goals as goal

pub returns-then-tree-p : goal.returns-then-tree-p
returns-then-tree-p c =
    let l = c.loop-p in
    let a = c.args in
    stored a.leaf 0 a.tree.now l.tree l.p c.told-tree c.requires l.invariant (climbing_stops _ l.tree l.p l.invariant (c.if-tree-p.true ∙ c.max-top.ensures))

pub loop-p-preserved : goal.loop-p-preserved
loop-p-preserved c = let l = c.loop-p in rw c.max-top.ensures (climbing_more _ l.tree l.p l.invariant (omega arith))

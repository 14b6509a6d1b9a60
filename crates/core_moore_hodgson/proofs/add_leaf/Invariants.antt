-- `add_leaf` meets its contract: on the way up only the place p may be wrong, and it wants the
-- larger of its own and v. Assumes nothing.
use Rattle.core_moore_hodgson.proofs.Maxima.{Adding}
use Rattle.core_moore_hodgson.proofs.add_leaf.Given as goal

abbrev pub invariant-loop-p : goal.invariant-loop-p
invariant-loop-p l = Adding l.v l.initial.tree l.tree l.p

abbrev pub decreases-loop-p : goal.decreases-loop-p
decreases-loop-p l = l.p

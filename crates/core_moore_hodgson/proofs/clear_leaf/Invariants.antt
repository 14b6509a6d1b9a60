-- `clear_leaf` meets its contract: on the way up only the place p may be wrong. Assumes nothing.
use Rattle.core_moore_hodgson.proofs.Maxima.{Climbing}
use Rattle.core_moore_hodgson.proofs.clear_leaf.Given as goal

abbrev pub invariant-loop-p : goal.invariant-loop-p
invariant-loop-p l = Climbing l.initial.tree l.tree l.p

abbrev pub decreases-loop-p : goal.decreases-loop-p
decreases-loop-p l = l.p

-- `find_largest` meets its contract: the way down stays at the largest, and no leaf before it has
-- as much. Assumes nothing.
use Prim.Native.Nat.{◌-◌}
use Rattle.core_moore_hodgson.proofs.Maxima.{Falling}
use Rattle.core_moore_hodgson.proofs.find_largest.Given as goal

abbrev pub invariant-loop-p : goal.invariant-loop-p
invariant-loop-p l = Falling l.tree l.p

abbrev pub decreases-loop-p : goal.decreases-loop-p
decreases-loop-p l = 1024 - l.p

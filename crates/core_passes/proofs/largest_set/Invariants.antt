-- `largest_set` meets its contract.
use Rattle.core_passes.specs.lemmas.Passing.{Larger}
use Rattle.core_passes.proofs.largest_set.Given as goal

abbrev pub invariant-loop-a : goal.invariant-loop-a
invariant-loop-a l = Larger l.counts l.n l.best l.a

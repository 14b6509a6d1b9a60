-- `step` meets its contract.
use Rattle.core_passes.specs.lemmas.Fronts.{Stepping}
use Rattle.core_passes.proofs.step.Given as goal

abbrev pub invariant-loop-a : goal.invariant-loop-a
invariant-loop-a l = Stepping l.by l.chunk l.row l.opens l.sets l.n l.next l.kept l.whole l.a

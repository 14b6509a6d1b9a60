-- `look` meets its contract.
use Rattle.core_passes.specs.lemmas.Passing.{Looking}
use Rattle.core_passes.proofs.look.Given as goal

abbrev pub invariant-loop-below : goal.invariant-loop-below
invariant-loop-below l = Looking l.film l.bound l.ends l.opens l.bases l.smallest l.work l.sets l.next l.most l.below

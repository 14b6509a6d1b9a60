-- `take_covered_out` meets its contract.
use Rattle.core_front.specs.lemmas.Settling.{Taking}
use Rattle.core_front.proofs.take_covered_out.Given as goal

abbrev pub invariant-loop-a : goal.invariant-loop-a
invariant-loop-a l = Taking l.by l.opens l.initial.sets l.n l.sets l.left l.a

-- `pass` meets its contract.
use Rattle.core_passes.specs.lemmas.Passing.{Passing}
use Rattle.core_passes.proofs.pass.Given as goal

abbrev pub invariant-loop-i : goal.invariant-loop-i
invariant-loop-i l = Passing l.film l.target l.ends l.opens l.bases l.smallest l.work l.sets l.next l.n l.whole l.i

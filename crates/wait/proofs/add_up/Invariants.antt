-- `wait::add_up` meets its contract. Assumes nothing.
use Rattle.wait.proofs.Sums.{Summing}
use Rattle.wait.proofs.add_up.Given as goal

abbrev pub invariant-loop-t : goal.invariant-loop-t
invariant-loop-t l = Summing l.forecast l.sums l.sum l.t

-- `wait::read_bases` meets its contract. Assumes nothing.
use Rattle.wait.proofs.Sums.{Based}
use Rattle.wait.proofs.read_bases.Given as goal

abbrev pub invariant-loop-i : goal.invariant-loop-i
invariant-loop-i l = Based l.chunks l.table l.bases l.i

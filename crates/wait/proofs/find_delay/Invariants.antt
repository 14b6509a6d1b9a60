-- `wait::find_delay` meets its contract. Assumes nothing.
use Rattle.wait.proofs.Searches.{Searching}
use Rattle.wait.proofs.find_delay.Given as goal

abbrev pub invariant-loop-s : goal.invariant-loop-s
invariant-loop-s l = Searching l.pass.chunks l.pass.span l.pass.held l.tries l.pass.bases.now l.pass.sums.now l.begins l.s

-- `wait::keeps_all` meets its contract. Assumes nothing.
use Rattle.wait.proofs.Passes.{Passing}
use Rattle.wait.proofs.keeps_all.Given as goal

abbrev pub invariant-loop-q : goal.invariant-loop-q
invariant-loop-q l = Passing l.pass.chunks l.pass.span l.pass.held l.s l.pass.bases.now l.pass.sums.now l.begins l.begin l.q

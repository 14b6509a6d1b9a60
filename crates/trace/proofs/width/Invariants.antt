-- `trace::width` meets its contract. Assumes nothing.
use Rattle.trace.proofs.Widths.{Widening}
use Rattle.trace.proofs.width.Given as goal

abbrev pub invariant-loop-t : goal.invariant-loop-t
invariant-loop-t l = Widening l.forecast l.sum l.t

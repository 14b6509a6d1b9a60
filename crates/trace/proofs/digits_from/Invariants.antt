-- `trace::digits_from` meets its contract. Assumes nothing.
use Rattle.trace.proofs.Scans.{Reading}
use Rattle.trace.proofs.digits_from.Given as goal

abbrev pub invariant-loop-next : goal.invariant-loop-next
invariant-loop-next l = Reading l.trace l.from l.end l.value l.next

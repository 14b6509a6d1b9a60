-- `trace::put_trace` meets its contract. Assumes nothing.
use Rattle.trace.proofs.Writes.{Writing}
use Rattle.trace.proofs.put_trace.Given as goal

abbrev pub invariant-loop-t : goal.invariant-loop-t
invariant-loop-t l = Writing l.forecast l.initial.out l.out l.next l.t

-- `put_whole` meets its contract: the first k marks are copied.
use Rattle.core_output.proofs.Copies.{Copied}
use Rattle.core_output.proofs.put_whole.Given as goal

abbrev pub invariant-loop-k : goal.invariant-loop-k
invariant-loop-k l = Copied l.whole l.initial.marks l.marks l.k

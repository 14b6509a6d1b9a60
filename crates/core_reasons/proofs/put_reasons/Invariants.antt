-- `put_reasons` meets its contract: the lines of the chunks up to k stand in the buffer. Assumes
-- nothing.
use Rattle.core_reasons.proofs.Lines.{Telling}
use Rattle.core_reasons.proofs.put_reasons.Given as goal

abbrev pub invariant-loop-k : goal.invariant-loop-k
invariant-loop-k l = Telling l.p l.held l.layers l.most l.sums l.after l.levels l.initial.out l.out l.next l.k

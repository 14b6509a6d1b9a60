-- `put_chunk` meets its contract: the lines of the layers below n stand in the buffer. Assumes
-- nothing.
use Rattle.core_reasons.proofs.Lines.{Lining}
use Rattle.core_reasons.proofs.put_chunk.Given as goal

abbrev pub invariant-loop-n : goal.invariant-loop-n
invariant-loop-n l = Lining l.p l.layers l.most l.sums l.after l.levels l.i l.initial.out l.at l.out l.next l.n

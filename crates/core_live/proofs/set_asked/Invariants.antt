-- `set_asked` meets its contract: the flags of the chunks up to i.
use Rattle.core_sizes.specs.Table.{table_at}
use Rattle.core_live.proofs.Asking.{Asking}
use Rattle.core_live.proofs.set_asked.Given as goal

abbrev pub invariant-loop-i : goal.invariant-loop-i
invariant-loop-i l = Asking l.p l.start (table_at l.left) l.begun l.last l.from l.until l.asked l.held l.i

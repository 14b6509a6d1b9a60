-- `in_order` meets its contract: the rows behind chunk k and behind every later chunk stand.
use lib.ListN.{length}
use Rattle.core_sizes.specs.Table.{table_at}
use Rattle.core_bounds.proofs.Bounds.{OrderLoop}
use Rattle.core_bounds.proofs.in_order.Given as goal

abbrev pub invariant-loop-i : goal.invariant-loop-i
invariant-loop-i l = OrderLoop l.p (table_at l.table) l.after (length l.initial.work) l.i l.work

-- `any_order` meets its contract: the row is that of the chunks behind k.
use Rattle.core_sizes.specs.Table.{table_at}
use Rattle.core_bounds.proofs.Bounds.{AnyLoop}
use Rattle.core_bounds.proofs.any_order.Given as goal

abbrev pub invariant-loop-i : goal.invariant-loop-i
invariant-loop-i l = AnyLoop l.p (table_at l.table) l.after l.i l.row

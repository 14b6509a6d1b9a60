-- `next_in_time` meets its contract: no chunk after k up to i could come.
use Rattle.core_sizes.specs.Table.{table_at}
use Rattle.core_live.proofs.Passing.{Looking}
use Rattle.core_live.proofs.next_in_time.Given as goal

abbrev pub invariant-loop-i : goal.invariant-loop-i
invariant-loop-i l = Looking l.p l.start l.rate (table_at l.left) l.begun l.last l.k l.seen l.i

-- `first_lacking` meets its contract: no chunk up to i lacks base bytes.
use Rattle.core_sizes.specs.Table.{table_at}
use Rattle.core_live.specs.lemmas.ByTables.{lacks_at}
use Rattle.core_live.proofs.Laws.{Clear}
use Rattle.core_live.proofs.first_lacking.Given as goal

abbrev pub invariant-loop-i : goal.invariant-loop-i
invariant-loop-i l = Clear (lacks_at l.p l.start (table_at l.left) l.begun l.last) l.i

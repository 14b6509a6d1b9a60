-- `set_bases` meets its contract: from place q on, due slots and bytes stand beside their chunks.
use Rattle.core_sizes.specs.Table.{table_at}
use Rattle.core_search.proofs.Found.{Placing}
use Rattle.core_search.proofs.set_bases.Given as goal

abbrev pub invariant-loop-q : goal.invariant-loop-q
invariant-loop-q l = Placing l.p (table_at l.table) l.first l.ids l.dues l.bytes l.q

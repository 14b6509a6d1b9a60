-- `keep_bases` meets its contract: from the last chunk down, the tables hold what is kept of the
-- chunks behind i.
use Rattle.core_sizes.specs.Table.{table_at}
use Rattle.core_decide.proofs.Bases.{Basing}
use Rattle.core_decide.proofs.keep_bases.Given as goal

abbrev pub invariant-loop-i : goal.invariant-loop-i
invariant-loop-i l = Basing l.p (table_at l.table) l.after l.ids l.dues l.bytes l.needs l.last l.first l.i

-- `new_bases` meets its contract: from the last chunk down, the tables hold what is kept of the
-- chunks behind i, and roof and floor say what the begun ones ask.
use Rattle.core_replan_decide.proofs.Bases.{Basing}
use Rattle.core_sizes.specs.Table.{table_at}
use Rattle.core_replan_decide.proofs.new_bases.Given as goal

abbrev pub invariant-loop-before : goal.invariant-loop-before
invariant-loop-before l =
    Basing l.p l.start l.held l.last (table_at l.left) l.after l.caps l.head l.ids l.dues l.bytes l.mark l.needs l.cap l.first l.lowest l.edge l.before

-- `try_layer` meets its contract: from q on the tables hold what the trials have settled, and need
-- is what they use up.
use Rattle.core_sizes.specs.Table.{table_at}
use Rattle.core_decide.proofs.Trials.{Backing}
use Rattle.core_decide.proofs.try_layer.Given as goal

abbrev pub invariant-loop-k : goal.invariant-loop-k
invariant-loop-k l = Backing (table_at l.table) l.n l.after l.ids l.dues l.room l.first l.initial.bytes l.initial.mark l.bytes l.mark l.need l.k

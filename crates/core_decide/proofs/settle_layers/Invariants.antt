-- `settle_layers` meets its contract: before layer n the tables hold what the layers below have
-- settled.
use Rattle.core_sizes.specs.Table.{table_at}
use Rattle.core_decide.proofs.Settle.{Settling}
use Rattle.core_decide.proofs.settle_layers.Given as goal

abbrev pub invariant-loop-n : goal.invariant-loop-n
invariant-loop-n l = Settling l.layers (table_at l.table) l.all l.after l.ids l.dues l.ready l.first l.initial.bytes l.initial.mark l.bytes l.room l.mark l.n

-- `put_layer` meets its contract: the pieces of the chunks up to i stand behind those that stood.
use Rattle.core_sizes.specs.Table.{table_at}
use Rattle.core_live.proofs.Putting.{Putting}
use Rattle.core_live.proofs.put_layer.Given as goal

abbrev pub invariant-loop-i : goal.invariant-loop-i
invariant-loop-i l = Putting (table_at l.left) l.asked l.n l.at l.initial.chunks l.initial.layers l.initial.bytes l.chunks l.layers l.bytes l.w l.i

use Rattle.std.proofs.Common.{arith}
use Rattle.core_sizes.specs.Table.{table_at}
use Rattle.core_decide.proofs.Settle.{settling_more}
use Rattle.core_decide.proofs.settle_layers.Goals as goal

pub loop-n-preserved : goal.loop-n-preserved
loop-n-preserved c = let a = c.args in let l = c.loop-n in settling_more a.layers (table_at a.table.now) a.all a.after.now a.ids.now a.dues.now a.ready.now a.first a.bytes.now a.room.now a.mark.now c.requires l.bytes l.room l.mark l.n l.invariant c.loop-n-test.true _ _ _ (omega arith) c.find_rooms.ensures c.try_layer.ensures

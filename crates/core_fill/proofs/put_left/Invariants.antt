-- `put_left` meets its contract: the layers below n are placed.
use Rattle.core_fill.proofs.Left.{Layering}
use Rattle.core_sizes.specs.Table.{table_at}
use Rattle.std.proofs.Common.{◌-◌}
use Rattle.core_fill.specs.lemmas.Filling.{level_of}
use Rattle.core_fill.proofs.put_left.Given as goal

abbrev pub invariant-loop-z : goal.invariant-loop-z
invariant-loop-z l =
    Layering l.start l.part (table_at l.left) l.chunk l.ready l.mark l.initial.at l.initial.slots l.initial.chunks l.initial.layers l.initial.bytes l.slots l.chunks l.layers l.bytes l.at l.n

abbrev pub decreases-loop-z : goal.decreases-loop-z
decreases-loop-z l = level_of l.mark - l.n

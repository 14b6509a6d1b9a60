-- `put_all` meets its contract: the pieces of the chunks before place q are placed.
use Rattle.core_sizes.specs.Table.{table_at}
use Rattle.core_fill.specs.lemmas.Left.{layers_by}
use Rattle.core_fill.proofs.Chunks.{Placing}
use Rattle.core_fill.proofs.put_all.Given as goal

abbrev pub invariant-loop-q : goal.invariant-loop-q
invariant-loop-q l =
    Placing (layers_by l.afresh (table_at l.table)) l.start l.part l.ids l.ready l.mark l.first l.initial.at l.initial.slots l.initial.chunks l.initial.layers l.initial.bytes l.slots l.chunks l.layers l.bytes l.at l.q

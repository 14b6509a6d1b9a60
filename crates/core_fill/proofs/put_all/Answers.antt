use Rattle.std.proofs.Common.{true, false, get_or}
use Rattle.core_sizes.specs.Table.{table_at}
use Rattle.core_fill.specs.lemmas.Left.{layers_by, LevelsBy}
use Rattle.core_fill.proofs.Chunks.{chunk_from, placing_more}
use Rattle.core_fill.proofs.Left.{asks_by, puts_by}
use Rattle.core_fill.proofs.put_all.Goals as goal
use Rattle.core_fill.proofs.put_all.Goals.{then-afresh, else-afresh}

pub put_left-at-requires : goal.put_left-at-requires
put_left-at-requires c =
    let a = c.args in
    let l = c.loop-q in
    record { asks = asks_by (table_at a.table.now) (get_or a.ids.now l.q 0) (get_or a.ready.now l.q 0) (get_or a.mark.now l.q 0) true c.if-afresh.true (chunk_from (LevelsBy a.afresh) (layers_by a.afresh (table_at a.table.now)) a.start a.part.now a.ids.now a.ready.now a.mark.now a.first a.from a.slots.now a.chunks.now a.layers.now a.bytes.now c.requires l.slots l.chunks l.layers l.bytes l.at l.q l.invariant c.loop-q-test.true) }

pub put_chunk-at-requires : goal.put_chunk-at-requires
put_chunk-at-requires c =
    let a = c.args in
    let l = c.loop-q in
    asks_by (table_at a.table.now) (get_or a.ids.now l.q 0) (get_or a.ready.now l.q 0) (get_or a.mark.now l.q 0) false c.if-afresh.false (chunk_from (LevelsBy a.afresh) (layers_by a.afresh (table_at a.table.now)) a.start a.part.now a.ids.now a.ready.now a.mark.now a.first a.from a.slots.now a.chunks.now a.layers.now a.bytes.now c.requires l.slots l.chunks l.layers l.bytes l.at l.q l.invariant c.loop-q-test.true)

pub loop-q-preserved : goal.loop-q-preserved
loop-q-preserved c =
    let a = c.args in
    let l = c.loop-q in
    elim c.if-afresh.branch [
      | then-afresh w ↦ rw (w.slots-is, w.chunks-is, w.layers-is, w.bytes-is, w.at-is) (placing_more (LevelsBy a.afresh) (layers_by a.afresh (table_at a.table.now)) a.start a.part.now a.ids.now a.ready.now a.mark.now a.first a.from a.slots.now a.chunks.now a.layers.now a.bytes.now c.requires l.slots l.chunks l.layers l.bytes l.at l.q l.invariant c.loop-q-test.true _ _ _ _ _ (puts_by (table_at a.table.now) (get_or a.ids.now l.q 0) (get_or a.ready.now l.q 0) (get_or a.mark.now l.q 0) true w.if-afresh.true w.put_left-at.ensures))
      | else-afresh w ↦ rw (w.slots-is, w.chunks-is, w.layers-is, w.bytes-is, w.at-is) (placing_more (LevelsBy a.afresh) (layers_by a.afresh (table_at a.table.now)) a.start a.part.now a.ids.now a.ready.now a.mark.now a.first a.from a.slots.now a.chunks.now a.layers.now a.bytes.now c.requires l.slots l.chunks l.layers l.bytes l.at l.q l.invariant c.loop-q-test.true _ _ _ _ _ (puts_by (table_at a.table.now) (get_or a.ids.now l.q 0) (get_or a.ready.now l.q 0) (get_or a.mark.now l.q 0) false w.if-afresh.false w.put_chunk-at.ensures))
    ]

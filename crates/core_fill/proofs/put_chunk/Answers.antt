use Rattle.std.proofs.Common.{sym, ◌∙◌, arith}
use Rattle.core_sizes.specs.Table.{table_at}
use Rattle.core_fill.proofs.Chunks.{set_below, clear_from, layering_end, layer_room, layer_some, layer_fits, layering_more}
use Rattle.core_fill.proofs.put_chunk.Goals as goal

pub size_in-z-requires : goal.size_in-z-requires
size_in-z-requires c =
    let a = c.args in
    let h = set_below a.mark c.requires.levels.closed c.loop-z.n (sym c.has.ensures ∙ c.loop-z-test.true) in
    (c.requires.chunk_in, omega (arith, c.requires.levels.high))

pub put_piece-at-requires : goal.put_piece-at-requires
put_piece-at-requires c =
    let a = c.args in
    let l = c.loop-z in
    let h = set_below a.mark c.requires.levels.closed c.loop-z.n (sym c.has.ensures ∙ c.loop-z-test.true) in
    rw c.size_in-z.ensures (layer_room a.start a.part.now (table_at a.table.now) a.chunk a.ready a.mark a.from a.slots.now a.chunks.now a.layers.now a.bytes.now c.requires c.begin-at.result c.begin-at.ensures l.slots l.chunks l.layers l.bytes l.at l.n l.invariant h, layer_some a.start a.part.now (table_at a.table.now) a.chunk a.ready a.mark a.from a.slots.now a.chunks.now a.layers.now a.bytes.now c.requires c.begin-at.result c.begin-at.ensures l.slots l.chunks l.layers l.bytes l.at l.n l.invariant h, layer_fits a.start a.part.now (table_at a.table.now) a.chunk a.ready a.mark a.from a.slots.now a.chunks.now a.layers.now a.bytes.now c.requires c.begin-at.result c.begin-at.ensures l.slots l.chunks l.layers l.bytes l.at l.n l.invariant h)

pub loop-z-preserved : goal.loop-z-preserved
loop-z-preserved c =
    let a = c.args in
    let l = c.loop-z in
    let h = set_below a.mark c.requires.levels.closed c.loop-z.n (sym c.has.ensures ∙ c.loop-z-test.true) in
    layering_more a.start a.part.now (table_at a.table.now) a.chunk a.ready a.mark a.from a.slots.now a.chunks.now a.layers.now a.bytes.now c.requires c.begin-at.result c.begin-at.ensures l.slots l.chunks l.layers l.bytes l.at l.n l.invariant h _ _ _ _ _ (rw c.size_in-z.ensures at c.put_piece-at.ensures)

pub returns : goal.returns
returns c =
    let a = c.args in
    let l = c.loop-z in
    let h = clear_from a.mark c.requires.levels.closed c.loop-z.n (sym c.has.ensures ∙ c.loop-z-test.false) in
    layering_end a.start a.part.now (table_at a.table.now) a.chunk a.ready a.mark a.from a.slots.now a.chunks.now a.layers.now a.bytes.now c.requires c.begin-at.result c.begin-at.ensures l.slots l.chunks l.layers l.bytes l.at l.n l.invariant h

pub overflow_add-n : goal.overflow_add-n
overflow_add-n c = omega (arith, set_below c.args.mark c.requires.levels.closed c.loop-z.n (sym c.has.ensures ∙ c.loop-z-test.true), c.requires.levels.high)

pub loop-z-smaller : goal.loop-z-smaller
loop-z-smaller c = omega (arith, set_below c.args.mark c.requires.levels.closed c.loop-z.n (sym c.has.ensures ∙ c.loop-z-test.true))

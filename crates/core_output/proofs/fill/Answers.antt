-- `fill` meets its contract: the rows and the marks in the slices are what the tables tell.
use mathlib.Core.Path.{sym}
use native.Mathlib.Omega.{arith}
use Rattle.core_sizes.specs.Table.{table_at}
use Rattle.core_output.proofs.Writing.{filled, front_long, marks_stay_long}
use Rattle.core_output.proofs.fill.Goals as goal

pub bounds-part-0 : goal.bounds-part-0
bounds-part-0 c = omega (arith, c.requires.from.some_slot)

pub put_all-end-requires : goal.put_all-end-requires
put_all-end-requires c =
    let a = c.args in
    let o = c.requires in
    o.from.fills a.slots.now a.chunks.now a.layers.now a.bytes.now o.slots_fit o.chunks_fit o.layers_fit o.bytes_fit

pub spread-requires : goal.spread-requires
spread-requires c =
    let o = c.requires.from in
    (o.within, o.few, o.marks_fit, o.ascending)

pub slice_bounds-count_layers-end : goal.slice_bounds-count_layers-end
slice_bounds-count_layers-end c =
    let o = c.requires.from in
    let a = c.args in
    omega (arith, marks_stay_long a.count a.first a.ids.now a.mark.now a.whole.now a.marks.now c.spread.ensures o.marks_fit, o.marks_fit)

pub slice_bounds-count_layers-end-2 : goal.slice_bounds-count_layers-end-2
slice_bounds-count_layers-end-2 c =
    let a = c.args in
    sym (front_long a.count a.first a.ids.now a.mark.now a.whole.now a.marks.now c.spread.ensures)

pub count_layers-counts-requires : goal.count_layers-counts-requires
count_layers-counts-requires c =
    let o = c.requires.from in
    let a = c.args in
    omega (arith, front_long a.count a.first a.ids.now a.mark.now a.whole.now a.marks.now c.spread.ensures, o.few)

pub returns : goal.returns
returns c =
    let a = c.args in
    filled a.count a.start a.part.now a.afresh (table_at a.table.now) a.first a.ids.now a.ready.now a.mark.now a.whole.now a.marks.now c.put_all-end.ensures c.spread.ensures c.count_layers-counts.ensures

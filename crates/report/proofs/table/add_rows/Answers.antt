use native.Mathlib.Omega.{arith}
use lib.ListN.{get_or}
use Rattle.report.proofs.Laws.{summing_start, summing_small, summing_more, summing_end}
use Rattle.report.proofs.table.add_rows.Goals as goal

pub loop-i-init : goal.loop-i-init
loop-i-init c =
    let a = c.args in
    summing_start a.slots.now a.chunks.now a.layers.now a.bytes.now _ c.requires.1

pub add_row-requires : goal.add_row-requires
add_row-requires c =
    let a = c.args in
    let o = c.requires.0 in
    let l = c.loop-i in
    let h = c.loop-i-test.true in
    let low = o.chunk_low l.i h in
    let high = o.chunk_high l.i h in
    let layer = o.layer_in l.i h in (
      low,
      high,
      layer,
      summing_small a.slots.now a.chunks.now a.layers.now a.bytes.now l.table l.i l.invariant
          (get_or a.chunks.now l.i 0) (get_or a.layers.now l.i 0) low high layer (λ k. omega (arith, c.type_inv.bytes k)) o.few,
    )

pub loop-i-preserved : goal.loop-i-preserved
loop-i-preserved c =
    let a = c.args in
    let o = c.requires.0 in
    let l = c.loop-i in
    let h = c.loop-i-test.true in
    rw c.add_row.ensures
    (summing_more a.slots.now a.chunks.now a.layers.now a.bytes.now l.table l.i l.invariant h (o.chunk_low l.i h) (o.chunk_high l.i h) (o.layer_in l.i h))

pub returns : goal.returns
returns c =
    let a = c.args in
    let l = c.loop-i in
    summing_end a.slots.now a.chunks.now a.layers.now a.bytes.now l.table l.i l.invariant c.loop-i-test.false

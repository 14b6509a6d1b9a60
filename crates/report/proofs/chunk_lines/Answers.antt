use native.Mathlib.Omega.{arith}
use Rattle.core_text.specs.lemmas.Texts.{putting_start, putting_room, putting_more, putting_end}
use Rattle.report.proofs.Pieces.{chunk_piece}
use Rattle.report.proofs.chunk_lines.Goals as goal

pub loop-k-init : goal.loop-k-init
loop-k-init c =
    let a = c.args in
    putting_start (chunk_piece a.sizes.now a.table.now a.depth) a.count a.out.now a.at

pub chunk_of-chunk-requires : goal.chunk_of-chunk-requires
chunk_of-chunk-requires c = (omega arith, omega arith, omega arith, c.requires.3)

pub chunk_line-next-requires : goal.chunk_line-next-requires
chunk_line-next-requires c =
    let a = c.args in
    rw (c.chunk_of-chunk.ensures.layers, c.chunk_of-chunk.ensures.bytes)
    (putting_room (chunk_piece a.sizes.now a.table.now a.depth) a.count a.out.now a.at c.requires.2 c.loop-k-test.true c.loop-k.invariant)

pub loop-k-preserved : goal.loop-k-preserved
loop-k-preserved c =
    let a = c.args in
    let p = rw (c.chunk_of-chunk.ensures.layers, c.chunk_of-chunk.ensures.bytes) at c.chunk_line-next.ensures in
    putting_more (chunk_piece a.sizes.now a.table.now a.depth) a.count a.out.now a.at c.requires.2 c.loop-k-test.true c.loop-k.invariant p

pub returns : goal.returns
returns c =
    let a = c.args in
    putting_end (chunk_piece a.sizes.now a.table.now a.depth) a.count a.out.now a.at c.loop-k-test.false c.loop-k.invariant

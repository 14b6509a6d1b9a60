use Rattle.std.proofs.Common.{◌+◌, arith}
use Rattle.core_fill.proofs.Pieces.{laying_more, laying_end, bytes_in_lem}
use Rattle.core_fill.proofs.put_piece.Goals as goal

pub loop-c-preserved : goal.loop-c-preserved
loop-c-preserved c =
    let a = c.args in
    let l = c.loop-c in
    let d = bytes_in_lem a.start a.part.now (l.t + 1) c.requires.0.part_in.low (omega (arith, l.invariant.putting.goes.low)) in
    let e = c.put_row.ensures in
    rw (e.0, e.1, e.2, e.3, c.rows_with-n.ensures) (rw d at (laying_more a.start a.part.now a.chunk a.layer a.size a.at a.slots.now a.chunks.now a.layers.now a.bytes.now c.requires.0 l.slots l.chunks l.layers l.bytes l.t l.c l.n l.left l.invariant c.loop-c-test.true))

pub returns : goal.returns
returns c =
    let a = c.args in
    let l = c.loop-c in
    let e = c.put_row-2.ensures in
    rw (e.0, e.1, e.2, e.3) (laying_end a.start a.part.now a.chunk a.layer a.size a.at a.slots.now a.chunks.now a.layers.now a.bytes.now c.requires.0 l.slots l.chunks l.layers l.bytes l.t l.c l.n l.left l.invariant c.loop-c-test.false)

use Rattle.core_text.specs.lemmas.Texts.{putting_start, putting_room, putting_more, putting_end}
use Rattle.report.proofs.Pieces.{count_piece}
use Rattle.report.proofs.layer_counts.Goals as goal

pub loop-n-init : goal.loop-n-init
loop-n-init c =
    let a = c.args in
    putting_start (count_piece a.sizes.now a.table.now a.count) a.depth a.out.now a.at

pub put_next-next-requires : goal.put_next-next-requires
put_next-next-requires c =
    let a = c.args in
    rw c.layer_count-carry.ensures
    (putting_room (count_piece a.sizes.now a.table.now a.count) a.depth a.out.now a.at c.requires.2 c.loop-n-test.true c.loop-n.invariant)

pub loop-n-preserved : goal.loop-n-preserved
loop-n-preserved c =
    let a = c.args in
    let p = rw c.layer_count-carry.ensures at c.put_next-next.ensures in
    putting_more (count_piece a.sizes.now a.table.now a.count) a.depth a.out.now a.at c.requires.2 c.loop-n-test.true c.loop-n.invariant p

pub returns : goal.returns
returns c =
    let a = c.args in
    putting_end (count_piece a.sizes.now a.table.now a.count) a.depth a.out.now a.at c.loop-n-test.false c.loop-n.invariant

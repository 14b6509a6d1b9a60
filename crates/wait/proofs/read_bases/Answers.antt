use Rattle.wait.proofs.Sums.{based_start, based_more, based_end}
use Rattle.wait.proofs.read_bases.Goals as goal

pub loop-i-init : goal.loop-i-init
loop-i-init c = let a = c.args in based_start a.chunks a.table.now a.bases.now c.told-bases

pub loop-i-preserved : goal.loop-i-preserved
loop-i-preserved c =
    let a = c.args in
    let l = c.loop-i in
    rw c.size_at.ensures (based_more a.chunks a.table.now l.bases l.i l.invariant c.loop-i-test.true c.requires)

pub returns : goal.returns
returns c =
    let a = c.args in
    let l = c.loop-i in
    based_end a.chunks a.table.now l.bases l.i l.invariant c.loop-i-test.false

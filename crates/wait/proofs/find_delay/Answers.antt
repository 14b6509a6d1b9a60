use Rattle.wait.proofs.Searches.{searching_start, searching_end}
use Rattle.wait.proofs.find_delay.Goals as goal

pub loop-s-init : goal.loop-s-init
loop-s-init c = let a = c.args in searching_start a.pass.now.chunks a.pass.now.span a.pass.now.held a.tries a.pass.now.bases.now a.pass.now.sums.now a.begins.now c.requires

pub keeps_all-requires : goal.keeps_all-requires
keeps_all-requires c = let l = c.loop-s in c.requires.each l.s l.invariant.low c.loop-s-test.true l.begins l.invariant.free

pub returns : goal.returns
returns c =
    let a = c.args in
    let l = c.loop-s in
    searching_end a.pass.now.chunks a.pass.now.span a.pass.now.held a.tries a.pass.now.bases.now a.pass.now.sums.now l.begins l.s l.invariant c.loop-s-test.false

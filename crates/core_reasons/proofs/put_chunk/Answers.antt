use native.Mathlib.Omega.{arith}
use Rattle.core_reasons.proofs.Lines.{line_from, lining_end, lining_more, lining_start}
use Rattle.core_reasons.proofs.put_chunk.Goals as goal

pub loop-n-init : goal.loop-n-init
loop-n-init c =
    let a = c.args in
    lining_start a.p a.layers a.most a.sums.now a.after.now a.levels.now a.i a.out.now a.at a.held c.requires

pub put_line-next-requires : goal.put_line-next-requires
put_line-next-requires c =
    let a = c.args in
    let l = c.loop-n in
    line_from a.p a.layers a.most a.sums.now a.after.now a.levels.now a.i a.out.now a.at a.held c.requires l.out l.next l.n l.invariant c.loop-n-test.true

pub loop-n-preserved : goal.loop-n-preserved
loop-n-preserved c =
    let a = c.args in
    let l = c.loop-n in
    lining_more a.p a.layers a.most a.sums.now a.after.now a.levels.now a.i a.out.now a.at a.held c.requires l.out l.next l.n l.invariant c.loop-n-test.true _ _ c.put_line-next.ensures

pub returns : goal.returns
returns c =
    let a = c.args in
    let l = c.loop-n in
    lining_end a.p a.layers a.most a.sums.now a.after.now a.levels.now a.i a.out.now a.at l.out l.next l.n l.invariant (omega arith)

use native.Mathlib.Omega.{arith}
use Rattle.core_reasons.proofs.Lines.{chunk_from, telling_end, telling_more, telling_start}
use Rattle.core_reasons.proofs.put_reasons.Goals as goal

pub loop-k-init : goal.loop-k-init
loop-k-init c =
    let a = c.args in
    telling_start a.p a.held a.layers a.most a.sums.now a.after.now a.levels.now a.out.now c.requires

pub overflow_add-i : goal.overflow_add-i
overflow_add-i c = omega (arith, c.requires.tables.few)

pub put_chunk-next-requires : goal.put_chunk-next-requires
put_chunk-next-requires c =
    let a = c.args in
    let l = c.loop-k in
    chunk_from a.p a.held a.layers a.most a.sums.now a.after.now a.levels.now a.out.now c.requires l.out l.next l.k l.invariant c.loop-k-test.true

pub loop-k-preserved : goal.loop-k-preserved
loop-k-preserved c =
    let a = c.args in
    let l = c.loop-k in
    telling_more a.p a.held a.layers a.most a.sums.now a.after.now a.levels.now a.out.now c.requires l.out l.next l.k l.invariant c.loop-k-test.true _ _ c.put_chunk-next.ensures

pub returns : goal.returns
returns c =
    let a = c.args in
    let l = c.loop-k in
    telling_end a.p a.held a.layers a.most a.sums.now a.after.now a.levels.now a.out.now l.out l.next l.k l.invariant (omega arith)

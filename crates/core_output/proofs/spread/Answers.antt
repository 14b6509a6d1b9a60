use Rattle.std.proofs.Common.{arith}
use Rattle.core_output.proofs.Spreads.{chunk_in, spreading_end, spreading_more, spreading_start}
use Rattle.core_output.proofs.spread.Goals as goal

pub loop-q-init : goal.loop-q-init
loop-q-init c = let a = c.args in let o = c.requires in spreading_start a.ids.now a.mark.now a.first a.whole.now a.count _ a.marks.now o.0 o.3 (omega (arith, o.1)) o.2 c.put_whole.ensures

pub overflow_sub-marks : goal.overflow_sub-marks
overflow_sub-marks c =
    let a = c.args in
    let l = c.loop-q in
    omega (arith, (chunk_in a.ids.now a.mark.now a.first a.whole.now a.count _ c.told-ids c.told-mark l.marks l.q l.invariant c.loop-q-test.true).0)

pub bounds-marks-ids : goal.bounds-marks-ids
bounds-marks-ids c =
    let a = c.args in
    let l = c.loop-q in
    let k = chunk_in a.ids.now a.mark.now a.first a.whole.now a.count _ c.told-ids c.told-mark l.marks l.q l.invariant c.loop-q-test.true in
    omega (arith, k.0, k.1, l.invariant.fits)

pub loop-q-preserved : goal.loop-q-preserved
loop-q-preserved c =
    let a = c.args in
    let l = c.loop-q in
    spreading_more a.ids.now a.mark.now a.first a.whole.now a.count _ c.told-ids c.told-mark l.marks l.q l.invariant c.loop-q-test.true

pub returns : goal.returns
returns c =
    let a = c.args in
    let l = c.loop-q in
    spreading_end a.ids.now a.mark.now a.first a.whole.now a.count _ a.marks.now c.told-ids (omega (arith, c.requires.1)) c.put_whole.ensures l.marks l.q l.invariant c.loop-q-test.false

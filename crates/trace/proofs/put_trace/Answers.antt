use Rattle.trace.proofs.Writes.{writing_start, writing_more, writing_room, writing_end}
use Rattle.trace.proofs.put_trace.Goals as goal

pub loop-t-init : goal.loop-t-init
loop-t-init c = writing_start c.args.forecast.now c.args.out.now

pub put_lines-next-requires : goal.put_lines-next-requires
put_lines-next-requires c =
    let a = c.args in
    let l = c.loop-t in
    writing_room a.forecast.now a.out.now c.requires.1 l.out l.next l.t l.invariant c.loop-t-test.true

pub loop-t-preserved : goal.loop-t-preserved
loop-t-preserved c =
    let a = c.args in
    let l = c.loop-t in
    let o = c.put_lines-next in
    writing_more a.forecast.now a.out.now c.requires.1 l.out l.next l.t l.invariant c.loop-t-test.true o.new.out o.result o.ensures

pub returns : goal.returns
returns c =
    let a = c.args in
    let l = c.loop-t in
    writing_end a.forecast.now a.out.now c.requires.1 l.out l.next l.t l.invariant c.loop-t-test.false

use Rattle.std.proofs.Common.{arith}
use Rattle.job.proofs.Sizes.{run_on, run_stop, run_end}
use Rattle.job.proofs.handed.accept_overrides.Goals as goal

pub loop-i-preserved : goal.loop-i-preserved
loop-i-preserved c =
    let a = c.args in let l = c.loop-i in
    run_on a.p a.sizes.now a.overrides.now.chunks.now a.overrides.now.layers.now a.overrides.now.bytes.now l.chunk l.layer l.i c.in_order.result c.in_order.ensures c.if-not-in_order.false (omega arith) l.invariant

pub returns-then-not-in_order : goal.returns-then-not-in_order
returns-then-not-in_order c =
    let a = c.args in let l = c.loop-i in
    run_stop a.p a.sizes.now a.overrides.now.chunks.now a.overrides.now.layers.now a.overrides.now.bytes.now l.chunk l.layer l.i c.in_order.result c.in_order.ensures c.if-not-in_order.true (omega arith) l.invariant

pub returns : goal.returns
returns c =
    let a = c.args in let l = c.loop-i in
    run_end a.p a.sizes.now a.overrides.now.chunks.now a.overrides.now.layers.now a.overrides.now.bytes.now l.chunk l.layer l.i (omega arith) l.invariant

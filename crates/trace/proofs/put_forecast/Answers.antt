use native.Mathlib.Omega.{arith}
use Rattle.trace.proofs.Counts.{putting_start, putting_more, putting_end, few_at}
use Rattle.trace.proofs.put_forecast.Goals as goal

pub loop-k-init : goal.loop-k-init
loop-k-init c = putting_start c.args.counts.now c.args.slots c.args.out.now

pub overflow_mul-out : goal.overflow_mul-out
overflow_mul-out c = omega (arith, few_at c.args.counts.now c.args.slots c.loop-k.k c.told-counts c.requires.0 c.requires.2 c.loop-k-test.true)

pub loop-k-preserved : goal.loop-k-preserved
loop-k-preserved c =
    let a = c.args in
    let l = c.loop-k in
    putting_more a.counts.now a.slots a.out.now l.out l.k l.invariant c.loop-k-test.true (omega (arith, c.requires.0)) c.requires.1

pub returns : goal.returns
returns c =
    let a = c.args in
    putting_end a.counts.now a.slots a.out.now c.loop-k.out c.loop-k.k c.loop-k.invariant c.loop-k-test.false

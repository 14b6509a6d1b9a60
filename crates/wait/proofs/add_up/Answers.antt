use Rattle.wait.proofs.Sums.{summing_start, summing_more, summing_end}
use Rattle.wait.proofs.add_up.Goals as goal

pub loop-t-init : goal.loop-t-init
loop-t-init c = summing_start c.args.forecast.now c.args.sums.now c.told-sums

pub loop-t-preserved : goal.loop-t-preserved
loop-t-preserved c =
    let l = c.loop-t in
    rw c.from-sum.ensures
    (summing_more c.args.forecast.now l.sums l.sum l.t l.invariant c.loop-t-test.true c.requires.0 c.requires.1)

pub returns : goal.returns
returns c = summing_end c.args.forecast.now c.loop-t.sums c.loop-t.sum c.loop-t.t c.loop-t.invariant c.loop-t-test.false

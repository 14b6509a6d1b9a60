use native.Mathlib.Omega.{arith}
use Rattle.trace.proofs.Widths.{widening_start, widening_more, bytes_small, widening_end}
use Rattle.trace.proofs.width.Goals as goal

pub loop-t-init : goal.loop-t-init
loop-t-init c = widening_start c.args.forecast.now

pub overflow_mul-sum : goal.overflow_mul-sum
overflow_mul-sum c =
    let l = c.loop-t in
    omega (arith, bytes_small c.args.forecast.now l.sum l.t l.invariant c.loop-t-test.true c.line_width.result c.line_width.ensures.0 c.line_width.ensures.1 (omega arith))

pub overflow_add-sum : goal.overflow_add-sum
overflow_add-sum c =
    let l = c.loop-t in
    omega (arith, l.invariant.small, c.loop-t-test.true, c.requires, bytes_small c.args.forecast.now l.sum l.t l.invariant c.loop-t-test.true c.line_width.result c.line_width.ensures.0 c.line_width.ensures.1 (omega arith))

pub loop-t-preserved : goal.loop-t-preserved
loop-t-preserved c =
    let l = c.loop-t in
    widening_more c.args.forecast.now l.sum l.t l.invariant c.loop-t-test.true c.line_width.result c.line_width.ensures.0 c.line_width.ensures.1 (omega arith)

pub returns : goal.returns
returns c = widening_end c.args.forecast.now c.loop-t.sum c.loop-t.t c.loop-t.invariant c.loop-t-test.false

use Rattle.std.proofs.Common.{arith}
use Rattle.jobfile.specs.lemmas.Runs.{count_last}
use Rattle.jobfile.proofs.count_runs.Goals as goal

pub returns : goal.returns
returns c = omega (arith, c.loop-i.invariant.counted, count_last c.args.forecast.now c.loop-i.i (grind arith))

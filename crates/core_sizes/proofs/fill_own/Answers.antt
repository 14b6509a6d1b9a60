use Rattle.std.proofs.Common.{arith}
use Rattle.core_sizes.specs.lemmas.Table.{filling_end}
use Rattle.core_sizes.proofs.fill_own.Goals as goal

pub returns : goal.returns
returns c = let i = c.loop-k.invariant in filling_end c.args.sizes.now c.loop-k.table c.loop-k.k i.0 (omega arith) i.1

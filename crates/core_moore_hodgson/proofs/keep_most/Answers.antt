-- `keep_most` meets its contract: what is gathered of the tree is what
-- the algorithm keeps.
-- Assumes nothing.
use Rattle.std.proofs.Common.{arith}
use Rattle.core_sizes.specs.Table.{table_at}
use Rattle.core_moore_hodgson.proofs.Gathers.{keeps}
use Rattle.core_moore_hodgson.proofs.keep_most.Goals as goal

pub returns : goal.returns
returns c = let a = c.args in keeps a.p (table_at a.table.now) a.after.now _ _ _ _ _ c.requires.fit c.keep_or_drop.ensures c.gather.ensures (omega arith, omega arith, omega arith)

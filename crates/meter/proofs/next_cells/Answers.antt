-- `meter::next_cells` meets its contract.
use native.Mathlib.Omega.{arith}
use borrow.Author.Tests.{le-ltb}
use Rattle.meter.proofs.Laws.{ten}
use Rattle.meter.proofs.next_cells.Goals as goal

pub returns-else-at-lt10 : goal.returns-else-at-lt10
returns-else-at-lt10 g c = rw (le-ltb _ _ c.if-at-lt10.false) (ten c.args.cells c.args.v _ _ _ _ _ _ _ _ _ (omega arith))

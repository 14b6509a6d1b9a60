-- `meter::last_slot` meets its contract: the last sample stands in the cell before the count.
use native.Mathlib.Omega.{arith}
use Rattle.meter.proofs.Laws.{last_slot_at}
use Rattle.meter.proofs.last_slot.Goals as goal

pub returns-else-m-eq0 : goal.returns-else-m-eq0
returns-else-m-eq0 c = last_slot_at c.args.m c.args.m.kept (omega arith)

-- `meter::in_order` meets its contract. The loop's invariant: the first i samples are in range and
-- rise, up to the slot `before`.
use Rattle.meter.proofs.Laws.{Looked}
use Rattle.meter.proofs.in_order.Given as goal

abbrev pub invariant-loop-i : goal.invariant-loop-i
invariant-loop-i l = Looked l.m l.before l.i

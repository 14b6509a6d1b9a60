-- `put_in_front` meets its contract: the places above c are written over those below.
use Rattle.core_bounds.proofs.Rows.{InFront}
use Rattle.core_bounds.proofs.put_in_front.Given as goal

abbrev pub invariant-loop-c : goal.invariant-loop-c
invariant-loop-c l = InFront l.base l.left l.count l.c l.initial.row l.row

-- The chunks up to i begin in turn.
use Rattle.core_replan_input.proofs.Flags.{Turning}
use Rattle.core_replan_input.proofs.in_turn.Given as goal

abbrev pub invariant-loop-i : goal.invariant-loop-i
invariant-loop-i l = Turning l.first l.i l.latest

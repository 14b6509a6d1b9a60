-- `places_below` meets its contract: from g on the caps are below the need.
use Rattle.core_replan_decide.proofs.Front.{Falling}
use Rattle.core_replan_decide.proofs.places_below.Given as goal

abbrev pub invariant-loop-edge : goal.invariant-loop-edge
invariant-loop-edge l = Falling l.caps l.head l.from l.need l.edge

abbrev pub decreases-loop-edge : goal.decreases-loop-edge
decreases-loop-edge l = l.edge

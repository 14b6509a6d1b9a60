-- `find_front` meets its contract: the begun chunks behind i stand at the end of the tables.
use Rattle.core_replan_decide.proofs.Bases.{Fronting}
use Rattle.core_replan_decide.proofs.find_front.Given as goal

abbrev pub invariant-loop-i : goal.invariant-loop-i
invariant-loop-i l = Fronting l.p l.start l.last l.begun l.after l.front l.caps l.head l.i

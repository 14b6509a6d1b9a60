-- `last_begun` meets its contract: behind i no chunk is begun.
use Rattle.core_replan_decide.proofs.Bases.{Lasting}
use Rattle.core_replan_decide.proofs.last_begun.Given as goal

abbrev pub invariant-loop-i : goal.invariant-loop-i
invariant-loop-i l = Lasting l.begun l.initial.i l.i

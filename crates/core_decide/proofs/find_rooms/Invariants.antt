-- `find_rooms` meets its contract: up to q the table holds the rooms, and left is what they leave.
use Rattle.theory_plan.specs.lemmas.Parts.{at}
use Rattle.core_decide.proofs.Rooms.{Rooming}
use Rattle.core_decide.proofs.find_rooms.Given as goal

abbrev pub invariant-loop-q : goal.invariant-loop-q
invariant-loop-q l = Rooming (at l.after) l.all l.first l.bytes l.ready l.room l.left l.q

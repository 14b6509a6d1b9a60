use Rattle.planfile.specs.lemmas.Writing.{Put}
use Rattle.planfile.proofs.Writer.{kp_at}
use Rattle.planfile.proofs.put_kps.Given as goal

abbrev pub invariant-loop-i : goal.invariant-loop-i
invariant-loop-i l = Put l.initial.out 0 (kp_at l.marks) l.i l.out

use Rattle.planfile.specs.lemmas.Scan.{mark_on, Filled}
use Rattle.planfile.proofs.copy_marks.Given as goal

abbrev pub invariant-loop-i : goal.invariant-loop-i
invariant-loop-i l = Filled (mark_on l.file) l.i l.initial.marks l.marks

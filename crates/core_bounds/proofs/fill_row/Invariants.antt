-- `fill_row` meets its contract: the row's places up to c are written over the rows behind it.
use Rattle.core_bounds.proofs.Rows.{Filling}
use Rattle.core_bounds.proofs.fill_row.Given as goal

abbrev pub invariant-loop-c : goal.invariant-loop-c
invariant-loop-c l = Filling l.i l.count l.held l.base l.left l.late l.none l.c l.initial.work l.work

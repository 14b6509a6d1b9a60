-- `sum_after` meets its contract: from the last slot down the table holds what is left after each.
use Rattle.core_decide.proofs.Sums.{Summed}
use Rattle.core_decide.proofs.sum_after.Given as goal

abbrev pub invariant-loop-u : goal.invariant-loop-u
invariant-loop-u l = Summed l.start l.part l.after l.sum l.u

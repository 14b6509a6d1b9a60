-- Rule 6 of the first t slots, by how many are held at the end of each.
use Rattle.core_rules.proofs.Held.{Sweeping}
use Rattle.core_rules.proofs.sweep.Given as goal

abbrev pub invariant-loop-t : goal.invariant-loop-t
invariant-loop-t l = Sweeping l.last l.most l.begins l.ends l.held l.t

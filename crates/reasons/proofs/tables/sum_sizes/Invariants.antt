-- `sum_sizes` meets its contract. Assumes nothing.
use Prim.Native.Nat.{◌-◌, ◌≤◌}
use Rattle.reasons.specs.lemmas.Tables.{Summed}
use Rattle.reasons.proofs.tables.sum_sizes.Given as goal

abbrev pub invariant-loop-i : goal.invariant-loop-i
invariant-loop-i l = Summed l.table l.i l.sums × (l.i ≤ 2000)

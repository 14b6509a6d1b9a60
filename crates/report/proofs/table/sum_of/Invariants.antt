-- `report::sum_of` meets its contract. Assumes nothing.
use mathlib.Core.Path.{◌≡◌}
use lib.ListN.{get_or}
use Rattle.theory_basics.specs.Sums.{sum}
use Rattle.report.proofs.table.sum_of.Given as goal

abbrev pub invariant-loop-bytes : goal.invariant-loop-bytes
invariant-loop-bytes l = l.total ≡ sum (λ k. get_or l.s k 0) l.bytes-index

-- `most_within` meets its contract: the largest up to c is the largest of all.
use mathlib.Core.Path.{◌≡◌}
use lib.ListN.{get_or}
use lib.Dec.{leb}
use Rattle.theory_most.specs.Statement.{largest}
use Rattle.core_bounds.proofs.most_within.Given as goal

abbrev pub invariant-loop-c : goal.invariant-loop-c
invariant-loop-c l = largest (λ k. leb (get_or l.row k 0) l.level) l.count ≡ largest (λ k. leb (get_or l.row k 0) l.level) l.c

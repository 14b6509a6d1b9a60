-- Rule 4 of the first t slots.
use Prim.Native.Nat.{◌-◌}
use mathlib.Core.Path.{◌≡◌}
use mathlib.Core.Bool.{true}
use lib.ListN.{get_or}
use lib.Dec.{leb}
use Rattle.theory_basics.specs.Tests.{all_to}
use Rattle.core_rules.proofs.within.Given as goal

abbrev pub invariant-loop-t : goal.invariant-loop-t
invariant-loop-t l = all_to l.t (λ t. leb (get_or l.slotsum t 0) (get_or l.forecast (t - 1) 0)) ≡ true

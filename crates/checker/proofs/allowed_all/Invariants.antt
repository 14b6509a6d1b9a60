-- Rule 2 of the second call is known of the chunks up to i.
use Rattle.std.proofs.Common.{◌≡◌}
use Rattle.theory_basics.specs.Tests.{all_to}
use Rattle.checker.specs.lemmas.Judged.{allowed_layers, early}
use Rattle.checker.proofs.allowed_all.Given as goal

abbrev pub invariant-loop-i : goal.invariant-loop-i
invariant-loop-i l = l.all ≡ all_to l.i (allowed_layers l.sums (early l.late))

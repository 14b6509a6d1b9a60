-- The sums of the layers below n are known.
use mathlib.Core.Path.{◌≡◌}
use Rattle.theory_basics.specs.Tests.{all_below}
use Rattle.core_sizes.specs.Table.{table_at}
use Rattle.core_replan_input.specs.lemmas.Gather.{few_by}
use Rattle.core_replan_input.proofs.none_above.Given as goal

abbrev pub invariant-loop-n : goal.invariant-loop-n
invariant-loop-n l = l.all ≡ all_below l.n (few_by (table_at l.table) l.sums l.i)

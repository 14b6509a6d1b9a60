-- Rule 2 of the second call is known of the layers below n.
use Rattle.std.proofs.Common.{◌≡◌}
use Rattle.theory_basics.specs.Tests.{all_below}
use Rattle.core_sizes.specs.Table.{table_at}
use Rattle.checker.specs.lemmas.Judged.{allowed_by, early}
use Rattle.checker.proofs.allowed_chunk.Given as goal

abbrev pub invariant-loop-n : goal.invariant-loop-n
invariant-loop-n l = l.all ≡ all_below l.n (allowed_by (table_at l.sums.table.now) l.sums.layers.now (early l.late) l.i)

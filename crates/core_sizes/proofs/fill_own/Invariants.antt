-- The places before the next one have the layers' own sizes. Assumes nothing.
use Rattle.std.proofs.Common.{◌≡◌, length}
use Rattle.core_sizes.specs.lemmas.Table.{Filling}
use Rattle.core_sizes.proofs.fill_own.Given as goal

abbrev pub invariant-loop-n : goal.invariant-loop-n
invariant-loop-n l = (length l.table ≡ 2000) × Filling l.sizes l.table l.n

abbrev pub invariant-loop-k : goal.invariant-loop-k
invariant-loop-k l = (length l.table ≡ 2000) × Filling l.sizes l.table l.k

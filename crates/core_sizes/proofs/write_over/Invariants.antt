-- The SZs from place i on are written. Assumes nothing.
use Rattle.std.proofs.Common.{◌≡◌}
use Rattle.job.specs.lemmas.Run.{from}
use Rattle.core_sizes.specs.Table.{overridden_by}
use Rattle.core_sizes.proofs.write_over.Given as goal

abbrev pub invariant-loop-i : goal.invariant-loop-i
invariant-loop-i l = l.table ≡ overridden_by (from l.i l.overrides.chunks.now l.overrides.layers.now l.overrides.bytes.now) l.initial.table

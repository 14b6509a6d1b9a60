-- The flags of the first k rows are set.
use Rattle.std.proofs.Common.{◌≡◌, length}
use Rattle.checker.proofs.Late.{Marking}
use Rattle.checker.proofs.mark_late.Given as goal

abbrev pub invariant-loop-k : goal.invariant-loop-k
invariant-loop-k l = (length l.late ≡ 2000) × Marking l.from l.rows.slots.now l.rows.chunks.now l.rows.layers.now l.rows.bytes.now l.late l.k

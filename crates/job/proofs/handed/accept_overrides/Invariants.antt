-- No refusal up to place i. Assumes nothing.
use Rattle.job.proofs.Sizes.{Clean}
use Rattle.job.proofs.handed.accept_overrides.Given as goal

abbrev pub invariant-loop-i : goal.invariant-loop-i
invariant-loop-i l = Clean l.p l.sizes l.overrides.chunks.now l.overrides.layers.now l.overrides.bytes.now l.chunk l.layer l.i

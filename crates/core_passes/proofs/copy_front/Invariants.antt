-- `copy_front` meets its contract.
use Rattle.core_passes.specs.lemmas.Tables.{CopyFrontPost}
use Rattle.core_passes.proofs.copy_front.Given as goal

abbrev pub invariant-loop-a : goal.invariant-loop-a
invariant-loop-a l = CopyFrontPost l.sets l.a l.to

use Rattle.std.proofs.Common.{arith}
use Rattle.checker.proofs.Late.{marking_early, marking_late, marking_start}
use Rattle.checker.proofs.mark_late.Goals.{then-from-slot, else-from-slot}
use Rattle.checker.proofs.mark_late.Goals as goal

pub loop-k-init : goal.loop-k-init
loop-k-init c = (omega arith, marking_start _ _ _ _ _ _ c.requires.1)

pub loop-k-preserved : goal.loop-k-preserved
loop-k-preserved c =
    let i = c.loop-k.invariant in (
      c.if-from-slot.array_long,
      elim c.if-from-slot.branch [
        | then-from-slot w ↦ rw w.late-is (marking_late i.1 i.0 (c.requires.0.placed c.loop-k.k c.loop-k-test.true) w.if-from-slot.true)
        | else-from-slot w ↦ rw w.late-is (marking_early i.1 w.if-from-slot.false)
      ],
    )

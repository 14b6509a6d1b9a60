use Rattle.core_front.specs.lemmas.Settling.{taking_end, taking_on, taking_out}
use Rattle.core_front.proofs.take_covered_out.Goals.{else-not-set_covers, then-not-set_covers}
use Rattle.core_front.proofs.take_covered_out.Goals as goal

pub loop-a-preserved : goal.loop-a-preserved
loop-a-preserved c =
    elim c.if-not-set_covers.branch [
      | then-not-set_covers w ↦ rw (w.sets-is, w.left-is) (taking_on c.requires c.loop-a.invariant c.loop-a-test.true w.move_set.ensures)
      | else-not-set_covers w ↦ rw (w.sets-is, w.left-is) (taking_out c.requires c.loop-a.invariant c.loop-a-test.true c.set_covers.result w.if-not-set_covers.false c.set_covers.ensures)
    ]

pub returns : goal.returns
returns c = taking_end c.requires c.loop-a.invariant c.loop-a-test.false

-- `settle` meets its contract.
use Rattle.core_front.specs.lemmas.Settling.{dropped, last_asked, settled_covered, settled_hopeless, settled_last}
use Rattle.core_front.proofs.settle.Goals.{then-is_hopeless-via-else-is_hopeless+then-is_covered, then-is_hopeless-via-then-is_hopeless}
use Rattle.core_front.proofs.settle.Goals as goal

pub returns-then-is_hopeless : goal.returns-then-is_hopeless
returns-then-is_hopeless c =
    elim c.then-is_hopeless.branch [
      | then-is_hopeless-via-then-is_hopeless w ↦ settled_hopeless c.requires c.is_hopeless.result w.if-is_hopeless.true c.is_hopeless.ensures
      | then-is_hopeless-via-else-is_hopeless+then-is_covered w ↦ settled_covered c.requires w.is_covered.result w.if-is_covered.true w.is_covered.ensures
    ]

pub returns-then-left-ge-ROOM : goal.returns-then-left-ge-ROOM
returns-then-left-ge-ROOM c = dropped c.requires c.take_covered_out-left.ensures

pub move_set-requires : goal.move_set-requires
move_set-requires c = last_asked c.requires c.take_covered_out-left.ensures

pub returns : goal.returns
returns c = settled_last c.requires c.take_covered_out-left.ensures c.if-left-ge-ROOM.false c.move_set.ensures

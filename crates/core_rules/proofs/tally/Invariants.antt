-- The pass over the rows: after i rows the tables hold the first i, and rules 1 and 5 are known of
-- them.
use Rattle.core_rules.proofs.Rows.{Tallying}
use Rattle.core_rules.proofs.tally.Given as goal

abbrev pub invariant-loop-i : goal.invariant-loop-i
invariant-loop-i l =
    Tallying l.p l.last l.depth l.slots l.chunks l.layers l.bytes l.slotsum l.layersum l.first l.timely l.i

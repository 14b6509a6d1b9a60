-- The first i rows are added back, and can be.
use Rattle.booking.proofs.Rows.{Adding}
use Rattle.booking.proofs.add_back.Given as goal

abbrev pub invariant-loop-i : goal.invariant-loop-i
invariant-loop-i l = Adding l.initial.forecast l.rows.slots.now l.rows.bytes.now l.forecast l.i

-- The first i rows are taken off.
use Rattle.std.proofs.Common.{◌≡◌}
use Rattle.booking.specs.Booking.{taken_off}
use Rattle.booking.specs.lemmas.Passes.{bare}
use Rattle.booking.proofs.take_off.Given as goal

abbrev pub invariant-loop-i : goal.invariant-loop-i
invariant-loop-i l = l.forecast ≡ taken_off l.initial.forecast (bare l.rows.slots.now l.rows.bytes.now l.i)

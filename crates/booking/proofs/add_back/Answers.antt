use Rattle.std.proofs.Common.{sym, ◌∙◌, arith}
use Rattle.booking.proofs.Rows.{adding_start, adding_gone, adding_full, adding_more, adding_end}
use Rattle.booking.proofs.add_back.Goals as goal

pub loop-i-init : goal.loop-i-init
loop-i-init c = let a = c.args in adding_start a.forecast.now a.rows.now.slots.now a.rows.now.bytes.now c.requires.1

pub returns-then-slot-lt1 : goal.returns-then-slot-lt1
returns-then-slot-lt1 c = adding_gone c.loop-i.invariant c.loop-i-test.true c.then-slot-lt1.either

pub returns-then-not-has_room : goal.returns-then-not-has_room
returns-then-not-has_room c = adding_full c.loop-i.invariant c.loop-i-test.true c.if-slot-lt1.false c.if-forecast-slot.false (sym c.has_room.ensures ∙ c.if-not-has_room.true)

pub loop-i-preserved : goal.loop-i-preserved
loop-i-preserved c = adding_more c.loop-i.invariant c.loop-i-test.true c.if-slot-lt1.false c.if-forecast-slot.false (sym c.has_room.ensures ∙ c.if-not-has_room.false)

pub returns : goal.returns
returns c = adding_end c.loop-i.invariant _ (omega arith)

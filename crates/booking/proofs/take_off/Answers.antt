use Rattle.std.proofs.Common.{arith}
use Rattle.booking.proofs.Rows.{taken_none, taking_there, taking_covers, taking_more}
use Rattle.booking.proofs.take_off.Goals as goal

pub loop-i-init : goal.loop-i-init
loop-i-init c = taken_none c.args.forecast.now

pub overflow_sub-forecast : goal.overflow_sub-forecast
overflow_sub-forecast c = let a = c.args in (taking_there a.forecast.now a.rows.now.slots.now a.rows.now.bytes.now a.count c.loop-i.i c.loop-i-test.true c.requires.2).0

pub bounds-forecast-rows : goal.bounds-forecast-rows
bounds-forecast-rows c =
    let a = c.args in
    let there = taking_there a.forecast.now a.rows.now.slots.now a.rows.now.bytes.now a.count c.loop-i.i c.loop-i-test.true c.requires.2 in
    rw c.loop-i.invariant (omega arith)

pub overflow_sub-forecast-in-loop-i : goal.overflow_sub-forecast-in-loop-i
overflow_sub-forecast-in-loop-i c =
    let a = c.args in
    rw c.loop-i.invariant (taking_covers a.forecast.now a.rows.now.slots.now a.rows.now.bytes.now a.count c.loop-i.i c.loop-i-test.true c.requires.2)

pub bounds-forecast-rows-in-loop-i : goal.bounds-forecast-rows-in-loop-i
bounds-forecast-rows-in-loop-i c =
    let a = c.args in
    let there = taking_there a.forecast.now a.rows.now.slots.now a.rows.now.bytes.now a.count c.loop-i.i c.loop-i-test.true c.requires.2 in
    rw c.loop-i.invariant (omega arith)

pub loop-i-preserved : goal.loop-i-preserved
loop-i-preserved c =
    let a = c.args in
    rw c.loop-i.invariant (taking_more a.forecast.now a.rows.now.slots.now a.rows.now.bytes.now a.count c.loop-i.i c.loop-i-test.true c.requires.2)

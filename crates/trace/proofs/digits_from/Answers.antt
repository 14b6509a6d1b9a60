use native.Mathlib.Omega.{arith}
use lib.ListN.{get_or}
use mathlib.Core.Path.{◌≡◌}
use Rattle.trace.proofs.Scans.{reading_start, reading_stop, reading_more, reading_end, value_small, digit_low, digit_high}
use Rattle.trace.proofs.digits_from.Goals as goal

pub loop-next-init : goal.loop-next-init
loop-next-init c = let a = c.args in reading_start a.trace.now a.from a.end c.requires.0

pub returns-then-not-is_ascii_digit : goal.returns-then-not-is_ascii_digit
returns-then-not-is_ascii_digit c =
    let a = c.args in
    let l = c.loop-next in
    let d = c.is_ascii_digit in
    reading_stop a.trace.now a.from a.end l.value l.next l.invariant d.result d.ensures.value c.if-not-is_ascii_digit.true

pub overflow_sub-b : goal.overflow_sub-b
overflow_sub-b c =
    let d = c.is_ascii_digit in
    digit_low (get_or c.args.trace.now c.loop-next.next 0) d.result d.ensures.value c.if-not-is_ascii_digit.false

pub overflow_mul-value : goal.overflow_mul-value
overflow_mul-value c =
    let a = c.args in
    let l = c.loop-next in
    omega (arith, value_small a.trace.now a.from a.end l.value l.next l.invariant c.requires.1 c.loop-next-test.true)

pub overflow_add-value : goal.overflow_add-value
overflow_add-value c =
    let a = c.args in
    let l = c.loop-next in
    let d = c.is_ascii_digit in
    omega (arith, c.from.ensures, value_small a.trace.now a.from a.end l.value l.next l.invariant c.requires.1 c.loop-next-test.true, digit_high (get_or a.trace.now l.next 0) d.result d.ensures.value c.if-not-is_ascii_digit.false)

pub loop-next-preserved : goal.loop-next-preserved
loop-next-preserved c =
    let a = c.args in
    let l = c.loop-next in
    let d = c.is_ascii_digit in
    rw c.from.ensures
    (reading_more a.trace.now a.from a.end l.value l.next l.invariant c.requires.1 c.loop-next-test.true c.requires.2 d.result d.ensures.value c.if-not-is_ascii_digit.false)

pub returns : goal.returns
returns c =
    let a = c.args in
    let l = c.loop-next in
    let e : l.next ≡ a.end = omega (arith, l.invariant.high) in
    rw e at (reading_end a.trace.now a.from a.end l.value l.next l.invariant c.loop-next-test.false)

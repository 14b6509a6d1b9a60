use mathlib.Core.Path.{◌≡◌, sym, ◌∙◌}
use Prim.Native.Nat.{◌-◌}
use native.Mathlib.Omega.{arith}
use lib.ListN.{get_or}
use Rattle.core_reasons.specs.lemmas.Passes.{up_to_in}
use Rattle.core_reasons.proofs.PassBack.{backing_start, backing_more, backing_found, backing_end}
use Rattle.core_reasons.proofs.passes.find_begin.Goals as goal

pub loop-h-init : goal.loop-h-init
loop-h-init c = let a = c.args in backing_start a.after.now a.ready.now a.bytes.now a.first a.most a.m c.requires.low

pub overflow_cast-r : goal.overflow_cast-r
overflow_cast-r c = omega (arith, (c.requires.begins (c.loop-h.h - 1) (omega arith) (omega (arith, c.loop-h.invariant.high, c.requires.high))).high)

pub overflow_sub-r : goal.overflow_sub-r
overflow_sub-r c = omega (arith, (c.requires.begins (c.loop-h.h - 1) (omega arith) (omega (arith, c.loop-h.invariant.high, c.requires.high))).low)

pub overflow_add-t : goal.overflow_add-t
overflow_add-t c = omega (arith, c.from.ensures, c.from.type_inv, c.loop-h.invariant.small, c.requires.high)

pub offset_bounds-after-r : goal.offset_bounds-after-r
offset_bounds-after-r c = omega (arith, (c.requires.begins (c.loop-h.h - 1) (omega arith) (omega (arith, c.loop-h.invariant.high, c.requires.high))).high)

pub overflow_add-reach : goal.overflow_add-reach
overflow_add-reach c = omega (arith, c.saturating_sub-before.ensures, c.from.ensures, c.from.type_inv, c.loop-h.invariant.small, c.requires.sums 0, c.requires.high)

pub starts-requires : goal.starts-requires
starts-requires c = (omega arith, omega (arith, c.loop-h.invariant.high, c.requires.high))

pub returns-then-starts : goal.returns-then-starts
returns-then-starts c =
    let l = c.loop-h in
    let a = c.args in
    let b : c.saturating_sub-before.result ≡ up_to_in a.after.now (get_or a.ready.now (l.h - 1) 0 - 1) = c.saturating_sub-before.ensures in
    let w = c.from.ensures in
    let e = sym (rw (b, w) at c.starts.ensures) ∙ c.if-starts.true in
    rw (c.saturating_sub.ensures, b, w) (backing_found a.after.now a.ready.now a.bytes.now a.first a.most a.m l.sum l.h l.invariant c.loop-h-test.true e)

pub loop-h-preserved : goal.loop-h-preserved
loop-h-preserved c =
    let l = c.loop-h in
    let a = c.args in
    let b : c.saturating_sub-before.result ≡ up_to_in a.after.now (get_or a.ready.now (l.h - 1) 0 - 1) = c.saturating_sub-before.ensures in
    let w = c.from.ensures in
    let e = sym (rw (b, w) at c.starts.ensures) ∙ c.if-starts.false in
    rw w (backing_more a.after.now a.ready.now a.bytes.now a.first a.most a.m l.sum l.h l.invariant c.loop-h-test.true e (omega (arith, c.fits-bytes (l.h - 1))))

pub returns : goal.returns
returns c =
    let l = c.loop-h in
    let a = c.args in
    backing_end a.after.now a.ready.now a.bytes.now a.first a.most a.m l.sum l.h l.invariant (omega arith)

use Rattle.core_replan_decide.proofs.Bases.{basing_end, basing_keep, basing_pass, basing_start}
use native.Mathlib.Omega.{arith}
use mathlib.Core.Path.{◌≡◌, refl}
use Prim.Native.Nat.{◌+◌, ◌-◌}
use Rattle.core_replan_decide.proofs.new_bases.Goals as goal

pub loop-before-init : goal.loop-before-init
loop-before-init c = basing_start c.args.start c.requires c.need_cap-cap.ensures

pub loop-before-preserved-then-can_keep : goal.loop-before-preserved-then-can_keep
loop-before-preserved-then-can_keep c =
    let l = c.loop-before in
    let back : l.before - 1 + 1 ≡ l.before = omega arith in
    rw (c.due_slot.ensures, c.size_in.ensures, back) (basing_keep l.invariant c.loop-before-test.true c.requires (rw back at c.can_keep.ensures) c.if-can_keep.true refl c.places_below-edge.ensures c.raise_lowest-lowest.ensures)

pub loop-before-preserved : goal.loop-before-preserved
loop-before-preserved c =
    let l = c.loop-before in
    let back : l.before - 1 + 1 ≡ l.before = omega arith in
    basing_pass l.invariant c.loop-before-test.true c.requires (rw back at c.can_keep.ensures) c.if-can_keep.false

pub returns : goal.returns
returns c = basing_end c.loop-before.invariant (omega arith) c.requires.fine.few

use native.Mathlib.Omega.{arith}
use mathlib.Core.Path.{◌≡◌, sym, ◌∙◌}
use Prim.Native.Nat.{◌<◌}
use lib.ListN.{get_or, take}
use Rattle.std.proofs.lemmas.List.{get_or-take, length-take}
use Rattle.meter.proofs.Means.{share_narrow}
use Rattle.meter.proofs.Laws.{in_order_kept}
use Rattle.meter.proofs.Sums.{summed_start, summed_more, summed_zero, summed_pos, summed_high, summed_all}
use Rattle.meter.proofs.mean.Goals as goal

pub shared_ref_as_front-bytes-items : goal.shared_ref_as_front-bytes-items
shared_ref_as_front-bytes-items c = in_order_kept c.args.m c.requires.0

pub loop-bytes-init : goal.loop-bytes-init
loop-bytes-init c = summed_start c.args.m

pub returns-then-bytes-eq0 : goal.returns-then-bytes-eq0
returns-then-bytes-eq0 c =
    let m = c.args.m in
    let i = c.loop-bytes.bytes-index in
    let h : i < m.kept = omega (arith, length-take m.kept m.bytes) in
    summed_zero m i h (sym (get_or-take m.kept m.bytes i 0 h) ∙ c.if-bytes-eq0.true)

pub overflow_add-sum : goal.overflow_add-sum
overflow_add-sum c =
    let m = c.args.m in
    let i = c.loop-bytes.bytes-index in
    let k = in_order_kept m c.requires.0 in
    let w = c.loop-bytes.invariant.small in
    omega (arith, length-take m.kept m.bytes, c.share-sum.ensures, share_narrow (get_or (take m.kept m.bytes) i 0) (omega arith))

pub loop-bytes-preserved : goal.loop-bytes-preserved
loop-bytes-preserved c =
    let m = c.args.m in
    let i = c.loop-bytes.bytes-index in
    let h : i < m.kept = omega (arith, length-take m.kept m.bytes) in
    let e = get_or-take m.kept m.bytes i 0 h in
    rw (c.share-sum.ensures, e) (summed_more m c.loop-bytes.sum i c.loop-bytes.invariant (omega (arith, e)))

pub nonzero_div-result : goal.nonzero_div-result
nonzero_div-result c =
    let m = c.args.m in
    let e : c.loop-bytes.bytes-index ≡ m.kept = omega (arith, length-take m.kept m.bytes, in_order_kept m c.requires.0) in
    summed_pos m c.loop-bytes.sum c.requires.0 c.requires.1 (rw e at c.loop-bytes.invariant)

pub overflow_cast-result : goal.overflow_cast-result
overflow_cast-result c =
    let m = c.args.m in
    let e : c.loop-bytes.bytes-index ≡ m.kept = omega (arith, length-take m.kept m.bytes, in_order_kept m c.requires.0) in
    rw c.from.ensures (omega (arith, summed_high m c.loop-bytes.sum c.requires.0 c.requires.1 (rw e at c.loop-bytes.invariant)))

pub returns : goal.returns
returns c =
    let m = c.args.m in
    let e : c.loop-bytes.bytes-index ≡ m.kept = omega (arith, length-take m.kept m.bytes, in_order_kept m c.requires.0) in
    rw c.from.ensures (summed_all m c.loop-bytes.sum c.requires.0 c.requires.1 (rw e at c.loop-bytes.invariant))

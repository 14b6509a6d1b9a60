use Prim.Native.Nat.{◌+◌, ◌*◌, ◌≤◌}
use mathlib.Core.Path.{◌≡◌, refl}
use native.Mathlib.Omega.{arith}
use native.Mathlib.Nat.{mul-le-mul}
use Rattle.report.proofs.Laws.{switch_most, last_next, switch_next}
use Rattle.report.proofs.table.switch_sum.Goals as goal

pub loop-i-init : goal.loop-i-init
loop-i-init c = (omega arith, refl, refl)

pub picture_of-here-requires : goal.picture_of-here-requires
picture_of-here-requires c = (omega arith, omega arith, omega arith, c.requires.2)

pub overflow_add-sum : goal.overflow_add-sum
overflow_add-sum c =
    let a = c.args in
    let l = c.loop-i in
    let s = a.sizes.now in
    let t = a.table.now in
    let e = switch_next s t a.depth l.i l.invariant.1 c.picture_of-here.ensures l.invariant.2 c.change-sum.ensures in
    let i : l.i + 1 ≤ 500 = omega arith in
    let d : a.depth * 16777216 ≤ 67108864 = omega arith in
    omega (arith, e, switch_most s t c.requires.2 a.depth (l.i + 1), mul-le-mul i d)

pub loop-i-preserved : goal.loop-i-preserved
loop-i-preserved c =
    let a = c.args in
    let l = c.loop-i in
    let s = a.sizes.now in
    let t = a.table.now in
    let p = c.picture_of-here.ensures in (
      omega arith,
      last_next s t a.depth l.i l.invariant.1 p (c.or-last.ensures),
      switch_next s t a.depth l.i l.invariant.1 p l.invariant.2 c.change-sum.ensures,
    )

pub returns : goal.returns
returns c =
    let l = c.loop-i in
    let e : l.i ≡ c.args.count = omega arith in
    rw e at l.invariant.2

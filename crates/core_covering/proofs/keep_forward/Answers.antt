use Prim.Native.Nat.{◌+◌}
use mathlib.Core.Path.{◌≡◌, ◌∙◌}
use mathlib.Core.Bool.{cond}
use native.Mathlib.Omega.{arith}
use borrow.Author.Tests.{le-ltb, lt-ltb}
use lib.Dec.{ltb}
use lib.ListN.{get_or}
use Rattle.core_covering.proofs.Forwarding.{forwarding_keep, forwarding_skip, level_fits, level_of}
use Rattle.core_covering.proofs.keep_forward.Goals.{After-max, else-held-gt0, else-level-ends, then-held-gt0, then-level-ends}
use Rattle.core_covering.proofs.keep_forward.Goals.at
use Rattle.core_covering.proofs.keep_forward.Goals as goal

-- What the code computes of chunk i + 1.
level_is :
    (c : After-max) →
    c.max.result + get_or c.args.bases.now (c.loop-i.i + 1) 0
    ≡ level_of c.args.count c.args.held c.args.ends.now c.args.opens.now c.args.bases.now c.loop-i.i c.loop-i.used c.loop-i.last
level_is c =
    let a = c.args in
    let l = c.loop-i in
    let own = get_or a.opens.now (l.i + 1) 0 in
    let wait : c.if-held-gt0.wait ≡ cond (ltb 0 a.held) l.last own =
    elim c.if-held-gt0.branch [
      | then-held-gt0 w ↦ w.wait-is ∙ rw (lt-ltb 0 a.held w.if-held-gt0.true)
      | else-held-gt0 w ↦ w.wait-is ∙ rw (le-ltb 0 a.held w.if-held-gt0.false)
    ] in
    rw (c.max.ensures, wait)

pub overflow_add-level : goal.overflow_add-level
overflow_add-level c =
    let a = c.args in
    let l = c.loop-i in
    omega (arith, level_is (at.overflow_add-level c).After-max, level_fits a.count a.held a.ends.now a.opens.now a.bases.now l.i l.kept l.used l.last l.ids l.invariant c.loop-i-test.true _ c.requires.holds)

pub loop-i-preserved : goal.loop-i-preserved
loop-i-preserved c =
    let a = c.args in
    let l = c.loop-i in
    let e = level_is (at.loop-i-preserved c).After-max in
    elim c.if-level-ends.branch [
      | then-level-ends w ↦
          rw (w.ids-is, w.used-is, w.last-is, w.kept-is)
          (forwarding_keep a.count a.held a.ends.now a.opens.now a.bases.now l.i l.kept l.used l.last l.ids l.invariant c.loop-i-test.true _ e w.if-level-ends.true)
      | else-level-ends w ↦
          rw (w.ids-is, w.used-is, w.last-is, w.kept-is)
          (forwarding_skip a.count a.held a.ends.now a.opens.now a.bases.now l.i l.kept l.used l.last l.ids l.invariant c.loop-i-test.true _ e w.if-level-ends.false)
    ]

use mathlib.Core.Path.{◌≡◌, ◌∙◌, ap}
use Prim.Native.Nat.{◌+◌, ◌-◌}
use native.Mathlib.Omega.{arith}
use borrow.Author.Tests.{eq-eqb, ne_eqb, le-leb, lt-leb}
use Rattle.job.specs.Job.{due_slot}
use Rattle.core_replan_decide.proofs.Bases.{fronting_start, fronting_keep, fronting_pass}
use Rattle.core_replan_decide.proofs.find_front.Goals as goal
use Rattle.core_replan_decide.proofs.find_front.Goals.{else-begun-i-eq1-via-then-begun-i-eq1+else-start-d, else-begun-i-eq1-via-else-begun-i-eq1}

pub loop-i-init : goal.loop-i-init
loop-i-init c = fronting_start c.args.start c.requires

pub loop-i-preserved-then-start-d : goal.loop-i-preserved-then-start-d
loop-i-preserved-then-start-d c =
    let l = c.loop-i in
    let back : l.i - 1 + 1 ≡ l.i = omega arith in
    let d : c.due_slot-d.result ≡ due_slot c.args.p l.i = c.due_slot-d.ensures ∙ ap (due_slot c.args.p) back in
    rw (back, d) (fronting_keep l.invariant (omega arith) (omega arith) (rw (eq-eqb _ _ c.if-begun-i-eq1.true, le-leb _ _ (rw d at c.if-start-d.true))))

pub loop-i-preserved : goal.loop-i-preserved
loop-i-preserved c =
    let l = c.loop-i in
    let back : l.i - 1 + 1 ≡ l.i = omega arith in
    let d : c.due_slot-d.result ≡ due_slot c.args.p l.i = c.due_slot-d.ensures ∙ ap (due_slot c.args.p) back in
    fronting_pass l.invariant (omega arith) (omega arith) (
    elim c.else-begun-i-eq1.branch [
      | else-begun-i-eq1-via-then-begun-i-eq1+else-start-d w ↦ rw (eq-eqb _ _ w.if-begun-i-eq1.true, lt-leb _ _ (rw d at w.if-start-d.false))
      | else-begun-i-eq1-via-else-begun-i-eq1 w ↦ rw (ne_eqb _ _ w.if-begun-i-eq1.false)
    ])

use mathlib.Core.Path.{◌≡◌, sym, ◌∙◌}
use native.Mathlib.Omega.{arith}
use Rattle.core_rules.proofs.Held.{sweeping_start, sweeping_fine, sweeping_more, sweeping_stop, sweep_is}
use Rattle.core_rules.proofs.sweep.Goals as goal

pub loop-t-init : goal.loop-t-init
loop-t-init c =
    let a = c.args in
    let o = c.requires in
    sweeping_start a.p a.first.now _ _ o.0 o.3 c.mark_times.ensures a.last _ o.1

pub overflow_add-more : goal.overflow_add-more
overflow_add-more c =
    let l = c.loop-t in
    let f = sweeping_fine _ _ _ _ l.held l.t l.invariant c.loop-t-test.true in
    omega (arith, f, l.invariant.now_held)

pub overflow_sub-held : goal.overflow_sub-held
overflow_sub-held c =
    let l = c.loop-t in
    let f = sweeping_fine _ _ _ _ l.held l.t l.invariant c.loop-t-test.true in
    omega (arith, f, l.invariant.now_held)

pub returns-then-most-held : goal.returns-then-most-held
returns-then-most-held c =
    let a = c.args in
    let o = c.requires in
    let l = c.loop-t in
    sym (sweeping_stop a.last _ _ _ l.held l.t l.invariant c.loop-t-test.true c.if-most-held.true)
    ∙ sweep_is a.p a.first.now _ _ o.0 o.3 c.mark_times.ensures a.last _ o.1 c.held_most-most.ensures

pub loop-t-preserved : goal.loop-t-preserved
loop-t-preserved c =
    let l = c.loop-t in
    sweeping_more _ _ _ _ l.held l.t l.invariant c.loop-t-test.true c.if-most-held.false

pub returns : goal.returns
returns c =
    let a = c.args in
    let o = c.requires in
    let l = c.loop-t in
    let e : l.t ≡ a.last = omega arith in
    sym (rw e at l.invariant.kept)
    ∙ sweep_is a.p a.first.now _ _ o.0 o.3 c.mark_times.ensures a.last _ o.1 c.held_most-most.ensures

use Prim.Native.Nat.{◌+◌, ◌-◌}
use native.Mathlib.Omega.{arith}
use Rattle.core_covering.proofs.Covering.{covered_more, covered_rest, covered_end, first_of, other_of, level_room}
use Rattle.core_covering.proofs.waits_covered.Goals as goal

pub returns-then-wait-used_s : goal.returns-then-wait-used_s
returns-then-wait-used_s c = λ j used_u h t.
    let a = c.args in
    let l = c.loop-q in
    let w = c.wait_of-wait.ensures j (first_of _ _ _ _ _ _ j used_u h) in
    covered_rest _ _ a.opens.now _ _ _ a.lead l.q c.loop-q-test.true l.invariant j used_u h (omega (arith, w, c.if-wait-used_s.true))

pub overflow_add-level : goal.overflow_add-level
overflow_add-level c =
    let a = c.args in
    let o = c.requires in
    let l = c.loop-q in
    omega (arith, (level_room _ _ _ _ _ _ o.job o.used_u o.holds (l.q - 1 + a.lead) (omega (arith, l.invariant.within, c.loop-q-test.true))).1)

pub loop-q-preserved : goal.loop-q-preserved
loop-q-preserved c =
    let a = c.args in
    let l = c.loop-q in
    covered_more _ _ a.opens.now _ _ _ a.lead l.q c.loop-q-test.true l.invariant (λ j used_u h.
    let w = c.wait_of-wait.ensures j (first_of _ _ _ _ _ _ j used_u h) in
    let v = c.wait_of.ensures j (other_of _ _ _ _ _ _ j used_u h) in
    omega (arith, w, v, h.s_is))

pub returns : goal.returns
returns c = λ j used_u h t.
    let a = c.args in
    let l = c.loop-q in
    covered_end _ _ a.opens.now _ _ _ a.lead l.q (omega (arith, c.loop-q-test.false)) l.invariant j used_u h

use Rattle.core_replan_decide.proofs.Bases.{due_in}
use Rattle.core_replan_decide.proofs.Begun.{it_in, begun_more, begun_start}
use native.Mathlib.Omega.{arith}
use Rattle.core_replan_decide.proofs.keep_begun.Goals as goal

pub loop-q-init : goal.loop-q-init
loop-q-init c = begun_start c.requires

pub size_in-size-requires : goal.size_in-size-requires
size_in-size-requires c = let i = it_in c.requires c.loop-q.invariant c.loop-q-test.true in (record { low = i.low; high = omega (arith, i.high, c.requires.fine.few) }, omega arith)

pub overflow_sub-b : goal.overflow_sub-b
overflow_sub-b c = (it_in c.requires c.loop-q.invariant c.loop-q-test.true).low

pub bounds-whole-b : goal.bounds-whole-b
bounds-whole-b c = omega (arith, it_in c.requires c.loop-q.invariant c.loop-q-test.true, c.requires.fine.few)

pub bounds-after-d : goal.bounds-after-d
bounds-after-d c = omega (arith, c.due_slot-d.ensures, due_in c.requires.fine _ (it_in c.requires c.loop-q.invariant c.loop-q-test.true).high)

pub overflow_cast-dues : goal.overflow_cast-dues
overflow_cast-dues c = omega (arith, c.due_slot-d.ensures, due_in c.requires.fine _ (it_in c.requires c.loop-q.invariant c.loop-q-test.true).high)

pub loop-q-preserved : goal.loop-q-preserved
loop-q-preserved c =
    let d = c.due_slot-d.ensures in
    rw d (begun_more c.requires c.loop-q.invariant c.loop-q-test.true (rw (c.size_in-size.ensures, c.max.ensures, d) at c.try_begun-one.ensures))

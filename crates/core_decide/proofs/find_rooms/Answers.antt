use Rattle.std.proofs.Common.{◌≡◌, ◌∙◌, ◌-◌, min, get_or, arith}
use Rattle.theory_plan.specs.lemmas.Parts.{at}
use Rattle.theory_basics.specs.lemmas.Tables.{all_from}
use Rattle.core_decide.specs.lemmas.Decision.{Slot}
use Rattle.core_decide.proofs.Rooms.{rooming_more, rooming_end}
use Rattle.core_decide.proofs.find_rooms.Goals as goal

pub overflow_sub-ready : goal.overflow_sub-ready
overflow_sub-ready c = let a = c.args in omega (arith, all_from Slot a.ready.now a.first c.loop-q.q c.requires.1 c.loop-q.auto.q (omega arith))

pub bounds-after-ready : goal.bounds-after-ready
bounds-after-ready c = let a = c.args in omega (arith, all_from Slot a.ready.now a.first c.loop-q.q c.requires.1 c.loop-q.auto.q (omega arith))

pub loop-q-preserved : goal.loop-q-preserved
loop-q-preserved c =
    let a = c.args in
    let l = c.loop-q in
    let v : c.min-here.result ≡ min l.left (at a.after.now (get_or a.ready.now l.q 0 - 1)) = c.min-here.ensures in
    let w : c.saturating_sub-left.result ≡ min l.left (at a.after.now (get_or a.ready.now l.q 0 - 1)) - get_or a.bytes.now l.q 0 = c.saturating_sub-left.ensures ∙ rw v in
    rw (v, w) (rooming_more (at a.after.now) a.all a.first a.bytes.now a.ready.now c.told-bytes c.told-ready l.room l.left l.q l.invariant c.loop-q-test.true)

pub returns : goal.returns
returns c = let a = c.args in let l = c.loop-q in rooming_end (at a.after.now) a.all a.first a.bytes.now a.ready.now c.told-bytes c.told-ready l.room l.left l.q l.invariant c.loop-q-test.false (omega arith)

-- `meter::take` meets its contract, an answer for each of its three ways.
use native.Mathlib.Omega.{arith}
use Rattle.std.proofs.Common.{◌≡◌, true, not, sym, ap, ◌∙◌}
use Rattle.theory_basics.specs.lemmas.Tests.{answer_true, answer_false}
use Rattle.meter.specs.Meter.{sample, samples_of, in_range, in_order}
use Rattle.meter.proofs.Laws.{passed_kept, answers_out, answers_disorder, answers_late, answers_taken}
use Rattle.meter.proofs.take.Goals as goal
use Rattle.meter.proofs.take.Goals.{then-not-in_range, else-not-in_range}

pub returns-then-not-in_order : goal.returns-then-not-in_order
returns-then-not-in_order c =
    let a = c.args in
    elim c.if-not-in_range.branch [
      | then-not-in_range w ↦ answers_out a.m a.slot a.bytes (sym c.in_range.ensures ∙ w.if-not-in_range.true)
      | else-not-in_range w ↦
          answers_disorder a.m a.slot a.bytes (sym c.in_range.ensures ∙ w.if-not-in_range.false)
          (answer_false w.in_order.result _ w.in_order.ensures (sym w.value-is ∙ c.if-not-in_order.true))
    ]

-- A sample that neither test refuses.
ranged : (c : goal.Else-not-in_order) → in_range (sample c.args.slot c.args.bytes) ≡ true
ranged c = elim c.if-not-in_range.branch [
  | then-not-in_range w ↦ cc (ap not w.if-not-in_range.true)
  | else-not-in_range w ↦ sym c.in_range.ensures ∙ w.if-not-in_range.false
]

ordered : (c : goal.Else-not-in_order) → in_order (samples_of c.args.m) ≡ true
ordered c = elim c.if-not-in_range.branch [
  | then-not-in_range w ↦ cc (ap not w.if-not-in_range.true)
  | else-not-in_range w ↦ answer_true w.in_order.result _ w.in_order.ensures (sym w.value-is ∙ c.if-not-in_order.false)
]

pub last_slot-requires : goal.last_slot-requires
last_slot-requires c = passed_kept c.args.m (ordered c)

pub returns-then-slot-last_slot : goal.returns-then-slot-last_slot
returns-then-slot-last_slot c =
    let a = c.args in
    answers_late a.m a.slot a.bytes (ranged c.before.before) (ordered c.before.before) (omega (arith, c.last_slot.ensures, c.if-slot-last_slot.true))

pub keep-requires : goal.keep-requires
keep-requires c = passed_kept c.args.m (ordered c.before.before)

pub returns-else-slot-last_slot : goal.returns-else-slot-last_slot
returns-else-slot-last_slot c =
    let a = c.args in
    rw c.keep.ensures
    (answers_taken a.m a.slot a.bytes (ranged c.before.before.before) (ordered c.before.before.before) (omega (arith, c.last_slot.ensures, c.if-slot-last_slot.false)))

use Rattle.std.proofs.Common.{sym, ◌∙◌, arith}
use Rattle.std.proofs.lemmas.Result.{err_from_is_err_and}
use Rattle.jobrecords.proofs.Steps.{turn_none, turn_inside, turn_lacking, turn_done, turn_fault, turn_more, reached}
use Rattle.jobrecords.proofs.one_step.Goals as goal

pub returns-in_default : goal.returns-in_default
returns-in_default c =
    let a = c.args in
    turn_none a.sequenced a.file.now a.at a.j a.sizes.now a.slots.now c.requires _ (rw c.unwrap_err.ensures at c.record_at-read.ensures)

pub overflow_sub-file : goal.overflow_sub-file
overflow_sub-file c = let a = c.args in turn_inside a.sequenced a.file.now a.at a.j a.sizes.now a.slots.now c.requires c.in-Ok.«record» c.in-Ok.next c.in-Ok.ensures

pub returns-in_err-accept_end : goal.returns-in_err-accept_end
returns-in_err-accept_end c =
    let a = c.args in
    let p = err_from_is_err_and c.from_residual.result c.from_residual.ensures.1 in
    rw (p.1, p.2) (turn_lacking a.sequenced a.file.now a.at a.j a.sizes.now a.slots.now c.requires c.in-Ok.«record» c.in-Ok.next c.in-Ok.ensures (sym c.is_end.ensures ∙ c.if-is_end.true) _ c.in_err-accept_end.ensures)

pub returns-then-is_end : goal.returns-then-is_end
returns-then-is_end c =
    let a = c.args in
    turn_done a.sequenced a.file.now a.at a.j a.sizes.now a.slots.now c.requires c.in-Ok.«record» c.in-Ok.next c.in-Ok.ensures (sym c.is_end.ensures ∙ c.if-is_end.true) c.in_ok-accept_end.ensures

pub returns-in_err-accept_record : goal.returns-in_err-accept_record
returns-in_err-accept_record c =
    let a = c.args in
    let p = err_from_is_err_and c.from_residual-in_err-accept_record.result c.from_residual-in_err-accept_record.ensures.1 in
    rw (p.1, p.2) (turn_fault a.sequenced a.file.now a.at a.j a.sizes.now a.slots.now c.requires c.in-Ok.«record» c.in-Ok.next c.in-Ok.ensures (sym c.is_end.ensures ∙ c.if-is_end.false) _ c.in_err-accept_record.ensures)

pub go_on-place-requires : goal.go_on-place-requires
go_on-place-requires c =
    let a = c.args in
    reached _ _ _ _ _ _ (turn_more a.sequenced a.file.now a.at a.j a.sizes.now a.slots.now c.requires c.in-Ok.«record» c.in-Ok.next c.in-Ok.ensures (sym c.is_end.ensures ∙ c.if-is_end.false) (sym c.in_ok-accept_record.ensures) c.take_record-taken.result _ _ c.take_record-taken.ensures).1

pub returns : goal.returns
returns c =
    let a = c.args in
    let t = turn_more a.sequenced a.file.now a.at a.j a.sizes.now a.slots.now c.requires c.in-Ok.«record» c.in-Ok.next c.in-Ok.ensures (sym c.is_end.ensures ∙ c.if-is_end.false) (sym c.in_ok-accept_record.ensures) c.take_record-taken.result _ _ c.take_record-taken.ensures in
    (omega (arith, t.0, c.go_on-place.ensures.ahead), c.go_on-place.ensures.reached _ t.1)

use Rattle.std.proofs.lemmas.Result.{err_from_is_err_and}
use Rattle.core_ffi.specs.Meters.{storage}
use Rattle.core_ffi.specs.lemmas.Metering.{meter_refused, own_refused, sample_taken, short_refused}
use Rattle.core_ffi.proofs.meters.take_sample.Goals as goal

pub returns-in_err-take-in-Err : goal.returns-in_err-take-in-Err
returns-in_err-take-in-Err c =
    let a = c.args in
    let p = err_from_is_err_and c.from_residual.result c.from_residual.ensures.1 in
    rw (p.1, p.2) (own_refused (storage a.slots.now a.bytes.now a.kept.now) a.slot a.sample _ _ c.new.ensures c.in_err-take-in-Err.ensures)

pub returns-in-Err : goal.returns-in-Err
returns-in-Err c =
    let a = c.args in
    short_refused (storage a.slots.now a.bytes.now a.kept.now) a.slot a.sample _ _ _ c.new.ensures c.in_ok-take-in-Err.ensures c.in-Err.ensures

pub returns-in_err-after : goal.returns-in_err-after
returns-in_err-after c =
    let a = c.args in
    let p = err_from_is_err_and c.from_residual-in_err-after.result c.from_residual-in_err-after.ensures.1 in
    rw (p.1, p.2) (meter_refused (storage a.slots.now a.bytes.now a.kept.now) a.slot a.sample _ c.in-Ok.ensures _ c.in_err-after.ensures)

pub returns : goal.returns
returns c =
    let a = c.args in
    sample_taken (storage a.slots.now a.bytes.now a.kept.now) a.slot a.sample _ c.in-Ok.ensures _ _ _ c.in_ok-after.ensures c.store.ensures.refused c.store.ensures.stored

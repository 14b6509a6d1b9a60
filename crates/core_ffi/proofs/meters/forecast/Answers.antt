use Rattle.std.proofs.lemmas.Result.{err_from_is_err_and}
use Rattle.core_ffi.specs.Meters.{storage}
use Rattle.core_ffi.specs.lemmas.Metering.{mean_short, mean_whole}
use Rattle.core_ffi.proofs.meters.forecast.Goals as goal

pub returns-in_err-meter_in : goal.returns-in_err-meter_in
returns-in_err-meter_in c =
    let a = c.args in
    let p = err_from_is_err_and c.from_residual.result c.from_residual.ensures.1 in
    rw (p.1, p.2) (mean_short (storage a.slots.now a.bytes.now a.kept.now) _ c.in_err-meter_in.ensures)

pub returns : goal.returns
returns c =
    let a = c.args in
    mean_whole (storage a.slots.now a.bytes.now a.kept.now) _ _ c.in_ok-meter_in.ensures c.forecast.ensures.answer

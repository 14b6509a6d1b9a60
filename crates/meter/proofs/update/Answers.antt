use Rattle.std.proofs.Common.{sym, ap, ◌∙◌}
use Rattle.std.proofs.lemmas.Result.{err_from_is_err_and}
use Rattle.refusals.specs.Numbers.{by_number}
use Rattle.meter.proofs.Laws.{stays}
use Rattle.meter.proofs.update.Goals as goal

pub returns-in_err-m : goal.returns-in_err-m
returns-in_err-m c =
    let p = err_from_is_err_and c.from_residual.result c.from_residual.ensures.1 in
    rw (p.1, p.2) (stays c.args.m.now c.args.slot c.args.bytes _ (sym (ap by_number c.in_err-m.was) ∙ c.take.ensures))

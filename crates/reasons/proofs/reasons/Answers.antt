-- `reasons` meets its contract: the refusals in their order, then the text. Assumes nothing.
use Rattle.std.proofs.Common.{rules, sym, ap, ◌∙◌, ◌≡◌, arith}
use Rattle.std.proofs.lemmas.Result.{err_from_is_err_and}
use Rattle.refusals.specs.Numbers.{refusal_number}
use Rattle.job.specs.Input.{job_refusal}
use Rattle.job.specs.Handed.{handed}
use Rattle.job.specs.Theorems.{input_accepted}
use Rattle.reasons.proofs.Answer.{fits, promised, told_put, told_refused}
use Rattle.reasons.proofs.reasons.Goals as goal

pub returns-in_err-accept : goal.returns-in_err-accept
returns-in_err-accept c =
    let p = err_from_is_err_and c.from_residual.result c.from_residual.ensures.1 in
    rw (p.1, p.2) (promised (told_refused _ _ _ (sym (ap refusal_number c.in_err-accept.was) ∙ c.accept.ensures)))

pub put_tight-requires : goal.put_tight-requires
put_tight-requires c = sym c.accept.ensures ∙ ap refusal_number c.in_ok-accept.was

pub returns-then-out-lt94000 : goal.returns-then-out-lt94000
returns-then-out-lt94000 c = promised c.put_tight.ensures

pub put_plan-requires : goal.put_plan-requires
put_plan-requires c =
    let z = sym c.accept.ensures ∙ ap refusal_number c.in_ok-accept.was in
    (input_accepted _ z, omega (arith, fits _ z))

pub returns : goal.returns
returns c =
    let z = sym c.accept.ensures ∙ ap refusal_number c.in_ok-accept.was in
    promised (told_put _ _ z _ _ (omega (arith, fits _ z)) c.put_plan.ensures)

use Rattle.std.proofs.lemmas.Result.{err_from_is_err_and}
use Rattle.job.specs.Handed.{handed}
use Rattle.fetch.specs.Handed.{handed_list}
use Rattle.planfile.proofs.Writer.{job_refused, job_accepted}
use Rattle.planfile.proofs.write_plan.Goals as goal

pub returns-in_err-accept : goal.returns-in_err-accept
returns-in_err-accept c =
    let p = err_from_is_err_and c.from_residual.result c.from_residual.ensures.1 in
    rw (p.1, p.2) (job_refused (handed c.args.job.now) (handed_list c.args.list.now) c.args.out.now _ c.in_err-accept.ensures)

pub returns : goal.returns
returns c = job_accepted (handed c.args.job.now) (handed_list c.args.list.now) c.args.out.now c.in_ok-accept.ensures _ _ c.write_file.ensures.answer c.write_file.ensures.lent

use Rattle.job.specs.Handed.{handed}
use Rattle.whole_files.proofs.Judging.{file_judged}
use Rattle.whole_files.proofs.verdict_job.Goals as goal

pub returns : goal.returns
returns c = file_judged (handed c.args.job.now) c.args.plan.now _ _ _ _ c.in_ok-rows.ensures c.list.ensures c.check.ensures

use Rattle.job.specs.Handed.{handed}
use Rattle.whole_files.proofs.Planning.{plan_written}
use Rattle.whole_files.proofs.plan_job.Goals as goal

pub returns : goal.returns
returns c = plan_written (handed c.args.job.now) _ _ _ _ _ _ c.in_ok-rows.ensures c.list.ensures c.write_plan.ensures

-- The refusals in their order, then the plan, with what document 01 says of it.
use Rattle.std.proofs.Common.{rules}
use Rattle.planner.proofs.Outputs.{short_marks, promise_of}
use Rattle.planner.proofs.plan.Goals as goal

pub returns-then-out-job-clause-promise : goal.returns-then-out-job-clause-promise
returns-then-out-job-clause-promise c = promise_of (short_marks _ _ _ _ _ _ (search rules) c.if-out-job.true)

pub returns-clause-promise : goal.returns-clause-promise
returns-clause-promise c = promise_of c.write_decided.ensures.output

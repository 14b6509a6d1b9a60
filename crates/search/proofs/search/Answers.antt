-- The refusals in their order, then what is found, with what document 02 says of it.
use Rattle.std.proofs.Common.{rules}
use Rattle.search.proofs.Outputs.{promise_of, short_marks}
use Rattle.search.proofs.search.Goals as goal

pub returns-then-out-job-clause-promise : goal.returns-then-out-job-clause-promise
returns-then-out-job-clause-promise c = promise_of (short_marks _ _ _ _ _ _ _ (search rules) c.if-out-job.true)

pub returns-clause-promise : goal.returns-clause-promise
returns-clause-promise c = promise_of c.write_found.ensures.output

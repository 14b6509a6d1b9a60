-- The job's refusal, or the plan's own list in a table and its bytes. Assumes nothing.
use Rattle.std.proofs.lemmas.Result.{err_from_is_err_and}
use Rattle.report.proofs.Called.{answered_refused, made_columns, made_few, made_rows, made_tabled}
use Rattle.report.proofs.plan_table.Goals as goal

pub returns-in_err-n : goal.returns-in_err-n
returns-in_err-n c =
    let p = err_from_is_err_and c.from_residual.result c.from_residual.ensures.1 in
    rw (p.1, p.2) (answered_refused c.plan.ensures.promise.output c.in_err-n.was)

pub add_rows-requires : goal.add_rows-requires
add_rows-requires c = (made_rows (made_columns c.plan.ensures.promise.output c.in_ok-n.was), c.requires)

pub sum_of-requires : goal.sum_of-requires
sum_of-requires c = made_few (made_columns c.plan.ensures.promise.output c.in_ok-n.was)

pub returns : goal.returns
returns c = made_tabled (made_columns c.plan.ensures.promise.output c.in_ok-n.was) c.add_rows.ensures c.sum_of.ensures

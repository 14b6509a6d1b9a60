-- `report::report` meets its contract. Assumes nothing.
use Rattle.std.proofs.Common.{ℕ, ◌-◌, ap, ◌∙◌}
use Rattle.std.proofs.lemmas.Result.{err_from_is_err_and}
use Rattle.report.proofs.Reports.{forecast_few, lines_asked, refused, reported}
use Rattle.report.proofs.report.Goals as goal

pub returns-in_err-spent : goal.returns-in_err-spent
returns-in_err-spent c =
    let p = err_from_is_err_and c.from_residual.result c.from_residual.ensures.1 in
    rw (p.1, p.2) (refused c.plan_table.ensures c.in_err-spent.was)

pub sum_of-requires : goal.sum_of-requires
sum_of-requires c = forecast_few c.plan_table.ensures c.in_ok-spent.was

pub write_lines-requires : goal.write_lines-requires
write_lines-requires c =
    let left = c.saturating_sub-left.ensures ∙ ap (λ (t : ℕ). t - c.in_ok-spent.spent) c.sum_of.ensures in
    lines_asked c.plan_table.ensures c.in_ok-spent.was c.fill_sizes.ensures left

pub returns : goal.returns
returns c =
    let left = c.saturating_sub-left.ensures ∙ ap (λ (t : ℕ). t - c.in_ok-spent.spent) c.sum_of.ensures in
    reported c.plan_table.ensures c.in_ok-spent.was c.fill_sizes.ensures left c.write_lines.ensures

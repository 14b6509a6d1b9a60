-- `test_planner_exhaustive::planned::are_rows` is safe and ends. Assumes nothing.
use Rattle.std.proofs.Common.{◌≤◌}
use Rattle.test_planner_exhaustive.proofs.planned.are_rows.Given as goal

abbrev pub invariant-loop-cell : goal.invariant-loop-cell
invariant-loop-cell l = l.r ≤ l.cell

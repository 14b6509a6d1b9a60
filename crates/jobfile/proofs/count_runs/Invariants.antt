use Rattle.std.specs.Prelude.{◌+◌, ◌≡◌, ◌≤◌, length, drop}
use Rattle.jobfile.specs.Writer.{runs}
use Rattle.jobfile.proofs.count_runs.Given as goal

abbrev pub invariant-loop-i : goal.invariant-loop-i
invariant-loop-i l = record {
  few : l.n ≤ l.i + 1;
  counted : l.n + length (runs (drop l.i l.forecast)) ≡ length (runs l.forecast) + 1;
}

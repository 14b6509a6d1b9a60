use Rattle.std.specs.Prelude.{◌-◌, ◌≤◌, map, length}
use Rattle.jobfile.specs.Writer.{runs, run_record}
use Rattle.jobfile.specs.lemmas.Puts.{Underway}
use Rattle.jobfile.proofs.Queues.{runs_from}
use Rattle.jobfile.proofs.put_runs.Given as goal

abbrev pub invariant-loop-i : goal.invariant-loop-i
invariant-loop-i l = record {
  inside : l.i ≤ length l.forecast;
  puts : Underway l.initial.out l.at (map run_record (runs l.forecast)) (runs_from l.forecast l.i) l.out l.next;
}

abbrev pub decreases-loop-i : goal.decreases-loop-i
decreases-loop-i l = length l.forecast - l.i

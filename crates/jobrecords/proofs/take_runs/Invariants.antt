use Rattle.std.specs.Prelude.{◌-◌, length}
use Rattle.jobrecords.proofs.Likes.{Taking}
use Rattle.jobrecords.proofs.take_runs.Given as goal

abbrev pub invariant-loop-count : goal.invariant-loop-count
invariant-loop-count l = Taking l.file l.from l.j l.initial.slots l.at l.so_far l.last l.slots

abbrev pub decreases-loop-count : goal.decreases-loop-count
decreases-loop-count l = length l.file - l.at

use Rattle.std.specs.Prelude.{◌-◌, length}
use Rattle.jobrecords.proofs.Likes.{Passing}
use Rattle.jobrecords.proofs.take_overrides.Given as goal

abbrev pub invariant-loop-n : goal.invariant-loop-n
invariant-loop-n l = Passing l.file l.from l.j l.n l.at

abbrev pub decreases-loop-n : goal.decreases-loop-n
decreases-loop-n l = length l.file - l.at

-- No number before the place is above m, since bits are only added. Assumes nothing.
use Rattle.std.proofs.Common.{max, drop, ◌≤◌}
use Rattle.job.specs.lemmas.Greatest.{greatest}
use Rattle.job.proofs.joined.Given as goal

abbrev pub invariant-loop-x : goal.invariant-loop-x
invariant-loop-x l = greatest l.s ≤ max l.m (greatest (drop l.x-index l.s))

use Rattle.std.specs.Prelude.{◌+◌, ◌≡◌, drop}
use Rattle.jobfile.specs.lemmas.Runs.{lead}
use Rattle.jobfile.proofs.run_end.Given as goal

abbrev pub invariant-loop-end : goal.invariant-loop-end
invariant-loop-end l = l.from + 1 + lead l.x (drop (l.from + 1) l.forecast) ≡ l.end + lead l.x (drop l.end l.forecast)

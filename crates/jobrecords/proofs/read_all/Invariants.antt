use Rattle.std.specs.Prelude.{◌-◌, length}
use Rattle.jobrecords.specs.lemmas.Reading.{OneStepPre}
use Rattle.jobrecords.proofs.read_all.Given as goal

abbrev pub invariant-loop-more : goal.invariant-loop-more
invariant-loop-more l = OneStepPre l.sequenced l.file l.at l.j l.sizes l.slots

abbrev pub decreases-loop-more : goal.decreases-loop-more
decreases-loop-more l = length l.file - l.at

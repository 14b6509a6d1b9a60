use Rattle.jobrecords.proofs.Likes.{overrides_go}
use Rattle.jobrecords.proofs.go_on.Goals as goal

pub returns-then-j-eq4 : goal.returns-then-j-eq4
returns-then-j-eq4 c = c.take_runs.ensures.goes_on c.args.sequenced

pub returns-then-j-eq3 : goal.returns-then-j-eq3
returns-then-j-eq3 c = let a = c.args in overrides_go a.sequenced c.if-sequenced.true a.file.now a.from a.j a.slots.now c.take_overrides.result c.take_overrides.ensures

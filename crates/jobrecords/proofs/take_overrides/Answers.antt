use Rattle.jobrecords.proofs.Likes.{overrides_more}
use Rattle.jobrecords.proofs.take_overrides.Goals as goal

pub loop-n-preserved : goal.loop-n-preserved
loop-n-preserved c = let a = c.args in let l = c.loop-n in overrides_more a.file.now a.from a.j l.n l.at l.invariant c.override_at.result c.override_at.ensures c.loop-n-test.true

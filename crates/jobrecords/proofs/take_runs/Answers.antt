use Rattle.jobrecords.proofs.Likes.{runs_more}
use Rattle.jobrecords.proofs.take_runs.Goals as goal

pub loop-count-preserved : goal.loop-count-preserved
loop-count-preserved c =
    let a = c.args in
    let l = c.loop-count in
    runs_more a.file.now a.from a.j a.slots.now l.at l.so_far l.last l.slots l.invariant c.in-Some.count c.in-Some.bytes c.in-Some.ensures c.put_run.new.slots c.put_run.ensures

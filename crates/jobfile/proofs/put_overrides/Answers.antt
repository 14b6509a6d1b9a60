use Rattle.jobfile.proofs.Queues.{override_fits, override_more}
use Rattle.jobfile.proofs.put_overrides.Goals as goal

pub put_override-next-requires : goal.put_override-next-requires
put_override-next-requires c = let a = c.args in let o = a.sz.now in let l = c.loop-i in override_fits a.out.now a.at o.chunks.now o.layers.now o.bytes.now c.requires.whole_sizes c.requires.room l.i l.out l.next l.invariant c.loop-i-test.true

pub loop-i-preserved : goal.loop-i-preserved
loop-i-preserved c = let a = c.args in let o = a.sz.now in let l = c.loop-i in override_more a.out.now a.at o.chunks.now o.layers.now o.bytes.now c.requires.whole_sizes c.requires.room l.i l.out l.next l.invariant c.loop-i-test.true _ _ c.put_override-next.ensures

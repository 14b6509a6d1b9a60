use Rattle.jobfile.proofs.Queues.{layer_fits, layer_more}
use Rattle.jobfile.proofs.put_layers.Goals as goal

pub put_layer-next-requires : goal.put_layer-next-requires
put_layer-next-requires c = let a = c.args in let l = c.loop-size in layer_fits a.out.now a.at a.sizes.now c.requires l.size-index l.out l.next l.invariant c.loop-size-test.true

pub loop-size-preserved : goal.loop-size-preserved
loop-size-preserved c = let a = c.args in let l = c.loop-size in layer_more a.out.now a.at a.sizes.now c.requires l.size-index l.out l.next l.invariant c.loop-size-test.true _ _ c.put_layer-next.ensures

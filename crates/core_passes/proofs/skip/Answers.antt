-- `skip` meets its contract.
use Rattle.core_passes.specs.lemmas.Fronts.{skip_post, skip_settle_pre}
use Rattle.core_passes.proofs.skip.Goals as goal

pub settle-requires : goal.settle-requires
settle-requires c = skip_settle_pre c.copy_set.ensures c.requires

pub returns : goal.returns
returns c = skip_post c.copy_set.ensures c.settle.ensures

-- `is_hopeless` meets its contract.
use Rattle.core_front.specs.lemmas.Tests.{hopeless_asked, hopeless_says, part_is}
use Rattle.core_front.proofs.is_hopeless.Goals as goal

pub is_hopeless-requires : goal.is_hopeless-requires
is_hopeless-requires c = let a = c.args in hopeless_asked c.requires _ (part_is a.sets.now a.n c.from.result c.from.ensures)

pub returns : goal.returns
returns c = let a = c.args in hopeless_says _ c.is_hopeless.result (part_is a.sets.now a.n c.from.result c.from.ensures) c.is_hopeless.ensures

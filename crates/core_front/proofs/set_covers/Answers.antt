-- `set_covers` meets its contract.
use Rattle.core_front.specs.lemmas.Tests.{covers_says, part_is}
use Rattle.core_front.proofs.set_covers.Goals as goal

pub returns : goal.returns
returns c =
    let a = c.args in
    covers_says _ _ c.covers.result (part_is a.sets.now a.a c.from.result c.from.ensures) (part_is a.sets.now a.b c.from-2.result c.from-2.ensures) c.covers.ensures

-- `is_covered` meets its contract.
use Rattle.core_front.specs.lemmas.Tests.{covered_by}
use Rattle.core_front.proofs.is_covered.Goals as goal

pub returns-then-set_covers : goal.returns-then-set_covers
returns-then-set_covers c = covered_by c.loop-a.a c.set_covers.result c.loop-a-test.true c.if-set_covers.true c.set_covers.ensures

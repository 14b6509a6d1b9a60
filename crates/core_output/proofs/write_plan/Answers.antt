-- `write_plan` meets its contract.
use mathlib.Core.Path.{refl}
use Rattle.core_output.proofs.Writing.{ample, laid_ample}
use Rattle.core_output.proofs.write_plan.Goals as goal

pub fill-made-requires : goal.fill-made-requires
fill-made-requires c = ample c.requires c.all_at_least.ensures c.if-all_at_least.true

pub returns-then-all_at_least : goal.returns-then-all_at_least
returns-then-all_at_least c = laid_ample c.requires c.all_at_least.ensures c.if-all_at_least.true c.fill-made.ensures _ refl refl refl

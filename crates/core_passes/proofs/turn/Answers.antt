-- `turn` meets its contract.
use Prim.Native.Nat.{◌+◌}
use native.Mathlib.Numerals.{add-one}
use Rattle.core_passes.specs.lemmas.Passing.{turn_copy_pre, turn_post, turn_step_pre}
use Rattle.core_passes.proofs.turn.Goals as goal

pub step-made-requires : goal.step-made-requires
step-made-requires c = turn_step_pre c.requires (c.args.i + 1) (add-one c.args.i)

pub copy_front-requires : goal.copy_front-requires
copy_front-requires c = turn_copy_pre c.requires (c.args.i + 1) (add-one c.args.i) c.step-made.ensures

pub returns : goal.returns
returns c = turn_post c.requires (c.args.i + 1) (add-one c.args.i) c.step-made.ensures c.copy_front.ensures

use native.Mathlib.Omega.{arith}
use mathlib.Core.Path.{◌≡◌, refl}
use mathlib.Core.Bool.{Bool, true, false, cond}
use mir.Val.{bool_byte}
use Rattle.core_replan_input.proofs.Flags.{flagged_more}
use Rattle.core_replan_input.proofs.set_flags.Goals as goal

byte_is : (b : Bool) → bool_byte b ≡ cond b 1 0
byte_is true = refl
byte_is false = refl

pub loop-i-preserved : goal.loop-i-preserved
loop-i-preserved c = flagged_more c.loop-i.invariant (omega arith) (omega arith) (omega arith) c.see_chunk-seen.ensures (byte_is _) c.none_above-few.ensures

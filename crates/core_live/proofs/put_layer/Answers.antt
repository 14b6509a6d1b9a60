use mathlib.Core.Path.{◌∙◌}
use native.Mathlib.Omega.{arith}
use Rattle.core_live.proofs.Laws.{byte_is}
use Rattle.core_live.proofs.Putting.{putting_more}
use Rattle.core_live.proofs.put_layer.Goals as goal

pub loop-i-preserved : goal.loop-i-preserved
loop-i-preserved c =
    putting_more _ _ _ _ _ _ _ c.loop-i.invariant (omega arith) (omega arith) (omega arith) c.size_in-b.ensures (byte_is _ ∙ rw c.is_piece.ensures)

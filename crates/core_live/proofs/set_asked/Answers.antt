use Prim.Native.Nat.{◌+◌}
use mathlib.Core.Path.{◌∙◌, ap}
use native.Mathlib.Omega.{arith}
use Rattle.theory_basics.specs.lemmas.Ranges.{bit_le}
use Rattle.core_live.proofs.Asking.{asking_more, held_few}
use Rattle.core_live.proofs.Laws.{byte_is, byte_says}
use Rattle.core_live.proofs.set_asked.Goals as goal

pub overflow_add-held : goal.overflow_add-held
overflow_add-held c = omega (arith, byte_is c.is_fresh-fresh.result, bit_le c.is_fresh-fresh.result, held_few _ _ _ _ _ _ _ c.loop-i.invariant, c.requires.few)

pub loop-i-preserved : goal.loop-i-preserved
loop-i-preserved c =
    asking_more _ _ _ _ _ _ _ c.loop-i.invariant (omega (arith, c.requires.few)) (omega arith) _
    (ap (λ n. c.loop-i.held + n) (byte_is _) ∙ rw (c.is_fresh-fresh.ensures, c.in_line-line.ensures))
    (byte_says _ ∙ rw (c.is_fresh-fresh.ensures, c.in_line-line.ensures, c.held_most-most.ensures))

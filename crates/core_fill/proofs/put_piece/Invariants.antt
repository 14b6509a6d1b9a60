-- `put_piece` meets its contract: left is still to place, from slot t on.
use Prim.Native.Nat.{◌-◌}
use Rattle.core_fill.specs.lemmas.Filling.{last_of}
use Rattle.core_fill.proofs.Pieces.{Laying}
use Rattle.core_fill.proofs.put_piece.Given as goal

abbrev pub invariant-loop-c : goal.invariant-loop-c
invariant-loop-c l = Laying l.start l.part l.chunk l.layer l.size (record { slot = l.initial.t; left = l.initial.c; rows = l.initial.n }) l.initial.slots l.initial.chunks l.initial.layers l.initial.bytes l.slots l.chunks l.layers l.bytes l.t l.c l.n l.left

abbrev pub decreases-loop-c : goal.decreases-loop-c
decreases-loop-c l = last_of l.start l.part - l.t

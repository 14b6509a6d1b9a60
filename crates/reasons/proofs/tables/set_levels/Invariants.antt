-- `set_levels` meets its contract: what is left from here gives the whole. Assumes nothing.
use Prim.Native.Nat.{◌-◌}
use Rattle.reasons.proofs.Spreads.{Spreading}
use Rattle.reasons.proofs.tables.set_levels.Given as goal

abbrev pub invariant-loop-q : goal.invariant-loop-q
invariant-loop-q l = Spreading l.ids l.mark l.first l.initial.levels l.levels l.q

-- `spread` meets its contract: what stands from place q on, over what is stored, gives every mark.
use Rattle.core_output.proofs.Spreads.{Spreading}
use Rattle.core_output.proofs.spread.Given as goal

abbrev pub invariant-loop-q : goal.invariant-loop-q
invariant-loop-q l = Spreading l.ids l.mark l.first l.whole l.count l.initial.marks l.marks l.q

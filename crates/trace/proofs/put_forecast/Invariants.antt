-- `trace::put_forecast` meets its contract. Assumes nothing.
use Rattle.trace.proofs.Counts.{Putting}
use Rattle.trace.proofs.put_forecast.Given as goal

abbrev pub invariant-loop-k : goal.invariant-loop-k
invariant-loop-k l = Putting l.counts l.slots l.initial.out l.out l.k

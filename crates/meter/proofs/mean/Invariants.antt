-- `meter::mean` meets its contract. The loop's invariant: the shares of the samples so far are
-- summed, and none of them is 0.
use Rattle.meter.proofs.Sums.{Summed}
use Rattle.meter.proofs.mean.Given as goal

abbrev pub invariant-loop-bytes : goal.invariant-loop-bytes
invariant-loop-bytes l = Summed l.fn.m l.sum l.bytes-index

-- `trace::count_lines` meets its contract. Assumes nothing.
use Prim.Native.Nat.{◌-◌}
use lib.ListN.{length}
use Rattle.trace.proofs.Scans.{Scanning}
use Rattle.trace.proofs.count_lines.Given as goal

abbrev pub invariant-loop-i : goal.invariant-loop-i
invariant-loop-i l = Scanning l.trace l.initial.counts l.counts l.i l.t

abbrev pub decreases-loop-i : goal.decreases-loop-i
decreases-loop-i l = length l.trace - l.i

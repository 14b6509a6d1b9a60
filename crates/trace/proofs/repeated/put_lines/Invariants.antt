-- `trace::repeated::put_lines` meets its contract. Assumes nothing.
use Prim.Native.Nat.{◌-◌}
use Rattle.theory_basics.specs.Text.{digits}
use Rattle.trace.proofs.Repeats.{Doubling}
use Rattle.trace.proofs.repeated.put_lines.Given as goal

abbrev pub invariant-loop-made : goal.invariant-loop-made
invariant-loop-made l = Doubling l.initial.out l.at (digits l.time) l.count l.out l.next l.made

abbrev pub decreases-loop-made : goal.decreases-loop-made
decreases-loop-made l = l.count - l.made

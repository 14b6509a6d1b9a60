-- `trace::count_line` meets its contract. Assumes nothing.
use mathlib.Core.Path.{sym}
use native.Mathlib.Omega.{arith}
use Rattle.trace.proofs.Counts.{bump_more, bump_past}
use Rattle.trace.proofs.count_line.Goals as goal

pub returns-then-k-lt-SLOTS : goal.returns-then-k-lt-SLOTS
returns-then-k-lt-SLOTS c = let a = c.args in rw c.min.ensures (sym (bump_more a.counts.now a.time))

pub returns-else-k-lt-SLOTS : goal.returns-else-k-lt-SLOTS
returns-else-k-lt-SLOTS c = let a = c.args in sym (bump_past a.counts.now a.time (omega arith))

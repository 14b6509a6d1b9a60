-- `set_tables` meets its contract: the tables hold the kept chunks behind k. Assumes nothing.
use Prim.Native.Nat.{◌-◌}
use Rattle.core_reasons.proofs.SetTables.{Setting}
use Rattle.core_reasons.proofs.stretch.set_tables.Given as goal

abbrev pub invariant-loop-k : goal.invariant-loop-k
invariant-loop-k l = Setting l.p l.sums l.levels l.i l.n l.cap l.dues l.bytes l.first (l.k - 1)

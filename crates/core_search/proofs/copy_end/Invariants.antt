-- `copy_end` meets its contract: what stands from place p on is copied.
use Rattle.std.proofs.Common.{◌≡◌, ◌≤◌, drop}
use Rattle.core_search.proofs.copy_end.Given as goal

abbrev pub invariant-loop-p : goal.invariant-loop-p
invariant-loop-p l = (l.k ≤ l.p) × (drop l.p l.to ≡ drop l.p l.from)

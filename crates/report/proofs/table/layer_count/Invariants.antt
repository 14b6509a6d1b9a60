-- `report::layer_count` meets its contract. Assumes nothing.
use Prim.Native.Nat.{◌≤◌}
use mathlib.Core.Path.{◌≡◌}
use Rattle.report.specs.lemmas.Tables.{count_by}
use Rattle.report.proofs.table.layer_count.Given as goal

abbrev pub invariant-loop-i : goal.invariant-loop-i
invariant-loop-i l = (l.i ≤ l.count) × (l.carry ≡ count_by l.sizes l.table l.i l.n)

-- `report::switch_sum` meets its contract. Assumes nothing.
use Prim.Native.Nat.{◌≤◌}
use mathlib.Core.Path.{◌≡◌}
use Rattle.report.specs.lemmas.Tables.{bytes_to, switch_by, last_of}
use Rattle.report.proofs.table.switch_sum.Given as goal

abbrev pub invariant-loop-i : goal.invariant-loop-i
invariant-loop-i l =
    (l.i ≤ l.count) × (l.last ≡ last_of (bytes_to l.sizes l.table l.depth l.i)) × (l.sum ≡ switch_by l.sizes l.table l.depth l.i)

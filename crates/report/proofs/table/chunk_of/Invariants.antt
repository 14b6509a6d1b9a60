-- `report::chunk_of` meets its contract. Assumes nothing.
use Prim.Native.Nat.{◌≤◌}
use mathlib.Core.Path.{◌≡◌}
use Rattle.report.specs.lemmas.Tables.{layers_by, bytes_by}
use Rattle.report.proofs.table.chunk_of.Given as goal

abbrev pub invariant-loop-n : goal.invariant-loop-n
invariant-loop-n l =
    (l.n ≤ l.depth) × (l.layers ≡ layers_by l.sizes l.table l.n l.i) × (l.bytes ≡ bytes_by l.sizes l.table l.n l.i)

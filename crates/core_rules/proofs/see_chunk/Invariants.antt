-- The layers of a chunk: of those below n the mark byte and rules 2 and 3 are known, and whether the
-- last of them passes.
use mathlib.Core.Path.{◌≡◌}
use Rattle.core_sizes.specs.Table.{table_at}
use Rattle.core_rules.specs.lemmas.Tables.{SeeChunkPost, carried_by, under}
use Rattle.core_rules.proofs.see_chunk.Given as goal

abbrev pub invariant-loop-n : goal.invariant-loop-n
invariant-loop-n l =
    SeeChunkPost (table_at l.table) l.layersum l.n l.i (record { mark = l.mark; whole = l.whole; lower = l.lower })
    × (l.below ≡ under (carried_by (table_at l.table) l.layersum l.i) l.n)

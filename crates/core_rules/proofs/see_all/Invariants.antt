-- Rules 2, 3 and 7 of the first i chunks.
use Rattle.core_sizes.specs.Table.{table_at}
use Rattle.core_rules.specs.lemmas.Tables.{SeeAllPost}
use Rattle.core_rules.proofs.see_all.Given as goal

abbrev pub invariant-loop-i : goal.invariant-loop-i
invariant-loop-i l = SeeAllPost (table_at l.table) l.layersum l.marks l.depth l.i (record { whole = l.whole; lower = l.lower; said = l.said })

-- The chunks up to i have their flags and marks.
use Rattle.core_sizes.specs.Table.{table_at}
use Rattle.core_replan_input.specs.lemmas.Gather.{SetFlagsPost}
use Rattle.core_replan_input.proofs.set_flags.Given as goal

abbrev pub invariant-loop-i : goal.invariant-loop-i
invariant-loop-i l = SetFlagsPost (table_at l.table) l.sums l.first l.depth l.i (record { lower = l.lower; few = l.few }) l.begun l.whole

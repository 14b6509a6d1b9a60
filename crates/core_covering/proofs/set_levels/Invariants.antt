-- `set_levels` meets its contract: the tables hold the levels of the chunks behind k.
use Rattle.core_sizes.specs.Table.{table_at}
use Rattle.core_covering.proofs.Levelling.{Levelling}
use Rattle.core_covering.proofs.set_levels.Given as goal

abbrev pub invariant-loop-i : goal.invariant-loop-i
invariant-loop-i l =
    Levelling l.p (table_at l.table) l.after l.ends l.opens l.bases l.smallest l.least l.i

-- `report::add_rows` meets its contract. Assumes nothing.
use Rattle.report.proofs.Laws.{Summing}
use Rattle.report.proofs.table.add_rows.Given as goal

abbrev pub invariant-loop-i : goal.invariant-loop-i
invariant-loop-i l = Summing l.slots l.chunks l.layers l.bytes l.table l.i

-- `report::layer_counts` meets its contract. Assumes nothing.
use Rattle.core_text.specs.lemmas.Texts.{Putting}
use Rattle.report.proofs.Pieces.{count_piece}
use Rattle.report.proofs.layer_counts.Given as goal

abbrev pub invariant-loop-n : goal.invariant-loop-n
invariant-loop-n l = Putting (count_piece l.sizes l.table l.count) l.depth l.initial.out l.at l.n l.out l.next

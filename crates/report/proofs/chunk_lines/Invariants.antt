-- `report::chunk_lines` meets its contract. Assumes nothing.
use Rattle.core_text.specs.lemmas.Texts.{Putting}
use Rattle.report.proofs.Pieces.{chunk_piece}
use Rattle.report.proofs.chunk_lines.Given as goal

abbrev pub invariant-loop-k : goal.invariant-loop-k
invariant-loop-k l = Putting (chunk_piece l.sizes l.table l.depth) l.count l.initial.out l.at l.k l.out l.next

-- `set_dues` meets its contract.
use Rattle.core_search.specs.lemmas.Tables.{DueTable}
use Rattle.core_search.proofs.set_dues.Given as goal

abbrev pub invariant-loop-n : goal.invariant-loop-n
invariant-loop-n l = DueTable l.p l.n l.dues

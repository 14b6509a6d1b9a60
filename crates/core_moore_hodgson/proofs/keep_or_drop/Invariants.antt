-- `keep_or_drop` meets its contract: the table shows what is kept after k chunks, and the sum has
-- their bytes. Assumes nothing.
use Rattle.core_sizes.specs.Table.{table_at}
use Rattle.core_moore_hodgson.proofs.Keeping.{Keeping}
use Rattle.core_moore_hodgson.proofs.keep_or_drop.Given as goal

abbrev pub invariant-loop-k : goal.invariant-loop-k
invariant-loop-k l = Keeping l.p (λ k. table_at l.table k 0) l.after l.tree l.sum l.k

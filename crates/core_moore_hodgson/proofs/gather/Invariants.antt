-- `gather` meets its contract: the tables hold the chunks behind i whose leaf is not 0. Assumes
-- nothing.
use Rattle.core_moore_hodgson.proofs.Gathers.{Gathering}
use Rattle.core_moore_hodgson.proofs.gather.Given as goal

abbrev pub invariant-loop-i : goal.invariant-loop-i
invariant-loop-i l = Gathering l.p l.tree l.ids l.dues l.bytes l.first l.i

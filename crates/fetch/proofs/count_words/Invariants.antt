-- The counts of the words so far.
use Rattle.fetch.proofs.Walk.{ByWords}
use Rattle.fetch.proofs.count_words.Given as goal

abbrev pub invariant-loop-k : goal.invariant-loop-k
invariant-loop-k l = ByWords l.marks l.n l.sum l.k

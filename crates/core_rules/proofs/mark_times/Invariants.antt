-- The tables of begins and ends, for the first i chunks.
use Rattle.core_rules.specs.lemmas.Tables.{MarkTimesPost}
use Rattle.core_rules.proofs.mark_times.Given as goal

abbrev pub invariant-loop-i : goal.invariant-loop-i
invariant-loop-i l = MarkTimesPost l.p l.first l.i l.begins l.ends

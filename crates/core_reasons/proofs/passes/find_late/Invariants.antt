-- `find_late` meets its contract: what is left of the pass forward from q gives the whole pass.
-- Assumes nothing.
use Rattle.core_reasons.proofs.PassForward.{Seeking}
use Rattle.core_reasons.proofs.passes.find_late.Given as goal

abbrev pub invariant-loop-q : goal.invariant-loop-q
invariant-loop-q l = Seeking l.after l.dues l.ready l.bytes l.first l.used l.q

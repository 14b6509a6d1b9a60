-- `find_begin` meets its contract: what is left of the pass back from k gives the whole pass.
-- Assumes nothing.
use Rattle.core_reasons.proofs.PassBack.{Backing}
use Rattle.core_reasons.proofs.passes.find_begin.Given as goal

abbrev pub invariant-loop-h : goal.invariant-loop-h
invariant-loop-h l = Backing l.after l.ready l.bytes l.first l.most l.m l.sum l.h

-- `waits_covered` meets its contract: from place q on what u waits for is covered.
use Rattle.core_covering.proofs.Covering.{CoveredFrom}
use Rattle.core_covering.proofs.waits_covered.Given as goal

abbrev pub invariant-loop-q : goal.invariant-loop-q
invariant-loop-q l = CoveredFrom l.held l.smallest l.opens l.u l.s l.used_s l.lead l.q

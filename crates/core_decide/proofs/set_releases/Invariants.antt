-- `set_releases` meets its contract: up to q the table holds the releases.
use Rattle.core_decide.proofs.Rooms.{Releasing}
use Rattle.core_decide.proofs.set_releases.Given as goal

abbrev pub invariant-loop-q : goal.invariant-loop-q
invariant-loop-q l = Releasing l.held l.first l.dues l.ready l.q

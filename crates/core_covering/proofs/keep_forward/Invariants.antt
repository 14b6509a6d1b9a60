-- `keep_forward` meets its contract: after chunk i the kept ones stand at the front of ids.
use Rattle.core_covering.proofs.Forwarding.{Forwarding}
use Rattle.core_covering.proofs.keep_forward.Given as goal

abbrev pub invariant-loop-i : goal.invariant-loop-i
invariant-loop-i l = Forwarding l.count l.held l.ends l.opens l.bases l.i l.kept l.used l.last l.ids

-- `keep_begun` meets its contract: from q on the begun chunks are settled.
use Rattle.core_replan_decide.proofs.Begun.{Walking}
use Rattle.core_sizes.specs.Table.{table_at}
use Rattle.core_replan_decide.proofs.keep_begun.Given as goal

abbrev pub invariant-loop-q : goal.invariant-loop-q
invariant-loop-q l =
    Walking l.p (table_at l.left) l.whole l.after l.front l.head l.need l.from l.initial.ids l.initial.dues l.initial.bytes l.initial.mark l.ids l.dues l.bytes l.mark l.used l.first l.q

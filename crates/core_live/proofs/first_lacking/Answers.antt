use mathlib.Core.Path.{◌≡◌, sym, ◌∙◌}
use native.Mathlib.Omega.{arith}
use Rattle.theory_basics.specs.lemmas.Tests.{true_T}
use Rattle.core_sizes.specs.Table.{table_at}
use Rattle.core_live.specs.lemmas.ByTables.{lacks_at}
use Rattle.core_live.proofs.Laws.{first_here, first_none}
use Rattle.core_live.proofs.first_lacking.Goals as goal

pub returns-then-lacks : goal.returns-then-lacks
returns-then-lacks c =
    let a = c.args in
    first_here (lacks_at a.p a.start (table_at a.left.now) a.begun.now a.last) c.loop-i.i a.p.chunks c.loop-i.invariant
    (true_T _ (sym c.lacks.ensures ∙ c.if-lacks.true)) (omega arith)

pub returns : goal.returns
returns c =
    let a = c.args in
    let l = c.loop-i in
    let e : l.i ≡ a.p.chunks = omega arith in
    first_none (lacks_at a.p a.start (table_at a.left.now) a.begun.now a.last) a.p.chunks (rw e at l.invariant)

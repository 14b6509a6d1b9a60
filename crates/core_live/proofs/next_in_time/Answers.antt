use Prim.Native.Nat.{◌+◌}
use mathlib.Core.Path.{◌≡◌, sym, ◌∙◌, ap}
use native.Mathlib.Omega.{arith}
use Rattle.theory_basics.specs.lemmas.Tests.{true_T}
use Rattle.core_sizes.specs.Table.{table_at}
use Rattle.core_live.specs.lemmas.ByTables.{could_come_at}
use Rattle.core_live.proofs.Laws.{byte_is, first_here, first_none}
use Rattle.core_live.proofs.Passing.{here_is, looking_more}
use Rattle.core_live.proofs.next_in_time.Goals as goal

pub returns-then-seen-most : goal.returns-then-seen-most
returns-then-seen-most c =
    let a = c.args in
    let l = c.loop-i in
    let here = here_is _ _ _ _ _ _ _ l.invariant c.is_open.ensures c.lacks-lacking.ensures c.in_time-timely.ensures c.held_most-most.ensures in
    first_here (could_come_at a.p a.start a.rate (table_at a.left.now) a.begun.now a.last a.k) l.i a.p.chunks l.invariant.clear (true_T _ (sym here ∙ c.if-seen-most.true)) (omega arith)

pub loop-i-preserved : goal.loop-i-preserved
loop-i-preserved c =
    let l = c.loop-i in
    let here = here_is _ _ _ _ _ _ _ l.invariant c.is_open.ensures c.lacks-lacking.ensures c.in_time-timely.ensures c.held_most-most.ensures in
    looking_more _ _ _ _ _ _ _ l.invariant (rw c.is_open.ensures (ap (λ n. l.seen + n) (byte_is _))) (sym here ∙ c.if-seen-most.false)

pub returns : goal.returns
returns c =
    let a = c.args in
    let l = c.loop-i in
    let e : l.i ≡ a.p.chunks = omega arith in
    first_none (could_come_at a.p a.start a.rate (table_at a.left.now) a.begun.now a.last a.k) a.p.chunks (rw e at l.invariant.clear)

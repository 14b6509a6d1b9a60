use Prim.Native.Nat.{◌+◌, ◌-◌}
use mathlib.Core.Path.{◌≡◌, ◌∙◌}
use native.Mathlib.Omega.{arith}
use Rattle.core_sizes.specs.Table.{table_at}
use Rattle.core_covering.proofs.Levelling.{levelling_more}
use Rattle.core_covering.proofs.set_levels.Goals as goal

pub loop-i-preserved : goal.loop-i-preserved
loop-i-preserved c =
    let a = c.args in
    let l = c.loop-i in
    let k : l.i - 1 + 1 ≡ l.i = omega arith in
    rw (c.from-c.ensures, k)
    (levelling_more a.p (table_at a.table.now) a.after.now l.ends l.opens l.bases l.smallest
    (omega arith, omega arith, omega arith, omega arith) l.least l.i l.invariant
    c.loop-i-test.true c.due_slot-d.result _ _ _ _
    (rw k at c.due_slot-d.ensures)
    (rw k at (c.from-base.ensures ∙ c.size_in.ensures)) c.saturating_sub.ensures
    c.saturating_sub-in-loop-i.ensures c.min-least.ensures)

use mathlib.Core.Path.{◌≡◌}
use native.Mathlib.Omega.{arith}
use Rattle.reasons.proofs.Spreads.{summed_first, summed_next, sums_most}
use Rattle.reasons.proofs.tables.sum_sizes.Goals as goal
use Rattle.reasons.proofs.tables.sum_sizes.Goals.{then-i-eq0, else-i-eq0}

pub overflow_add-sums : goal.overflow_add-sums
overflow_add-sums c = let a = c.args in let o = c.requires in let l = c.loop-i in omega (arith, sums_most a.table.now l.sums l.i l.invariant.0 (omega arith) o.0 (omega arith), o.0 l.i (omega arith))

pub loop-i-preserved : goal.loop-i-preserved
loop-i-preserved c =
    let table = c.args.table.now in
    let l = c.loop-i in (
      elim c.if-i-eq0.branch [
        | then-i-eq0 w ↦ rw w.sums-is (summed_first table l.sums l.i l.invariant.0 (omega arith) (omega arith))
        | else-i-eq0 w ↦ rw w.sums-is (summed_next table l.sums l.i l.invariant.0 (omega arith) (λ e. omega arith))
      ],
      omega arith,
    )

pub returns : goal.returns
returns c = let a = c.args in let o = c.requires in let l = c.loop-i in let e : l.i ≡ 2000 = omega (arith, l.invariant.1) in rw e at l.invariant.0

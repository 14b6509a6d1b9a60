use mathlib.Core.Path.{◌≡◌}
use native.Mathlib.Omega.{arith}
use native.Mathlib.Numerals.{add-one}
use lib.ListN.{length, get_or}
use Rattle.theory_basics.specs.lemmas.Ranges.{sum_most}
use Rattle.report.proofs.table.sum_of.Goals as goal

pub overflow_add-total : goal.overflow_add-total
overflow_add-total c =
    let s = c.args.s.now in
    omega (arith, c.from-total.ensures, sum_most (λ k. get_or s k 0) 4294967295 c.loop-bytes.bytes-index (λ k. omega (arith, c.type_inv.s k)))

pub loop-bytes-preserved : goal.loop-bytes-preserved
loop-bytes-preserved c = rw add-one (omega (arith, c.from-total.ensures, c.loop-bytes.invariant))

pub returns : goal.returns
returns c =
    let e : c.loop-bytes.bytes-index ≡ length c.args.s.now = omega arith in
    rw e at c.loop-bytes.invariant

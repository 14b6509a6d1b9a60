use Rattle.std.proofs.Common.{◌≡◌, max, get_or, drop, drop-cons, add-one, ◌+◌, arith}
use lib.Bits.{and_le_l, and_le_r, or_add_and}
use Rattle.job.specs.lemmas.Greatest.{greatest, greatest_cons}
use Rattle.job.proofs.joined.Goals as goal

pub loop-x-preserved : goal.loop-x-preserved
loop-x-preserved c =
    let s = c.args.s.now in
    let l = c.loop-x in
    let x = get_or s l.x-index 0 in
    let e : greatest (drop l.x-index s) ≡ max x (greatest (drop (l.x-index + 1) s)) = rw (drop-cons s l.x-index 0 c.loop-x-test.true, add-one, greatest_cons) in
    omega (arith, l.invariant, or_add_and l.m x, and_le_l l.m x, and_le_r l.m x)

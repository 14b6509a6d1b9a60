use Prim.Native.Nat.{◌+◌, ◌-◌}
use mathlib.Core.Path.{◌≡◌, sym}
use native.Mathlib.Omega.{arith}
use lib.ListN.{length, get_or}
use lib.Dec.{leb}
use borrow.Author.Tests.{lt-leb}
use Rattle.theory_basics.specs.lemmas.Tests.{all_to_not}
use Rattle.core_rules.proofs.within.Goals as goal

pub returns-then-most-slotsum : goal.returns-then-most-slotsum
returns-then-most-slotsum c =
    let f = c.args.forecast.now in
    let s = c.args.slotsum.now in
    let t = c.loop-t.t in
    let back : t + 1 - 1 ≡ t = omega arith in
    sym (all_to_not t (length f) (λ u. leb (get_or s u 0) (get_or f (u - 1) 0)) c.loop-t-test.true (rw back (lt-leb _ _ c.if-most-slotsum.true)))

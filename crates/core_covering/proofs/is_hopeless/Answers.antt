-- `is_hopeless` meets its contract.
use Prim.Native.Nat.{◌-◌}
use native.Mathlib.Omega.{arith}
use lib.ListN.{length}
use Rattle.core_covering.specs.lemmas.Levels.{least_small, next_small}
use Rattle.core_covering.proofs.is_hopeless.Goals as goal

pub overflow_add-result : goal.overflow_add-result
overflow_add-result c =
    let o = c.requires.holds in
    let a = c.args in
    let n = c.next_from.ensures _ o.set_in o.used_is in
    let r = o.row_is.is (a.target - length a.set.now) (omega (arith, o.target_in)) in
    omega (arith, n, r, next_small _ _ _ _ o.set_in, least_small _ o.set_in.accepted o.set_in.chunk (a.target - length a.set.now))

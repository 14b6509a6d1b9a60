use mathlib.Core.Path.{◌≡◌, sym, ◌∙◌, subst}
use native.Mathlib.Omega.{arith}
use lib.ListN.{drop, drop_of_length-le}
use Rattle.core_search.proofs.copy_end.Goals as goal

pub loop-p-init : goal.loop-p-init
loop-p-init c =
    let a = c.args in
    (c.requires, drop_of_length-le a.to.now {i = 500} (omega arith) ∙ sym (drop_of_length-le a.from.now {i = 500} (omega arith)))

pub returns : goal.returns
returns c = let v = c.loop-p.invariant in subst (λ p. drop p c.loop-p.to ≡ drop p c.args.from.now) (omega (arith, v.0, c.loop-p-test.false)) v.1

use Prim.Native.Nat.{◌+◌, ◌-◌}
use mathlib.Core.Path.{◌≡◌, refl}
use native.Mathlib.Omega.{arith}
use Rattle.core_passes.specs.lemmas.Passing.{looked_found, looking_lower, looking_pass_pre, looking_start}
use Rattle.core_passes.proofs.look.Goals as goal

pub loop-below-init : goal.loop-below-init
loop-below-init c = looking_start c.requires

pub pass-front-requires : goal.pass-front-requires
pass-front-requires c =
    let l = c.loop-below in
    let e : l.below - 1 + 1 ≡ l.below = omega arith in
    rw e (looking_pass_pre l.invariant c.requires)

pub returns-then-is_reached : goal.returns-then-is_reached
returns-then-is_reached c =
    let l = c.loop-below in
    let e : l.below - 1 + 1 ≡ l.below = omega arith in
    looked_found l.invariant c.requires _ _ (rw e at c.pass-front.ensures) (c.largest_set-place.ensures.one (c.is_reached.ensures.found c.if-is_reached.true).0) c.from-count.ensures refl

pub loop-below-preserved-then-front : goal.loop-below-preserved-then-front
loop-below-preserved-then-front c =
    let l = c.loop-below in
    let e : l.below - 1 + 1 ≡ l.below = omega arith in
    looking_lower l.invariant (rw e at c.pass-front.ensures) e c.largest_set-place.ensures
    (λ h. omega (arith, c.is_reached.ensures.none c.if-is_reached.false h, c.from-count.ensures)) c.if-front.true refl

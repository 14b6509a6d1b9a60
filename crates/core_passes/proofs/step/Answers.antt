use mathlib.Core.Bool.{true}
use mathlib.Core.Path.{◌≡◌}
use native.Mathlib.Omega.{arith}
use Rattle.core_passes.specs.lemmas.Fronts.{stepping_end, stepping_keep_pre, stepping_more}
use Rattle.core_passes.proofs.step.Goals.{else-whole, else-without, then-whole, then-without}
use Rattle.core_passes.proofs.step.Goals as goal

pub keep-with-requires : goal.keep-with-requires
keep-with-requires c = stepping_keep_pre c.loop-a.invariant c.loop-a-test.true c.skip-without.ensures c.requires

pub loop-a-preserved : goal.loop-a-preserved
loop-a-preserved c =
    stepping_more c.loop-a.invariant c.loop-a-test.true c.skip-without.ensures c.keep-with.ensures
    (λ h. let g : c.if-without.whole ≡ true = h in (grind arith, grind arith, grind arith))

pub returns : goal.returns
returns c = stepping_end _ c.loop-a.invariant c.loop-a-test.false

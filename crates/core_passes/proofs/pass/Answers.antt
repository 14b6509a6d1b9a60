use mathlib.Core.Bool.{true}
use mathlib.Core.Path.{◌≡◌}
use Rattle.core_passes.specs.lemmas.Passing.{passing_end, passing_more, passing_start}
use Rattle.core_passes.proofs.pass.Goals.{else-whole, then-whole}
use Rattle.core_passes.proofs.pass.Goals as goal

pub loop-i-init : goal.loop-i-init
loop-i-init c = passing_start c.requires

pub loop-i-preserved : goal.loop-i-preserved
loop-i-preserved c =
    passing_more c.loop-i.invariant c.loop-i-test.true c.turn-made.ensures
    (λ h. let g : c.if-whole.whole ≡ true = h in (elim c.if-whole.branch [ then-whole w ↦ w.if-whole.true | else-whole w ↦ cc ], elim c.if-whole.branch [ then-whole w ↦ cc | else-whole w ↦ cc ]))

pub returns : goal.returns
returns c = passing_end _ c.requires c.loop-i.invariant c.loop-i-test.false

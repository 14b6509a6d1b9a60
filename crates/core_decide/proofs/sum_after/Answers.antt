use Rattle.std.proofs.Common.{ℕ, ◌-◌, ◌∙◌, replicate, ap, arith, length-take, length-drop}
use Rattle.core_decide.proofs.Sums.{filled, summed_start, summed_more, summed_end}
use Rattle.core_decide.proofs.sum_after.Goals as goal

pub loop-u-init : goal.loop-u-init
loop-u-init c = let a = c.args in summed_start a.start a.part.now c.requires.0 a.after.now _ (filled _ _ 3601 0 a.after.now _ c.told-after (omega (arith, c.requires.0.high)) (omega arith) (c.fill.ensures.after (λ y q. q) ∙ ap (λ (n : ℕ). replicate n 0) (simp (length-take, length-drop) (omega (arith, c.requires.0.high)))))

pub loop-u-preserved : goal.loop-u-preserved
loop-u-preserved c = let a = c.args in let l = c.loop-u in summed_more a.start a.part.now c.requires.0 l.after l.sum l.u l.invariant c.loop-u-test.true

pub returns : goal.returns
returns c =
    let a = c.args in
    let l = c.loop-u in
    summed_end a.start a.part.now c.requires.0 l.after l.sum l.u l.invariant (omega arith) _ (filled 0 (a.start - 1) (a.start - 1) l.sum l.after _ (omega arith) (omega arith) (omega (arith, c.requires.0.high)) (c.fill-2.ensures.after (λ y q. q) ∙ ap (λ (n : ℕ). replicate n l.sum) (simp length-take (omega (arith, c.requires.0.high)))))

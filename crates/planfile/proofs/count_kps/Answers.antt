use Rattle.std.specs.Prelude.{ℕ, ◌+◌, ◌*◌, ◌≡◌}
use Rattle.std.proofs.Common.{sym, subst, ◌∙◌, arith}
use Rattle.theory_basics.specs.lemmas.Tests.{true_T}
use Rattle.planfile.specs.lemmas.Scan.{Scanned, scanned_start, kp_next}
use Rattle.planfile.proofs.count_kps.Goals as goal

pub loop-kept-init : goal.loop-kept-init
loop-kept-init c = scanned_start c.args.count c.args.file.now

pub loop-kept-preserved : goal.loop-kept-preserved
loop-kept-preserved c =
    let a = c.args in
    let k = c.loop-kept.kept in
    let next : 5 * k + 5 ≡ 5 * (k + 1) = omega arith in
    subst (λ (at : ℕ). Scanned a.count a.file.now at (k + 1) 0) next
    (kp_next a.count a.file.now (5 * k) k c.loop-kept.invariant (omega arith) (true_T _ (sym c.is_kp.ensures ∙ c.if-not-is_kp.false)))

use Rattle.std.specs.Prelude.{ℕ, ◌+◌, ◌*◌, ◌≡◌}
use Rattle.std.proofs.Common.{sym, subst, ◌∙◌, arith}
use Rattle.theory_basics.specs.lemmas.Tests.{true_T}
use Rattle.planfile.specs.lemmas.Scan.{FtsRead, fts_more}
use Rattle.planfile.proofs.count_fts.Goals as goal

pub loop-rows-preserved : goal.loop-rows-preserved
loop-rows-preserved c =
    let a = c.args in
    let n = c.loop-rows.rows in
    let next : a.from + 11 * n + 11 ≡ a.from + 11 * (n + 1) = omega arith in
    subst (λ (at : ℕ). FtsRead a.file.now a.from (n + 1) at) next
    (fts_more a.file.now a.from n (a.from + 11 * n) c.loop-rows.invariant (true_T _ (sym c.is_ft.ensures ∙ c.loop-rows-test.true)))

use Rattle.std.proofs.Common.{◌∙◌, arith}
use Rattle.theory_basics.specs.lemmas.Tests.{all_to_cong, all_below_cong}
use Rattle.checker.proofs.allowed_from.Goals as goal

pub returns : goal.returns
returns c = c.allowed_all.ensures ∙ all_to_cong c.args.count _ _ (λ i u v. all_below_cong c.args.sums.now.depth _ _ (λ n w. rw (c.mark_late.ensures.is i n u (omega arith) (omega arith))))

-- `trace::few_lines` meets its contract. Assumes nothing.
use Rattle.std.proofs.Common.{◌∙◌, rules, tests, take, leb, ℕ, Bool}
use Rattle.std.proofs.lemmas.Iterator.{YieldsList-from_slice}
use Rattle.std.proofs.lemmas.Iterator.Search.{all_from_yields_List}
use Rattle.trace.specs.lemmas.Lists.{all_same}
use Rattle.trace.proofs.few_lines.Goals as goal

pub returns : goal.returns
returns c =
    let first = take c.args.slots c.args.counts.now in
    let most : ℕ → Bool = λ n. leb n 11184 in
    all_from_yields_List most _ _ c.all.result c.all.ensures.ran (YieldsList-from_slice first cc) (λ x b q k. search (rules, tests))
    ∙ all_same most first

-- `trace::all_writable` meets its contract. Assumes nothing.
use Rattle.std.proofs.Common.{◌∙◌, rules, tests}
use Rattle.std.proofs.lemmas.Iterator.{YieldsList-from_slice}
use Rattle.std.proofs.lemmas.Iterator.Search.{all_from_yields_List}
use Rattle.trace.specs.Trace.{writable}
use Rattle.trace.specs.lemmas.Lists.{all_same}
use Rattle.trace.proofs.all_writable.Goals as goal

pub returns : goal.returns
returns c =
    let f = c.args.forecast.now in
    all_from_yields_List writable _ _ c.all.result c.all.ensures.ran (YieldsList-from_slice f cc) (λ x b q k. search (rules, tests))
    ∙ all_same writable f

use Rattle.std.proofs.Common.{sym, ◌∙◌}
use Rattle.fetch.specs.Counts.{over_rest}
use Rattle.fetch.proofs.Walk.{counted_by_bit}
use Rattle.fetch.proofs.count_rest.Goals as goal

pub returns : goal.returns
unfolding over_rest
returns c = c.count_from.ensures ∙ sym (counted_by_bit c.args.n _)

use Rattle.std.proofs.Common.{rules, ◌∙◌}
use Rattle.planner.proofs.Compared.{compared_is}
use Rattle.planner.proofs.compare.Goals as goal

pub returns : goal.returns
returns c = c.cmp.ensures ∙ compared_is c.args.a c.args.b (search rules)

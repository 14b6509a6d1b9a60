-- `next_from` meets its contract.
use mathlib.Core.Path.{sym, ◌∙◌}
use Rattle.core_covering.specs.lemmas.Levels.{next_is}
use Rattle.core_covering.proofs.next_from.Goals as goal

pub returns : goal.returns
returns c = λ j o e. c.max.ensures ∙ rw (e, c.wait_of.ensures j o) (sym (next_is j _ _ _ o))

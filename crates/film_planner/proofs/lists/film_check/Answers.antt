use Rattle.std.proofs.Common.{◌≡◌, rules}
use Rattle.refusals.specs.Numbers.{by_number}
use Rattle.core_ffi.specs.lemmas.Numbers.{answer_number, number_is}
use Rattle.film_planner.proofs.lists.film_check.Goals as goal

pub returns : goal.returns
returns c =
    let same : c.number.result ≡ answer_number (by_number c.check.result) = search rules in
    number_is _ _ same c.check.ensures

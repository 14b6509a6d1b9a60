use Rattle.core_ffi.specs.lemmas.Numbers.{number_is}
use Rattle.film_planner.proofs.texts.film_reasons.Goals as goal

pub returns : goal.returns
returns c =
    let w = c.reasons.ensures in
    record { number = number_is _ _ c.number.ensures w.result; after = w.buffer }

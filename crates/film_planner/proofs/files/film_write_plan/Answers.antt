use Rattle.core_ffi.specs.lemmas.Numbers.{number_is}
use Rattle.film_planner.proofs.files.film_write_plan.Goals as goal

pub returns : goal.returns
returns c =
    let w = c.write_plan.ensures in
    record { number = number_is _ _ c.number.ensures w.answer; after = w.after }

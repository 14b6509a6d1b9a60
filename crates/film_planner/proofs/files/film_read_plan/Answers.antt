use Rattle.std.proofs.Common.{rules}
use Rattle.fetch.specs.Handed.{lent_list}
use Rattle.core_ffi.specs.Files.{PlanReadReturned}
use Rattle.core_ffi.specs.lemmas.Numbers.{number_is}
use Rattle.film_planner.proofs.files.film_read_plan.Goals as goal

pub returns : goal.returns
returns c =
    let w = c.read_plan.ensures.promise in
    let read : PlanReadReturned _ _ _ c.number.result (lent_list c.read_plan.new.out) = record { number = number_is _ _ c.number.ensures w.answer; after = w.after } in
    search rules

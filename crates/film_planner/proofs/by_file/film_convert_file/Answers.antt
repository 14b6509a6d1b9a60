use Rattle.core_ffi.specs.lemmas.Programs.{text_handed}
use Rattle.film_planner.proofs.by_file.film_convert_file.Goals as goal

pub returns : goal.returns
returns c = text_handed c.number.ensures c.convert_file.ensures

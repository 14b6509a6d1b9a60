use Rattle.jobfile.specs.Writer.{write_answer}
use Rattle.core_ffi.specs.lemmas.Numbers.{number_is}
use Rattle.film_planner.proofs.files.film_write_job.Goals as goal

pub returns : goal.returns
unfolding write_answer
returns c =
    let w = c.write_job.ensures in
    record { number = number_is _ _ c.number.ensures w.answer; after = w.after }

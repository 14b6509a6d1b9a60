-- Meaning. The film that the lent slices of a call hand over, and the one that a job is without its
-- start delay.
use Rattle.job.specs.declared.handed.JobInput.{JobInput}
use Rattle.wait.specs.declared.Film.{Film as Lent}
use Rattle.wait.specs.Answer.{WaitInput, wait_input}

abbrev pub handed_film : Lent → WaitInput
handed_film f =
    wait_input f.chunks f.span f.limit f.sizes.now f.overrides.chunks.now f.overrides.layers.now f.overrides.bytes.now f.forecast.now

abbrev pub film_of_job : JobInput → WaitInput
film_of_job j =
    wait_input j.programme.chunks j.programme.span j.programme.limit j.sizes.now j.overrides.chunks.now j.overrides.layers.now j.overrides.bytes.now j.forecast.now

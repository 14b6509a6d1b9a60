-- Meaning. The SZs and the job that the lent slices of a call hand over.
use Rattle.std.specs.Prelude.{List}
use Rattle.job.specs.Job.{Override}
use Rattle.job.specs.Input.{JobInput, job_input, overrides_of}
use Rattle.job.specs.declared.handed.Overrides.{Overrides}
use Rattle.job.specs.declared.handed.JobInput.{JobInput as Lent}

abbrev pub handed_overrides : Overrides → List Override
handed_overrides o = overrides_of o.chunks.now o.layers.now o.bytes.now

abbrev pub handed : Lent → JobInput
handed j = job_input j.programme j.sizes.now j.overrides.chunks.now j.overrides.layers.now j.overrides.bytes.now j.forecast.now

-- Meaning. What the records of a job file say: the PG's fields, the LY sizes in order, the SZs in
-- order, the runs spread out one after the other.
use Rattle.std.specs.Prelude.{ℕ, Bool, true, false, List, [], ◌∷◌, ◌++◌, replicate}
use Rattle.job.specs.declared.Programme.{Programme}
use Rattle.job.specs.Job.{Job, Override, job_of}
use Rattle.jobrecords.specs.declared.Record.{Record}
use Rattle.jobrecords.specs.declared.Record.TheVariants.{Pg, Ly, Sz, Bw, En}

-- Whether a PG is among them.
abbrev pub has_programme : List Record → Bool
has_programme [] = false
has_programme (Pg p ∷ rs) = true
has_programme (Ly size ∷ rs) = has_programme rs
has_programme (Sz chunk layer bytes ∷ rs) = has_programme rs
has_programme (Bw count bytes ∷ rs) = has_programme rs
has_programme (En ∷ rs) = has_programme rs

-- The fields of the PG, the first if there are more, zeros if there is none.
abbrev pub no_programme : Programme
no_programme = record { chunks = 0; span = 0; delay = 0; limit = 0 }

abbrev pub programme_in : List Record → Programme
programme_in [] = no_programme
programme_in (Pg p ∷ rs) = p
programme_in (Ly size ∷ rs) = programme_in rs
programme_in (Sz chunk layer bytes ∷ rs) = programme_in rs
programme_in (Bw count bytes ∷ rs) = programme_in rs
programme_in (En ∷ rs) = programme_in rs

-- The LY sizes in order, the base first.
abbrev pub sizes_in : List Record → List ℕ
sizes_in [] = []
sizes_in (Pg p ∷ rs) = sizes_in rs
sizes_in (Ly size ∷ rs) = size ∷ sizes_in rs
sizes_in (Sz chunk layer bytes ∷ rs) = sizes_in rs
sizes_in (Bw count bytes ∷ rs) = sizes_in rs
sizes_in (En ∷ rs) = sizes_in rs

-- The SZs in order.
abbrev pub overrides_in : List Record → List Override
overrides_in [] = []
overrides_in (Pg p ∷ rs) = overrides_in rs
overrides_in (Ly size ∷ rs) = overrides_in rs
overrides_in (Sz chunk layer bytes ∷ rs) = record { chunk = chunk; layer = layer; bytes = bytes } ∷ overrides_in rs
overrides_in (Bw count bytes ∷ rs) = overrides_in rs
overrides_in (En ∷ rs) = overrides_in rs

-- The runs of the BWs spread out one after the other.
abbrev pub forecast_in : List Record → List ℕ
forecast_in [] = []
forecast_in (Pg p ∷ rs) = forecast_in rs
forecast_in (Ly size ∷ rs) = forecast_in rs
forecast_in (Sz chunk layer bytes ∷ rs) = forecast_in rs
forecast_in (Bw count bytes ∷ rs) = replicate count bytes ++ forecast_in rs
forecast_in (En ∷ rs) = forecast_in rs

abbrev pub job_in : List Record → Job
job_in rs = job_of (programme_in rs) (sizes_in rs) (overrides_in rs) (forecast_in rs)

-- Theorems. The table of all sizes says the job's.
use Rattle.std.specs.Prelude.{◌≡◌}
use Rattle.std.proofs.Math.Path.{fun_ext}
use Rattle.job.specs.Job.{Accepted, Job, size}
use Rattle.core_sizes.specs.Table.{sizes_table, table_at}
use Rattle.core_sizes.specs.lemmas.Table.{table_says}

-- The table that a call fills has every size of an accepted job, for each chunk and layer.
pub table_is : (j : Job) → Accepted j → table_at (sizes_table j.sizes j.overrides) ≡ size j
table_is j a = fun_ext (λ i. fun_ext (λ n. table_says j a i n))

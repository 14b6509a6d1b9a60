use Rattle.std.proofs.Common.{refl}
use Rattle.jobrecords.specs.Handed.{lent_job}
use Rattle.core_ffi.specs.lemmas.Reading.{mixed_beside}
use Rattle.core_ffi.proofs.files.read_either.Goals as goal

pub returns-else-sequenced-clause-promise : goal.returns-else-sequenced-clause-promise
returns-else-sequenced-clause-promise c =
    let a = c.args in
    rw c.if-sequenced.false (mixed_beside a.file.now (lent_job a.out.now) _ _ c.read_mixed_job.ensures refl refl refl)

use Rattle.std.proofs.Common.{subst, sym}
use Rattle.job.specs.Handed.{handed}
use Rattle.job.specs.Input.{JobInput}
use Rattle.jobrecords.specs.Refusal.{mixed}
use Rattle.jobfile.specs.Writer.{job_file}
use Rattle.whole_files.specs.lemmas.Rooms.{Taken}
use Rattle.whole_files.proofs.Reading.{of_file, rewritten}
use Rattle.whole_files.proofs.convert_file.Goals as goal

pub returns : goal.returns
returns c =
    let t = subst (λ (h : JobInput). Taken mixed c.args.job.now h) (sym c.job.ensures) c.in_ok-read.ensures in
    of_file mixed _ (handed c.job.result) job_file _ _ _ t (rewritten mixed _ _ _ _ _ t c.write_job.ensures)

-- `programs::print_converted` meets its contract. Assumes nothing.
use native.Mathlib.Omega.{arith}
use Rattle.jobrecords.specs.Refusal.{mixed}
use Rattle.jobfile.specs.Theorems.{file_short}
use Rattle.jobfile.specs.Writer.{job_file}
use Rattle.programs.proofs.Printing.{answer_printed}
use Rattle.programs.proofs.print_converted.Goals as goal

pub returns : goal.returns
returns c =
    answer_printed mixed job_file 46800 file_short c.args.job.now _ _ _ _ _
    c.convert_file-written.ensures c.print_answer.ensures (omega arith)

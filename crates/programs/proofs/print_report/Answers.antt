-- `programs::print_report` meets its contract. Assumes nothing.
use native.Mathlib.Omega.{arith}
use Rattle.jobrecords.specs.Refusal.{one_sequence}
use Rattle.report.specs.Answer.{plan_report, plan_report_fits}
use Rattle.programs.proofs.Printing.{answer_printed}
use Rattle.programs.proofs.print_report.Goals as goal

pub returns : goal.returns
returns c =
    answer_printed one_sequence plan_report 7633 plan_report_fits c.args.job.now _ _ _ _ _
    c.report_file-written.ensures c.print_answer.ensures (omega arith)

-- `programs::print_plan` meets its contract. Assumes nothing.
use native.Mathlib.Omega.{arith}
use Rattle.jobrecords.specs.Refusal.{one_sequence}
use Rattle.planfile.specs.PlanFile.{file_of}
use Rattle.whole_files.specs.Files.{plan_of_job}
use Rattle.whole_files.specs.lemmas.Plans.{plan_file_fits}
use Rattle.programs.proofs.Printing.{answer_printed}
use Rattle.programs.proofs.print_plan.Goals as goal

pub returns : goal.returns
returns c =
    answer_printed one_sequence (λ j. file_of (plan_of_job j)) 64091 plan_file_fits c.args.job.now _ _ _ _ _
    c.plan_file-written.ensures c.print_answer.ensures (omega arith)

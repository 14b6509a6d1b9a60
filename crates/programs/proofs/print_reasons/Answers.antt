-- `programs::print_reasons` meets its contract. Assumes nothing.
use native.Mathlib.Omega.{arith}
use Rattle.jobrecords.specs.Refusal.{one_sequence}
use Rattle.theory_reasons.specs.Lines.{plan_text}
use Rattle.theory_reasons.proofs.Theorems.{text_fits}
use Rattle.programs.proofs.Printing.{answer_printed}
use Rattle.programs.proofs.print_reasons.Goals as goal

pub returns : goal.returns
returns c =
    answer_printed one_sequence plan_text 94000 text_fits c.args.job.now _ _ _ _ _
    c.reasons_file-written.ensures c.print_answer.ensures (omega arith)

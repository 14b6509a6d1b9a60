-- Laws on what is printed of an answer: the buffer holds the text of any accepted job, so 11 never
-- is. Assumes nothing.
use Prim.Native.Nat.{ℕ, ◌≤◌}
use mathlib.Core.Path.{◌≡◌}
use mathlib.Core.Bool.{Bool}
use mathlib.Core.List.{List}
use native.Mathlib.Omega.{arith}
use lib.ListN.{length}
use Rattle.job.specs.Job.{Accepted, Job}
use Rattle.jobrecords.specs.Refusal.{job_of_file, refusal_of}
use Rattle.jobrecords.specs.Theorems.{file_accepted}
use Rattle.std.specs.Prelude.{Result}
use Rattle.refusals.specs.declared.Refusal.{Refusal}
use Rattle.refusals.specs.Numbers.{by_number}
use Rattle.whole_files.specs.Calls.{TextPromise}
use Rattle.programs.specs.Calls.{Prints}
use Rattle.programs.specs.Printed.{printed}
use Rattle.programs.specs.lemmas.Answered.{PrintsAnswer}
use Rattle.programs.proofs.Writing.{prints_answer}

pub answer_printed : (sequenced : Bool) (text : Job → List ℕ) (most : ℕ) → ((j : Job) → Accepted j → length (text j) ≤ most) → (file old mid new : List ℕ) (r : Result ℕ Refusal) (count : ℕ) →
    TextPromise (refusal_of sequenced file) (text (job_of_file sequenced file)) old r mid → PrintsAnswer (by_number r) mid count new → most ≤ length old →
    Prints (printed (refusal_of sequenced file) (text (job_of_file sequenced file))) old count new
answer_printed sequenced text most fits file old mid new r count w p l =
    let room : refusal_of sequenced file ≡ 0 → length (text (job_of_file sequenced file)) ≤ length old =
    λ e. omega (arith, fits (job_of_file sequenced file) (file_accepted sequenced file e)) in
    prints_answer (refusal_of sequenced file) (text (job_of_file sequenced file)) old mid r count new w room p

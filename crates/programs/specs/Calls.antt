-- Meaning. What the function of each program answers, and the lent buffer afterwards: how many
-- bytes are to be printed, and these in front of what the buffer held.
use Rattle.std.specs.Prelude.{ℕ, ◌≡◌, List, length}
use Rattle.theory_basics.specs.Lent.{over}
use Rattle.programs.specs.Printed.{plan_printed, verdict_printed, report_printed, reasons_printed, convert_printed}

-- What a function answers that prints a text.
pub record Prints (text old : List ℕ) (count : ℕ) (new : List ℕ) : Type 0 where
  -- How many bytes are to be printed.
  pub counted : count ≡ length text
  -- They are the text, in front of what the buffer held.
  pub buffer : new ≡ over text old

-- The two files that `film_verdict` reads.
pub record TwoFiles : Type 0 where
  pub job : List ℕ
  pub plan : List ℕ

abbrev pub two_files : (job plan : List ℕ) → TwoFiles
two_files job plan = record { job = job; plan = plan }

-- Of each program, for the files as its function is handed them.
abbrev pub PrintPlanPromise : (job old : List ℕ) (count : ℕ) (new : List ℕ) → Type 0
PrintPlanPromise job old count new = Prints (plan_printed job) old count new

abbrev pub PrintVerdictPromise : TwoFiles → (old : List ℕ) (count : ℕ) (new : List ℕ) → Type 0
PrintVerdictPromise files old count new = Prints (verdict_printed files.job files.plan) old count new

abbrev pub PrintReportPromise : (job old : List ℕ) (count : ℕ) (new : List ℕ) → Type 0
PrintReportPromise job old count new = Prints (report_printed job) old count new

abbrev pub PrintReasonsPromise : (job old : List ℕ) (count : ℕ) (new : List ℕ) → Type 0
PrintReasonsPromise job old count new = Prints (reasons_printed job) old count new

abbrev pub PrintConvertedPromise : (job old : List ℕ) (count : ℕ) (new : List ℕ) → Type 0
PrintConvertedPromise job old count new = Prints (convert_printed job) old count new

-- Lemmas. What is printed of an answer: a text that stands in the buffer, or the line of a refusal.
-- Assumes nothing.
use Rattle.std.specs.Prelude.{ℕ, ◌≡◌, List, Result, Ok, Err}
use Rattle.programs.specs.Calls.{Prints}
use Rattle.programs.specs.Printed.{refused_text}

abbrev pub PrintsAnswer : Result ℕ ℕ → (old : List ℕ) (count : ℕ) (new : List ℕ) → Type 0
PrintsAnswer (Ok n) old count new = (count ≡ n) × (new ≡ old)
PrintsAnswer (Err n) old count new = Prints (refused_text n) old count new

-- Lemmas. What the function that puts the text aside hands over: the answer, and the lent buffer
-- afterwards. Assumes nothing.
use Rattle.std.specs.Prelude.{◌≡◌, List, ℕ, length, Result}
use Rattle.theory_basics.specs.Lent.{lent_after}
use Rattle.job.specs.Input.{JobInput, job_in}
use Rattle.theory_reasons.specs.Lines.{plan_text}
use Rattle.refusals.specs.declared.Refusal.{Refusal}
use Rattle.refusals.specs.Numbers.{answered, by_number}
use Rattle.reasons.specs.Answer.{refusal}

pub record Told (h : JobInput) (old now : List ℕ) (r : Result ℕ Refusal) : Type 0 where
  pub result : by_number r ≡ answered (refusal h old) (length (plan_text (job_in h)))
  pub buffer : now ≡ lent_after (refusal h old) (plan_text (job_in h)) old

-- Lemma. Where H is at most 1, each chunk in turn kept if it is in time is a pass. It stands apart
-- from `forward_next`, on which it rests, so that the edit of that one is refused there.
use Rattle.std.specs.Prelude.{ℕ, zero, suc, ◌≤◌, [], ◌∷◌}
use Rattle.std.proofs.Common.{arith}
use Rattle.theory_basics.specs.Tests.{here}
use Rattle.job.specs.Job.{Job, chunks, held_most}
use Rattle.theory_most.specs.Statement.{Pass, begin, onward}
use Rattle.theory_most.specs.Search.{forward, pass}
use Rattle.theory_most.proofs.Search.{forward_next, forward_set}
use Rattle.std.specs.Prelude.{◌≤◌}

module _ (j : Job) (few : held_most j ≤ 1) (target : ℕ) where
  pub forward_pass : (i : ℕ) → i ≤ chunks j → Pass j target i (forward j i ∷ [])
  forward_pass zero h = begin
  forward_pass (suc i) h = onward (forward_pass i (omega arith)) h (forward_next j few target i (forward j i) (forward_set j i))

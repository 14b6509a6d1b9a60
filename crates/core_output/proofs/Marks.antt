-- The counts of a choice are those of its marks. Assumes nothing.
use mathlib.Core.Path.{◌≡◌, ◌∙◌, ap}
use Prim.Native.Nat.{ℕ, suc, ◌+◌}
use native.Mathlib.Omega.{arith}
use lib.Dec.{ltb}
use Rattle.theory_basics.specs.Lists.{up_to}
use Rattle.theory_basics.specs.lemmas.Lists.{up_to_cong}
use Rattle.job.specs.Job.{Job, chunks, layers}
use Rattle.fetch.specs.Counts.{mark_count}
use Rattle.fetch.specs.Marks.{bit}
use Rattle.fetch.specs.Rows.{mark_byte}
use Rattle.fetch.specs.lemmas.Counts.{count_up_to}
use Rattle.theory_plan.specs.Statement.{Choice, counts_of, marks_of}
use Rattle.theory_plan.specs.lemmas.Linear.{level_bit, mark_level}

pub counts_are : (j : Job) (choice : ℕ → ℕ) → Choice j choice → up_to (λ n. mark_count n (marks_of j choice)) 4 ≡ counts_of j choice
counts_are j choice c =
    up_to_cong _ _ 4 (λ n h.
    count_up_to n (λ k. mark_byte (λ i. ltb i (choice (k + 1))) (layers j)) (λ i. ltb n (choice i)) (chunks j) (λ k u.
    let e : k + 1 ≡ suc k = omega arith in
    ap (λ (m : ℕ). bit m n) (mark_level (choice (k + 1)) (layers j) (c (k + 1) (omega arith) (omega arith))) ∙ level_bit (choice (k + 1)) n ∙ rw e))

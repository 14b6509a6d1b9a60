-- Lemmas. The bases of document 01's way are the chunks kept by keeping whatever can be kept, which
-- is how the walk begins.
use Rattle.std.specs.Prelude.{ℕ, zero, suc, ◌+◌, ◌≤◌, ◌≡◌, Bool, cond, List, [], ◌∷◌, ◌↔◌, T, leb}
use Rattle.std.proofs.Common.{ap, ◌∙◌, arith}
use Rattle.theory_basics.specs.lemmas.Tests.{same_test}
use Rattle.job.specs.Job.{Job, chunks, layers}
use Rattle.theory_plan.specs.Plan.{kept, picked}
use Rattle.theory_plan.specs.Statement.{SettledByTrials}
use Rattle.theory_plan.specs.lemmas.Base.{base_picks}
use Rattle.theory_plan.specs.lemmas.Kept.{picked_asc}
use Rattle.theory_plan.specs.lemmas.Plan.{base_taken_iff}
use Rattle.theory_plan.specs.lemmas.Words.{Sized}
use Rattle.theory_search.specs.Statement.{Chunks}
use Rattle.theory_search.specs.lemmas.Fitting.{Good}
use Rattle.theory_search.proofs.Meeting.{greedy}

module _
    (j : Job) (sized : Sized j) (one : 1 ≤ layers j) (p : ℕ → ℕ) (dec : SettledByTrials j p) (allowed : List ℕ → Bool)
    (good : (ks : List ℕ) → Chunks j ks → T (allowed ks) ↔ Good j ks) where
  -- Document 01 keeps chunk i.
  abbrev base : ℕ → Bool
  base i = leb 1 (p i)

  greedy_is : (i m : ℕ) → i + m ≡ chunks j → greedy allowed i (picked base i m) ≡ picked base 0 (chunks j)
  greedy_is zero m h = let e : m ≡ chunks j = omega arith in rw e
  greedy_is (suc i) m h =
      let ks = picked base (suc i) m in
      let b = base_picks j p (base_taken_iff j sized p dec.choice (dec.decided 0) one) (suc i) m h (omega arith) in
      let g = good (suc i ∷ ks) (omega arith, omega arith, picked_asc base (suc i) m (chunks j) (omega arith)) in
      let e = same_test (allowed (suc i ∷ ks)) (base (suc i)) (λ t. b.1 (g.0 t)) (λ t. g.1 (b.0 t)) in
      ap (λ (c : Bool). greedy allowed i (cond c (suc i ∷ ks) ks)) e ∙ greedy_is i (suc m) (omega arith)

  pub greedy_kept : greedy allowed (chunks j) [] ≡ kept j p
  greedy_kept = greedy_is (chunks j) 0 (omega arith)

-- Lemmas. Verdicts are at most 7. Assumes nothing.
use Rattle.std.specs.Prelude.{ℕ, suc, ◌+◌, ◌≤◌, ◌<◌, Bool, true, false, List, [], ◌∷◌, length}
use Rattle.std.proofs.Common.{arith}
use Rattle.job.specs.Job.{Job}
use Rattle.fetch.specs.Rows.{Row}
use Rattle.fetch.specs.Verdict.{lowest, rule1, rule2, rule3, rule4, rule5, rule6, rule7, verdict}
use Rattle.fetch.specs.VerdictFrom.{rule2_from, verdict_from}

lowest_few : (n : ℕ) (bs : List Bool) → 0 < n → lowest n bs < n + length bs
lowest_few n [] h = omega arith
lowest_few n (true ∷ bs) h = omega (arith, lowest_few (suc n) bs (omega arith))
lowest_few n (false ∷ bs) h = omega arith

pub verdict_few : (j : Job) (marks : List ℕ) (rows : List Row) → verdict j marks rows ≤ 7
unfolding verdict
verdict_few j marks rows = omega (arith, lowest_few 1 (rule1 j rows ∷ rule2 j rows ∷ rule3 j rows ∷ rule4 j rows ∷ rule5 j rows ∷ rule6 j rows ∷ rule7 j marks rows ∷ []) (omega arith))

pub verdict_from_few : (j : Job) (p : ℕ) (marks : List ℕ) (rows : List Row) → verdict_from j p marks rows ≤ 7
unfolding verdict_from
verdict_from_few j p marks rows = omega (arith, lowest_few 1 (rule1 j rows ∷ rule2_from j p rows ∷ rule3 j rows ∷ rule4 j rows ∷ rule5 j rows ∷ rule6 j rows ∷ rule7 j marks rows ∷ []) (omega arith))

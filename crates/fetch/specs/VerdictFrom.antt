-- Meaning. The verdict of the second checker call (RulesFrom): document 01's, with that call's rule
-- 2; and 21, "p not from 1 to d(C)". Theorems has what they say, and that where no row stands
-- before p it is the first call.
use Rattle.std.specs.Prelude.{ℕ, Bool, not, ◌&&◌, ◌||◌, List, [], ◌∷◌, ltb, eqb}
use Rattle.theory_basics.specs.Refusals.{unless}
use Rattle.theory_basics.specs.Tests.{all}
use Rattle.job.specs.Job.{Job, last_due, size}
use Rattle.job.specs.Refusal.{within}
use Rattle.job.specs.declared.Programme.{Programme}
use Rattle.fetch.specs.Rows.{Row, bytes_of_layer}
use Rattle.fetch.specs.Verdict.{all_layers, lowest, rule1, rule3, rule4, rule5, rule6, rule7}

-- Every row of layer n of chunk i is before p.
abbrev pub layer_before : ℕ → List Row → ℕ → ℕ → Bool
layer_before p rows i n = all (λ x. not (eqb x.chunk i && eqb x.layer n) || ltb x.slot p) rows

-- Layer n of chunk i sums to 0, to its size, or to less in rows that are all before p.
abbrev pub whole_from : Job → ℕ → List Row → ℕ → ℕ → Bool
whole_from j p rows i n =
    eqb (bytes_of_layer rows i n) 0 || (eqb (bytes_of_layer rows i n) (size j i n) || (ltb (bytes_of_layer rows i n) (size j i n) && layer_before p rows i n))

abbrev pub rule2_from : Job → ℕ → List Row → Bool
rule2_from j p rows = all_layers j (whole_from j p rows)

unfoldable pub verdict_from : Job → ℕ → List ℕ → List Row → ℕ
verdict_from j p marks rows =
    lowest 1 (rule1 j rows ∷ rule2_from j p rows ∷ rule3 j rows ∷ rule4 j rows ∷ rule5 j rows ∷ rule6 j rows ∷ rule7 j marks rows ∷ [])

-- 21: "p not from 1 to d(C), in either call".
abbrev pub slot_refusal : Programme → ℕ → ℕ
slot_refusal f p = unless 21 (within 1 (last_due f) p)

-- Meaning. The table of all sizes that a call fills once: four places a chunk, for 500 chunks. That
-- it says an accepted job's sizes is a theorem (Theorems, `table_is`).
use Rattle.std.specs.Prelude.{ℕ, ◌+◌, ◌*◌, ◌-◌, ◌%◌, cond, List, [], ◌∷◌, get_or, set, ltb}
use Rattle.theory_basics.specs.Lists.{up_to}
use Rattle.job.specs.Job.{Override}

-- Layer n of chunk i stands at 4 × (i - 1) + n.
abbrev pub spot : ℕ → ℕ → ℕ
spot i n = (i - 1) * 4 + n

-- The layers' own sizes, chunk after chunk.
abbrev pub own_table : List ℕ → ℕ → List ℕ
own_table sizes c = up_to (λ k. get_or sizes (k % 4) 0) (c * 4)

-- The table with SZs written over it, from the last to the first.
abbrev pub overridden_by : List Override → List ℕ → List ℕ
overridden_by [] t = t
overridden_by (o ∷ os) t = set (overridden_by os t) (spot o.chunk o.layer) o.bytes

-- The table that a call fills, for any sizes and SZs: one outside it is not written.
unfoldable pub own_sizes : List ℕ → List ℕ
own_sizes sizes = own_table sizes 500

abbrev pub sizes_table : List ℕ → List Override → List ℕ
sizes_table sizes os = overridden_by os (own_sizes sizes)

-- What a table says of layer n of chunk i; past its end every chunk is as chunk 1, and there is no
-- fifth layer.
abbrev pub table_at : List ℕ → ℕ → ℕ → ℕ
table_at t i n = cond (ltb n 4) (cond (ltb (spot i n) 2000) (get_or t (spot i n) 0) (get_or t n 0)) 0

-- Meaning. The rows from p on: document 02, request 12: "only the rows from p on, listed in
-- document 01's way". The own list of document 01 (theory_plan's Own), begun with the fetched rows
-- and what they leave; rule 6 is asked of all rows together.
use Rattle.std.specs.Prelude.{ℕ, zero, suc, ◌+◌, ◌-◌, cond, List, [], ◌∷◌, ltb, length, drop}
use Rattle.job.specs.Job.{chunks, forecast, Job, last_slot}
use Rattle.fetch.specs.Rows.{bytes_of_layer, Row}
use Rattle.theory_plan.specs.Own.{carried_to, Fetched, Piece, slot_takes, without}

-- What the fetched rows leave of each part; a part that they hold whole is out.
abbrev pub unfetched : List Row → List Piece → List Piece
unfetched fetched [] = []
unfetched fetched (p ∷ ps) =
    cond
    (ltb (bytes_of_layer fetched p.chunk p.layer) p.bytes)
    (without p (bytes_of_layer fetched p.chunk p.layer) ∷ unfetched fetched ps)
    (unfetched fetched ps)

-- m slots from p on, one after the other: "each slot takes as many next bytes as B(slot) and rule 6
-- allow".
abbrev pub fetched_from : Job → ℕ → List Row → (ℕ → ℕ) → ℕ → Fetched
fetched_from j p fetched choice zero = record { rows = fetched; left = unfetched fetched (carried_to j choice (chunks j)) }
fetched_from j p fetched choice (suc m) =
    let f = fetched_from j p fetched choice m in slot_takes j (m + p) (forecast j (m + p)) f.rows f.left

-- The rows made in the slots p to d(C), without those fetched.
unfoldable pub own_rest : Job → ℕ → List Row → (ℕ → ℕ) → List Row
own_rest j p fetched choice = drop (length fetched) (fetched_from j p fetched choice (suc (last_slot j) - p)).rows

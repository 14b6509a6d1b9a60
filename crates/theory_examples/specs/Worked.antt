-- Theorems. Document 01, "Jobs worked through": the rows marked †, by computation on the
-- definitions that the public contracts cite; and job A with an SZ.
use Rattle.std.specs.Prelude.{ℕ, List, [], ◌∷◌, ◌≡◌, refl}
use Rattle.job.specs.Job.{Job, job_of, size_in}
use Rattle.job.specs.Refusal.{refusal}
use Rattle.fetch.specs.Rows.{Row, layer_count}
use Rattle.fetch.specs.Verdict.{verdict}

abbrev pub row : ℕ → ℕ → ℕ → ℕ → Row
row s c n b = record { slot = s; chunk = c; layer = n; bytes = b }

-- Job A: C 3, L 2, s 2, limit 2, sizes 2 and 1, B = 3, 0, 1, 0, 2, 0.
abbrev pub A : Job
A = job_of (record { chunks = 3; span = 2; delay = 2; limit = 2 }) (2 ∷ 1 ∷ []) [] (3 ∷ 0 ∷ 1 ∷ 0 ∷ 2 ∷ 0 ∷ [])

pub A_accepted : refusal A ≡ 0
unfolding refusal
A_accepted = refl

-- On A, rows (1,1,0,2) (1,1,1,1) (3,3,0,1) (5,3,0,1) (5,3,1,1) with marks 3, 0, 3: verdict 0. Its
-- counts are 2, 2.
abbrev pub better : List Row
better = row 1 1 0 2 ∷ row 1 1 1 1 ∷ row 3 3 0 1 ∷ row 5 3 0 1 ∷ row 5 3 1 1 ∷ []

pub better_passes : verdict A (3 ∷ 0 ∷ 3 ∷ []) better ≡ 0
unfolding verdict size_in
better_passes = refl

pub better_counts : (layer_count A better 0 ≡ 2) × (layer_count A better 1 ≡ 2)
unfolding size_in
better_counts = (refl, refl)

-- A's plan with its last row split as (3,3,0,1) (5,3,0,1): verdict 6.
pub split_held : verdict A (0 ∷ 3 ∷ 1 ∷ []) (row 1 2 0 2 ∷ row 1 2 1 1 ∷ row 3 3 0 1 ∷ row 5 3 0 1 ∷ []) ≡ 6
unfolding verdict size_in
split_held = refl

-- ---- uneven chunks

-- A with an SZ: the base of chunk c has 3 bytes.
abbrev pub uneven : ℕ → Job
uneven c =
    job_of (record { chunks = 3; span = 2; delay = 2; limit = 2 }) (2 ∷ 1 ∷ []) (record { chunk = c; layer = 0; bytes = 3 } ∷ [])
    (3 ∷ 0 ∷ 1 ∷ 0 ∷ 2 ∷ 0 ∷ [])

-- Chunk 1 has the layers' own sizes, and there is no chunk 4.
pub uneven_refusals : (refusal (uneven 1) ≡ 18) × (refusal (uneven 2) ≡ 0) × (refusal (uneven 3) ≡ 0) × (refusal (uneven 4) ≡ 18)
unfolding refusal
uneven_refusals = (refl, refl, refl, refl)

-- With chunk 2's base of 3 bytes these rows pass, and those of A's plan, which carry 2, break rule
-- 2. On A it is the other way about.
abbrev pub uneven_rows : List Row
uneven_rows = row 1 2 0 3 ∷ row 3 2 1 1 ∷ row 5 3 0 2 ∷ []

abbrev pub A_rows : List Row
A_rows = row 1 2 0 2 ∷ row 1 2 1 1 ∷ row 5 3 0 2 ∷ []

pub uneven_verdicts :
    (verdict (uneven 2) (0 ∷ 3 ∷ 1 ∷ []) uneven_rows ≡ 0) × (verdict (uneven 2) (0 ∷ 3 ∷ 1 ∷ []) A_rows ≡ 2)
    × (verdict A (0 ∷ 3 ∷ 1 ∷ []) A_rows ≡ 0) × (verdict A (0 ∷ 3 ∷ 1 ∷ []) uneven_rows ≡ 2)
unfolding verdict size_in
uneven_verdicts = (refl, refl, refl, refl)

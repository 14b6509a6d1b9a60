-- Meaning. The bases of uneven film: document 02, request 9. "Go through chunks from 1 to C, add
-- each, and whenever the kept bases due by then exceed the forecast up to that due slot, drop the
-- largest kept one, the earliest among equals." In scheduling this is the Moore-Hodgson algorithm
-- (Moore 1968): fewest late jobs on one machine, jobs by due date, the longest dropped when late.
-- Where a plan's bases are settled so says Statement (`IsPlan`).
use Rattle.std.specs.Prelude.{ℕ, zero, suc, ◌+◌, ◌≤◌, Bool, cond, List, [], ◌∷◌, ◌++◌, leb, ltb, eqb}
use Rattle.theory_basics.specs.Lists.{has}
use Rattle.theory_basics.specs.Sums.{pre}
use Rattle.job.specs.Job.{Job, chunks, size, due, forecast}

-- ---- sets of chunks

-- Chunks of lo to hi in playing order, each once: how a set of them is listed.
abbrev pub Asc : ℕ → ℕ → List ℕ → Type 0
Asc lo hi [] = Unit {0}
Asc lo hi (k ∷ ks) = (lo ≤ k) × (k ≤ hi) × Asc (suc k) hi ks

-- ---- the Moore-Hodgson algorithm. s k: the bytes of chunk k's base. Kept chunks are listed in
-- playing order.

-- The bytes of the kept bases.
abbrev pub kept_bytes : (ℕ → ℕ) → List ℕ → ℕ
kept_bytes s [] = 0
kept_bytes s (k ∷ ks) = s k + kept_bytes s ks

-- "the largest kept one, the earliest among equals", of k and the later ones ks: a later one only
-- if it is larger.
abbrev pub largest : (ℕ → ℕ) → ℕ → List ℕ → ℕ
largest s k [] = k
largest s k (l ∷ ls) = largest s (cond (ltb (s k) (s l)) l k) ls

-- The kept ones but chunk m.
abbrev pub all_but : ℕ → List ℕ → List ℕ
all_but m [] = []
all_but m (k ∷ ks) = cond (eqb k m) ks (k ∷ all_but m ks)

-- "drop the largest kept one".
abbrev pub drop_largest : (ℕ → ℕ) → List ℕ → List ℕ
drop_largest s [] = []
drop_largest s (k ∷ ks) = all_but (largest s k ks) (k ∷ ks)

-- "whenever the kept bases .. exceed the forecast .., drop": one drop; that it is always enough is
-- a theorem (`one_drop_enough`).
abbrev pub keep_or_drop : (ℕ → ℕ) → ℕ → List ℕ → List ℕ
keep_or_drop s most ks = cond (leb (kept_bytes s ks) most) ks (drop_largest s ks)

-- "go through chunks from 1 to C, add each": what is kept after chunks 1 to i. room i: what the
-- bases due by d(i) may sum to. The kept ones are then of chunks 1 to i, so all of them are due by
-- d(i).
abbrev pub kept_after : (s room : ℕ → ℕ) → ℕ → List ℕ
kept_after s room zero = []
kept_after s room (suc i) = keep_or_drop s (room (suc i)) (kept_after s room i ++ (suc i ∷ []))

-- ---- of a job

-- The bytes of the base of chunk k.
abbrev pub base_size : Job → ℕ → ℕ
base_size j k = size j k 0

-- "the forecast up to that due slot": B(1) + .. + B(d(i)).
abbrev pub forecast_by : Job → ℕ → ℕ
forecast_by j i = pre (forecast j) (due j i)

-- The chunks whose bases are kept at the end.
abbrev pub moore_hodgson : Job → List ℕ
moore_hodgson j = kept_after (base_size j) (forecast_by j) (chunks j)

-- Chunk i is one of them.
abbrev pub is_kept : Job → ℕ → Bool
is_kept j i = has (moore_hodgson j) i

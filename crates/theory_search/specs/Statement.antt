-- Meaning. Document 02, request 13, "Good enough before the curtain": the fixed walk, the walk cut
-- at the budget, what the search hands over, and the plan over the set found. Search has the same
-- computed; Theorems proves that it is this, and what is claimed of it.
use Rattle.std.specs.Prelude.{ℕ, zero, suc, ◌+◌, ◌-◌, ◌≤◌, ◌<◌, ◌≡◌, Bool, cond, not, List, [], ◌∷◌, ◌++◌, ◌↔◌, length, take, T}
use Rattle.theory_basics.specs.Lists.{has}
use Rattle.theory_basics.specs.Tests.{All}
use Rattle.job.specs.Job.{Job, chunks, layers}
use Rattle.fetch.specs.Rows.{Row, layer_count}
use Rattle.fetch.specs.Rules.{Keeps, Passes, PlayingOrder}
use Rattle.theory_plan.specs.Bases.{Asc, moore_hodgson}
use Rattle.theory_plan.specs.Statement.{CanCarry, Choice, Settles, count_of, marks_of}

-- ---- sets of chunks

-- A set of chunks of the job: its list in playing order.
abbrev pub Chunks : Job → List ℕ → Type 0
Chunks j ks = Asc 1 (chunks j) ks

-- The choice that carries the bases of the set and no other layers.
abbrev pub bases_of : List ℕ → ℕ → ℕ
bases_of ks i = cond (has ks i) 1 0

-- The test says which sets some passing list allows, "over lists in playing order": one that
-- carries exactly these bases. There is such a test (Theorems, `fits_tells`), and any two agree on
-- all sets.
abbrev pub Tells : Job → (List ℕ → Bool) → Type 0
Tells j allowed = (ks : List ℕ) → Chunks j ks → T (allowed ks) ↔ CanCarry j (bases_of ks)

-- ---- the walk

-- A step: a keep that no passing list allows, or any other, with the set kept after it, in which
-- the untried chunks are skipped.
pub data Step : Type 0 where
  refused : Step
  met : List ℕ → Step

-- "Each chunk from the last is tried kept and then skipped, over lists in playing order. Each try
-- is one step, also a keep that no passing list allows, which leads no further. The kept set after
-- each other step is a set met, with the untried chunks skipped". The chunks i down to 1 are
-- untried, and ks is kept of the others.
abbrev pub walk : (List ℕ → Bool) → ℕ → List ℕ → List Step
walk allowed zero ks = []
walk allowed (suc i) ks =
    -- chunk i + 1 kept, and all that follows from it; or one step that leads no further
    let keepTry = cond (allowed (suc i ∷ ks)) (met (suc i ∷ ks) ∷ walk allowed i (suc i ∷ ks)) (refused ∷ []) in
    -- chunk i + 1 skipped, and all that follows from it
    let skipTry = met ks ∷ walk allowed i ks in
    keepTry ++ skipTry

-- The whole walk: all chunks are untried.
abbrev pub whole_walk : Job → (List ℕ → Bool) → List Step
whole_walk j allowed = walk allowed (chunks j) []

-- The sets met in the steps, in turn.
abbrev pub sets_in : List Step → List (List ℕ)
sets_in [] = []
sets_in (refused ∷ steps) = sets_in steps
sets_in (met ks ∷ steps) = ks ∷ sets_in steps

-- "the empty set is met before the first step."
abbrev pub sets_met : List Step → List (List ℕ)
sets_met steps = [] ∷ sets_in steps

-- "the best set met, that of most chunks, first met among equals".
pub record FirstOfMost (sets : List (List ℕ)) (best : List ℕ) : Type 0 where
  pub before : List (List ℕ)
  pub behind : List (List ℕ)
  pub here : sets ≡ before ++ (best ∷ behind)
  pub fewer : All (λ ks. length ks < length best) before
  pub no_more_lem : All (λ ks. length ks ≤ length best) behind

-- ---- what the search hands over

-- "the count of request 9 without the limit": of the bases that its walk keeps, whatever H is and
-- whether or not base sizes vary.
unfoldable pub most_without_limit : Job → ℕ
most_without_limit j = length (moore_hodgson j)

pub record Found : Type 0 where
  pub kept : List ℕ
  pub steps : ℕ
  pub ended : Bool
  pub shortfall : ℕ

-- "The shortfall is 0 if it ended. Else it is the count of request 9 without the limit, less the
-- count found".
abbrev pub shortfall_of : Job → Bool → List ℕ → ℕ
shortfall_of j ended kept = cond ended 0 (most_without_limit j - length kept)

-- The walk cut at the budget: "The result is the best set met, .. the steps of that fixed walk
-- actually taken, whether the walk ended (also yes if its last step spends the budget), and a
-- shortfall."
pub record IsFound (j : Job) (budget : ℕ) (found : Found) : Type 0 where
  -- a test that says which sets some passing list allows: the walk goes by it
  pub allowed : List ℕ → Bool
  pub tells : Tells j allowed
  -- of the sets met in the first `budget` steps the best, first met among equals
  pub best : FirstOfMost (sets_met (take budget (whole_walk j allowed))) found.kept
  -- as many steps as the budget and the walk have
  pub taken : found.steps ≡ length (take budget (whole_walk j allowed))
  -- the budget is enough for the whole walk
  pub ends : T found.ended ↔ (length (whole_walk j allowed) ≤ budget)
  -- 0 if it ended, else what request 9 would keep without the limit, less the count found
  pub short : found.shortfall ≡ shortfall_of j found.ended found.kept

-- ---- the plan over a set of bases

-- "The upper layers, rows and counts then follow document 01's way": the bases are those of the
-- set, and each layer above them is settled as in a plan. Marks, counts and rows are those of the
-- choice, as for any plan (theory_plan, `marks_of`, `counts_of`, `own_list`).
pub record IsPlanOver (j : Job) (bases : List ℕ) (plan : ℕ → ℕ) : Type 0 where
  pub choice : Choice j plan
  pub based : (i : ℕ) → 1 ≤ i → i ≤ chunks j → (0 < plan i) ↔ T (has bases i)
  pub upper : (n : ℕ) → Settles j plan (suc n)

-- ---- what is claimed

-- No passing list in playing order carries more bases than so many.
abbrev pub NoneAbove : Job → ℕ → Type 0
NoneAbove j most = (rows : List Row) → Passes j rows → PlayingOrder j rows → layer_count j rows 0 ≤ most

-- What is said of the set found, the plan over it and that plan's own list.
pub record GoodEnough (j : Job) (budget : ℕ) (found : Found) (plan : ℕ → ℕ) (rows : List Row) : Type 0 where
  -- The own list with its marks passes the checker, is in playing order and carries each layer as
  -- often as the counts say.
  pub passes : Keeps j (marks_of j plan) rows
  pub in_order : PlayingOrder j rows
  pub counted : (n : ℕ) → n < layers j → layer_count j rows n ≡ count_of j plan n
  -- Its bases are as many as the set found has chunks.
  pub bases : count_of j plan 0 ≡ length found.kept
  pub within : found.steps ≤ budget
  -- "and no passing list in playing order is better by more"; by none, if the walk ended.
  pub short : NoneAbove j (length found.kept + found.shortfall)
  pub ended_most : T found.ended → NoneAbove j (length found.kept)
  -- "Else it is the count of request 9 without the limit, less the count found", which is never the
  -- larger.
  pub cut_short : T (not found.ended) → length found.kept + found.shortfall ≡ most_without_limit j

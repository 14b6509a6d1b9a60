-- Meaning. What a plan is, and what it is the best of: document 01, "How the plan decides",
-- document 02, request 9, and demand 3. The statements and nothing else, to be read from top to
-- bottom. What they are made of stands once, elsewhere:
--   job, Job: a job, its sizes, due slots, H, `Accepted`, `EqualChunks`, `EqualBases`, `HoldsAll`
--   fetch, Rows: a row, a layer carried, a chunk begun and held, the count and marks of a list
--   fetch, Rules: rules 1 to 7, `Keeps` (a list with marks), `Passes` (a list), `PlayingOrder`
--   fetch, Verdict: the verdict, 0 exactly if rules 1 to 7 are kept
--   Bases, in this crate: the bases that request 9 keeps, by the Moore-Hodgson algorithm
--   Own, in this crate: the own list of a choice
--   Plan, in this crate: the plan computed, so that a contract can name it
-- Theorems proves what this file states.
use Rattle.std.specs.Prelude.{ℕ, suc, ◌+◌, ◌≤◌, ◌<◌, ◌≡◌, List, ◌⊎◌, ◌↔◌, T, ltb}
use Rattle.theory_basics.specs.Lists.{up_to}
use Rattle.theory_basics.specs.Sums.{count}
use Rattle.job.specs.Job.{Job, Layer, EqualBases, HoldsAll, chunks, layers}
use Rattle.fetch.specs.Rows.{Row, Carried, layer_count, mark_byte}
use Rattle.fetch.specs.Rules.{Keeps, Passes, PlayingOrder}
use Rattle.theory_plan.specs.Bases.{is_kept}

-- ---- a choice of layers

-- A choice says of each chunk how many layers it carries, from the base up: layer n of chunk i is
-- carried if n < choice i, and a chunk with 0 is skipped. No chunk has more layers than the job.
abbrev pub Choice : Job → (ℕ → ℕ) → Type 0
Choice j choice = (i : ℕ) → 1 ≤ i → i ≤ chunks j → choice i ≤ layers j

-- "In the marks, bit n of a chunk's mark byte is set exactly if layer n is carried."
abbrev pub marks_of : Job → (ℕ → ℕ) → List ℕ
marks_of j choice = up_to (λ k. mark_byte (λ n. ltb n (choice (k + 1))) (layers j)) (chunks j)

-- How many chunks carry layer n.
abbrev pub count_of : Job → (ℕ → ℕ) → ℕ → ℕ
count_of j choice n = count (λ i. ltb n (choice i)) (chunks j)

-- "The four layer counts say how many chunks carry each layer, 0 for absent layers."
abbrev pub counts_of : Job → (ℕ → ℕ) → List ℕ
counts_of j choice = up_to (count_of j choice) 4

-- ---- what can be carried

-- The list carries these layers and no others: layer n of chunk i exactly if `these i n`.
abbrev pub CarriesOnly : Job → List Row → (ℕ → ℕ → Type 0) → Type 0
CarriesOnly j rows these = (i n : ℕ) → Layer j i n → Carried j rows i n ↔ these i n

-- Some passing list in playing order carries these layers and no others.
pub record CanCarryOnly (j : Job) (these : ℕ → ℕ → Type 0) : Type 0 where
  pub rows : List Row
  pub passes : Passes j rows
  pub in_order : PlayingOrder j rows
  pub exactly : CarriesOnly j rows these

-- The same of the layers of a choice.
abbrev pub CarriesExactly : Job → List Row → (ℕ → ℕ) → Type 0
CarriesExactly j rows choice = CarriesOnly j rows (λ i n. n < choice i)

abbrev pub CanCarry : Job → (ℕ → ℕ) → Type 0
CanCarry j choice = CanCarryOnly j (λ i n. n < choice i)

-- ---- the plan

-- "Layers are settled from 0 upward, and within a layer chunks from C down to 1": layer m of chunk
-- k is settled before layer n of chunk i.
abbrev pub SettledBefore : (m k n i : ℕ) → Type 0
SettledBefore m k n i = (m < n) ⊎ ((m ≡ n) × (i < k))

-- "the layers settled as carried so far, this one", when layer n of chunk i is tried: layer m of
-- chunk k is one of them. The choice of these layers is computed by `Plan.tried`, and
-- `Theorems.tried_is_trial` says so.
abbrev pub Trial : (plan : ℕ → ℕ) (n i : ℕ) → (k m : ℕ) → Type 0
Trial plan n i k m = (SettledBefore m k n i × (m < plan k)) ⊎ ((m ≡ n) × (k ≡ i))

-- Document 01's decision of layer n. "A chunk that lacks the layer below is passed over. Otherwise
-- the layer is carried exactly if some list in playing order passes that carries the layers settled
-- as carried so far, this one and no others." (n ≤ plan i: the layers below n are carried.)
abbrev pub Settles : Job → (ℕ → ℕ) → ℕ → Type 0
Settles j plan n = (i : ℕ) → Layer j i n → (n < plan i) ↔ ((n ≤ plan i) × CanCarryOnly j (Trial plan n i))

-- Document 01's way by itself: every layer is settled by such trials, the base too.
pub record SettledByTrials (j : Job) (plan : ℕ → ℕ) : Type 0 where
  pub choice : Choice j plan
  pub decided : (n : ℕ) → Settles j plan n

-- The bases of request 9: those that the Moore-Hodgson algorithm keeps (Bases).
abbrev pub BasesMooreHodgson : Job → (ℕ → ℕ) → Type 0
BasesMooreHodgson j plan = (i : ℕ) → 1 ≤ i → i ≤ chunks j → (0 < plan i) ↔ T (is_kept j i)

-- "Where H is at least C and base sizes vary".
abbrev pub ByMooreHodgson : Job → Type 0
ByMooreHodgson j = HoldsAll j × (EqualBases j → ⊥)

-- The plan.
pub record IsPlan (j : Job) (plan : ℕ → ℕ) : Type 0 where
  -- It says of each chunk how many of the job's layers it carries, from the base up.
  pub choice : Choice j plan
  -- Where H is at least C and base sizes vary: "Base layers are then settled so", by request 9.
  pub moore_hodgson_lem : ByMooreHodgson j → BasesMooreHodgson j plan
  -- Elsewhere base layers are settled in document 01's way.
  pub elsewhere : (ByMooreHodgson j → ⊥) → Settles j plan 0
  -- "Upper layers follow as before": in document 01's way.
  pub upper : (n : ℕ) → Settles j plan (suc n)

-- Two choices agree at the chunks of the job.
abbrev pub Same : Job → (ℕ → ℕ) → (ℕ → ℕ) → Type 0
Same j p q = (k : ℕ) → 1 ≤ k → k ≤ chunks j → p k ≡ q k

-- A choice skips no base.
abbrev pub NoSkip : Job → (ℕ → ℕ) → Type 0
NoSkip j choice = (i : ℕ) → 1 ≤ i → i ≤ chunks j → 0 < choice i

-- ---- request 9

-- "No passing list, in any order, then carries more bases": wherever H is at least C.
abbrev pub MostPictures : Job → (ℕ → ℕ) → Type 0
MostPictures j plan = HoldsAll j → (list : List Row) → Passes j list → layer_count j list 0 ≤ count_of j plan 0

-- ---- demand 3

-- A list "carries the plan's own layers below n if, for every chunk, it carries each layer below n
-- that the plan carries; it may carry others."
abbrev pub CarriesBelow : Job → (ℕ → ℕ) → ℕ → List Row → Type 0
CarriesBelow j plan n other = (i m : ℕ) → Layer j i m → m < n → m < plan i → Carried j other i m

-- What demand 3 says of a plan and its own list, among all fetch lists, of any number of rows. The
-- layers n are those of the job.
pub record Best (j : Job) (plan : ℕ → ℕ) (rows : List Row) : Type 0 where
  -- "The plan's own list with its marks then passes the checker,
  pub passes : Keeps j (marks_of j plan) rows
  -- is in playing order,
  pub in_order : PlayingOrder j rows
  -- and carries each layer for exactly as many chunks as the plan's count for it says."
  pub counted : (n : ℕ) → n < layers j → layer_count j rows n ≡ count_of j plan n
  -- "Every fetch list that passes, in whatever order it fetches, carries the base layer of at most
  -- as many chunks as the plan."
  pub most_bases : (other : List Row) → Passes j other → layer_count j other 0 ≤ count_of j plan 0
  -- "For every layer n, every passing list in playing order that carries all the plan's own layers
  -- below n carries layer n for at most as many chunks as the plan."
  pub most_of_layer :
      (n : ℕ) → n < layers j → (other : List Row) → Passes j other → PlayingOrder j other → CarriesBelow j plan n other →
      layer_count j other n ≤ count_of j plan n
  -- "Where the buffer limit holds the whole programme, take any passing list whose counts are not
  -- the plan's: at the first layer, from the base up, where they differ, the plan's count is the
  -- higher."
  pub first_difference :
      HoldsAll j → (other : List Row) → Passes j other → (n : ℕ) → n < layers j →
      ((m : ℕ) → m < n → layer_count j other m ≡ count_of j plan m) →
      (layer_count j other n ≡ count_of j plan n → ⊥) →
      layer_count j other n < count_of j plan n

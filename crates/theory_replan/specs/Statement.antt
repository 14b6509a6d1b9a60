-- Meaning. What a plan made afresh at slot p is: document 02, request 12. The statements and
-- nothing else, to be read from top to bottom, beside theory_plan's Statement. `fetched` are "the
-- rows fetched before p". What they are made of stands once, elsewhere:
--   fetch, RulesFrom: the second checker call: its rule 2, `KeepsFrom` (with marks), `PassesFrom`
--   fetch, VerdictFrom: its verdict, 0 exactly if its rules are kept
--   theory_plan, Statement: a choice, what a trial asks about, the counts and marks of a choice
--   Own, in this crate: the rows from p on
--   Refusal, in this crate: the refusals
-- Theorems proves what this file states, and Desk as the desk calls it; there stands what a
-- standing plan is promised (`Continues`).
use Rattle.std.specs.Prelude.{ℕ, ◌-◌, ◌≤◌, ◌<◌, cond, List, [], ◌∷◌, ◌++◌, ◌⊎◌, ◌↔◌, T, ltb, take}
use Rattle.theory_basics.specs.Tests.{All, In}
use Rattle.job.specs.Job.{Job, Layer, due, last_slot, size, with_forecast}
use Rattle.fetch.specs.Rows.{Row, Carried, begun, bytes_of_layer}
use Rattle.fetch.specs.Rules.{FewHeld, RowInRange, LowerCarried, OnTime, PlayingOrder, WithinForecast}
use Rattle.fetch.specs.RulesFrom.{PassesFrom}
use Rattle.theory_plan.specs.Statement.{CarriesOnly, Choice, Trial}

-- ---- what is handed on

-- "the forecast from the replanning slot onward; earlier slots keep the job's forecast". The job
-- with this forecast is meant throughout.
abbrev pub joined : Job → ℕ → List ℕ → Job
joined j p onward = with_forecast j (take (p - 1) j.forecast ++ onward)

-- The rows of a list before slot p, and those from p on.
abbrev pub rows_before : ℕ → List Row → List Row
rows_before p [] = []
rows_before p (x ∷ xs) = cond (ltb x.slot p) (x ∷ rows_before p xs) (rows_before p xs)

abbrev pub rows_from : ℕ → List Row → List Row
rows_from p [] = []
rows_from p (x ∷ xs) = cond (ltb x.slot p) (rows_from p xs) (x ∷ rows_from p xs)

-- Rows that refusals 21 and 22 let pass.
pub record Acceptable (j : Job) (p : ℕ) (fetched : List Row) : Type 0 where
  -- 21: "p not from 1 to d(C)", "a handed row not before p"
  pub p_low : 1 ≤ p
  pub p_high : p ≤ last_slot j
  pub before : All (λ x. x.slot < p) fetched
  -- 22: "handed rows that break rule 1, 3, 4, 5 or 6, with rule 2 only where a sum exceeds its
  -- size,
  pub in_range_lem : All (RowInRange j) fetched
  pub no_more_lem : (i n : ℕ) → Layer j i n → bytes_of_layer fetched i n ≤ size j i n
  pub lower : LowerCarried j fetched
  pub within : WithinForecast j fetched
  pub on_time_lem : All (OnTime j) fetched
  pub few_held : FewHeld j fetched
  -- or that begin a chunk in an earlier slot than a handed one that plays before it": by the slot
  -- of each row, each chunk with a fetched row that plays before is begun.
  pub in_turn_lem : (x y : Row) → In x fetched → In y fetched → y.chunk < x.chunk → T (begun fetched x.slot y.chunk)

-- ---- what can still be carried

-- Some list that begins with the rows fetched, all its other rows in slots from p on, passes the
-- second call in playing order and carries these layers and no others. (So a begun layer that is
-- not one of them stays spent: its fetched rows are in the list, and its chunk is held to its due
-- slot.)
pub record CanCarryOnlyFrom (j : Job) (p : ℕ) (fetched : List Row) (these : ℕ → ℕ → Type 0) : Type 0 where
  pub more : List Row
  pub later : All (λ x. p ≤ x.slot) more
  pub passes : PassesFrom j p (fetched ++ more)
  pub in_order : PlayingOrder j (fetched ++ more)
  pub exactly : CarriesOnly j (fetched ++ more) these

-- The same of the layers of a choice.
abbrev pub CanCarryFrom : Job → ℕ → List Row → (ℕ → ℕ) → Type 0
CanCarryFrom j p fetched choice = CanCarryOnlyFrom j p fetched (λ i n. n < choice i)

-- ---- the plan made afresh

-- The layers that the trial of layer n of chunk i asks about: "Layers whole before p are carried",
-- and beside them those settled as carried so far and this one, as in document 01. The choice of
-- these layers is computed by `Plan.tried_from`, and `Theorems.tried_from_is_trial` says so.
abbrev pub TrialFrom : Job → List Row → (plan : ℕ → ℕ) (n i : ℕ) → (k m : ℕ) → Type 0
TrialFrom j fetched plan n i k m = Carried j fetched k m ⊎ Trial plan n i k m

-- "Layers whole before p are carried. Chunks due before p are settled by what they have. Others are
-- settled as in document 01, bases too, over lists that begin with the rows fetched": a layer is
-- carried exactly if it is whole before p, or else its chunk is due from p on, the layer below is
-- carried, and some such list carries the layers settled as carried so far, this one and no others.
abbrev pub SettlesFrom : Job → ℕ → List Row → (ℕ → ℕ) → Type 0
SettlesFrom j p fetched plan =
    (i n : ℕ) → Layer j i n →
    (n < plan i) ↔ (Carried j fetched i n ⊎ ((p ≤ due j i) × (n ≤ plan i) × CanCarryOnlyFrom j p fetched (TrialFrom j fetched plan n i)))

pub record IsReplan (j : Job) (p : ℕ) (fetched : List Row) (plan : ℕ → ℕ) : Type 0 where
  pub choice : Choice j plan
  pub decided : SettlesFrom j p fetched plan

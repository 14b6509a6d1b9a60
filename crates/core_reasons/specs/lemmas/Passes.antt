-- Lemmas. What the two passes hand each other. The kept chunks stand in tables from a first place
-- on; place q of the theory is place first + q.
use Rattle.std.specs.Prelude.{ℕ, zero, suc, ◌+◌, ◌-◌, ◌≤◌, ◌<◌, ◌≡◌, Bool, true, List, map, get_or, take, drop, ltb}
use Rattle.job.specs.Job.{Accepted, Job, Within, due, held_most}
use Rattle.theory_plan.specs.Plan as Plan
use Rattle.theory_plan.specs.Plan.{kept}
use Rattle.theory_plan.specs.lemmas.Queue.{releases}
use Rattle.theory_plan.specs.Statement.{CanCarry, Choice}
use Rattle.theory_reasons.specs.Lines as Lines
use Rattle.theory_reasons.specs.Lines.{stretch_of}
use Rattle.theory_reasons.specs.lemmas.Search as Search
use Rattle.core_reasons.specs.declared.passes.Begin.{Begin}
use Rattle.core_reasons.specs.declared.passes.Stretch.{Stretch}

-- Place q of what stands in a table from `first` on.
abbrev pub place : ℕ → List ℕ → ℕ → ℕ
place first table q = get_or table (first + q) 0

-- What is forecast up to slot t, from the table of what is forecast after it.
abbrev pub up_to_in : List ℕ → ℕ → ℕ
up_to_in after t = get_or after 0 0 - get_or after t 0

-- The passes of the theory over the tables.
abbrev pub late_in : (after dues ready bytes : List ℕ) → ℕ → ℕ
late_in after dues ready bytes first = Search.forward (place first bytes) (place first dues) (place first ready) (up_to_in after) 0 0 (500 - first)

abbrev pub starts_in : List ℕ → ℕ → ℕ → Bool
starts_in ready first zero = true
starts_in ready first (suc k) = ltb (place first ready k) (place first ready (suc k))

abbrev pub back_in : (after ready bytes : List ℕ) → (first most m : ℕ) → Search.Begin
back_in after ready bytes first most m = Search.back (place first bytes) (λ q. 0) (place first ready) (up_to_in after) most 0 (suc (m - first))

abbrev pub search_in : (after dues ready bytes : List ℕ) → ℕ → Lines.Stretch
search_in after dues ready bytes first = Search.search (place first bytes) (place first dues) (place first ready) (up_to_in after) (500 - first)

abbrev pub begun : Begin → Search.Begin
begun b = record { first = b.first; carry = b.carry; need = b.need }

abbrev pub spelled : Stretch → Lines.Stretch
spelled s = record { first = s.first; last = s.last; carry = s.carry; need = s.need }

-- ---- what is asked

pub record FindBeginPre (after ready : List ℕ) (first m : ℕ) : Type 0 where
  pub low : first ≤ m
  pub high : m < 500
  pub sums : (t : ℕ) → get_or after t 0 ≤ 60397977600
  pub begins : (k : ℕ) → first ≤ k → k < 500 → Within 1 3600 (get_or ready k 0)

pub record FindStretchPre (after dues ready : List ℕ) (first : ℕ) : Type 0 where
  pub within : first ≤ 500
  pub sums : (t : ℕ) → get_or after t 0 ≤ 60397977600
  pub due_slots : (k : ℕ) → first ≤ k → k < 500 → Within 1 3600 (get_or dues k 0)
  pub begins : (k : ℕ) → first ≤ k → k < 500 → Within 1 3600 (get_or ready k 0)

-- ---- what is found

-- The tables hold the kept chunks of a choice of a job.
pub record Holds (j : Job) (choice : ℕ → ℕ) (after dues ready bytes : List ℕ) (first : ℕ) : Type 0 where
  pub sums : (t : ℕ) → get_or after t 0 ≡ Plan.after j t
  pub due_slots : drop first dues ≡ map (due j) (kept j choice)
  pub release_slots : drop first ready ≡ take (500 - first) (releases (due j) (held_most j) (kept j choice))
  pub carried : drop first bytes ≡ map (Plan.bytes j choice) (kept j choice)

-- The stretch: of every choice that the tables hold and that can't be carried, the one that is
-- named.
pub record FindStretchPost (after dues ready bytes : List ℕ) (first : ℕ) (s : Stretch) : Type 0 where
  pub found : (j : Job) → Accepted j → (choice : ℕ → ℕ) → Choice j choice → (CanCarry j choice → ⊥) → Holds j choice after dues ready bytes first → spelled s ≡ stretch_of j choice

-- Lemmas. What the functions of this crate hand each other: a row of needs, and the rows of all
-- chunks in the work slice, 501 numbers to a row.
use Rattle.std.specs.Prelude.{ℕ, suc, ◌+◌, ◌*◌, ◌-◌, ◌/◌, ◌<◌, ◌≤◌, max, min, ◌≡◌, cond, List, length, get_or, leb}
use Rattle.job.specs.declared.Programme.{Programme}
use Rattle.job.specs.Job.{Job}
use Rattle.theory_most.specs.Statement.{bound, bound_any}
use Rattle.theory_most.specs.lemmas.InTables.{EachJob, RowsFrom, Says, SomeJob}

-- ---- one row

-- The needs of fewer bases than count can be: at most 60,397,977,601, one more than any forecast.
abbrev pub Needs : ℕ → (ℕ → ℕ) → Type 0
Needs count row = (c : ℕ) → c < count → row c ≤ 60397977601

pub record RowPre (base left count : ℕ) (row : List ℕ) : Type 0 where
  pub small : base ≤ 16777216
  pub sums : left ≤ 60397977600
  pub few : count ≤ 500
  pub needs : Needs count (λ c. get_or row c 0)

pub record ClearRowPost (none : ℕ) (row : List ℕ) : Type 0 where
  pub first : get_or row 0 0 ≡ 0
  pub others : (c : ℕ) → c < 500 → get_or row (suc c) 0 ≡ none
  pub long : length row ≡ 501

-- Each need is the smaller of that without the chunk and that with it.
pub record InFrontPost (base left count : ℕ) (old new : List ℕ) : Type 0 where
  pub first : get_or new 0 0 ≡ get_or old 0 0
  pub others : (c : ℕ) → c < count → get_or new (suc c) 0 ≡ min (get_or old (suc c) 0) (base + max left (get_or old c 0))

abbrev pub CutAbovePost : ℕ → ℕ → ℕ → List ℕ → List ℕ → Type 0
CutAbovePost none most count old new =
    (c : ℕ) → c ≤ count → get_or new c 0 ≡ cond (leb c most) (get_or old c 0) none

-- ---- the bound in any order

abbrev pub BoundPre : Programme → (ℕ → ℕ → ℕ) → List ℕ → Type 0
BoundPre p sizes left = SomeJob p (λ j. Says j sizes left)

abbrev pub AnyOrderPost : Programme → (ℕ → ℕ → ℕ) → List ℕ → ℕ → Type 0
AnyOrderPost p sizes left r = EachJob p (λ j. Says j sizes left → r ≡ bound_any j)

-- ---- all rows

-- A row is made over the next row and a row that lies further on.
pub record FillRowPre (i count held base left : ℕ) (work : List ℕ) : Type 0 where
  pub inside : i < count
  pub few : count ≤ 500
  pub held_in : held ≤ 65535
  pub held_some : 1 ≤ held
  pub small : base ≤ 16777216
  pub sums : left ≤ 60397977600
  pub needs : Needs count (λ c. get_or work (suc i * 501 + c) 0)
  pub long : (count + 1) * 501 ≤ length work

pub record FillRowPost (i count held base left late none : ℕ) (old new : List ℕ) : Type 0 where
  pub first : get_or new (i * 501) 0 ≡ 0
  pub others :
      (c : ℕ) → c < count →
      get_or new (i * 501 + suc c) 0
      ≡ min (get_or old (suc i * 501 + suc c) 0)
      (cond (leb (get_or old (min (i + held) count * 501 + (suc c - held)) 0) late) (base + max left (get_or old (suc i * 501 + c) 0)) none)
  -- The rows behind it are as they were.
  pub behind : (k : ℕ) → suc i * 501 ≤ k → get_or new k 0 ≡ get_or old k 0
  pub long : length new ≡ length old

-- A limit of at least one chunk, and room for the rows behind 0 to C.
pub record InOrderPre (p : Programme) (sizes : ℕ → ℕ → ℕ) (left work : List ℕ) : Type 0 where
  pub job : BoundPre p sizes left
  pub held_some : 1 ≤ p.limit / p.span
  pub long : (p.chunks + 1) * 501 ≤ length work

pub record InOrderOf (j : Job) (r : ℕ) (work : List ℕ) : Type 0 where
  pub is_bound : r ≡ bound j
  pub rows : RowsFrom j 0 work

pub record InOrderPost (p : Programme) (sizes : ℕ → ℕ → ℕ) (left : List ℕ) (r : ℕ) (work work' : List ℕ) : Type 0 where
  pub each : EachJob p (λ j. Says j sizes left → InOrderOf j r work')
  pub long : length work' ≡ length work

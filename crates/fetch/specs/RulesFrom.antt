-- Meaning. What a list keeps that passes the second checker call: document 02, request 12: "A
-- second checker call takes p, and its rule 2 allows a short sum whose rows are all before p". The
-- other rules are document 01's (Rules).
use Rattle.std.specs.Prelude.{ℕ, ◌<◌, ◌≡◌, List, ◌⊎◌}
use Rattle.theory_basics.specs.Tests.{All, In}
use Rattle.job.specs.Job.{Job, Layer, size}
use Rattle.fetch.specs.Rows.{Row, Carried, bytes_of_layer, marks_given}
use Rattle.fetch.specs.Rules.{RowInRange, LowerCarried, WithinForecast, OnTime, FewHeld, MarksSay}

-- "a short sum whose rows are all before p"
pub record ShortBefore (j : Job) (p : ℕ) (rows : List Row) (i n : ℕ) : Type 0 where
  pub short : bytes_of_layer rows i n < size j i n
  pub before : (x : Row) → In x rows → x.chunk ≡ i → x.layer ≡ n → x.slot < p

-- Rule 2 of the second call: each layer of each chunk sums to 0 or its full size, or to less, in
-- rows that are all before p.
abbrev pub WholeFrom : Job → ℕ → List Row → Type 0
WholeFrom j p rows = (i n : ℕ) → Layer j i n → (bytes_of_layer rows i n ≡ 0) ⊎ (Carried j rows i n ⊎ ShortBefore j p rows i n)

-- A list with its marks keeps rules 1 to 7 of the second call.
pub record KeepsFrom (j : Job) (p : ℕ) (marks : List ℕ) (rows : List Row) : Type 0 where
  pub in_range_lem : All (RowInRange j) rows
  pub whole : WholeFrom j p rows
  pub lower : LowerCarried j rows
  pub within : WithinForecast j rows
  pub on_time_lem : All (OnTime j) rows
  pub few_held : FewHeld j rows
  pub marks_say : MarksSay j marks rows

-- A list named without marks is taken with the marks its rows give.
abbrev pub PassesFrom : Job → ℕ → List Row → Type 0
PassesFrom j p rows = KeepsFrom j p (marks_given j rows) rows

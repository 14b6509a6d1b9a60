-- Lemmas. What the functions of lib.rt ask of each other and hand each other: the tables, and the
-- pass over the chunks for one s.
use Rattle.std.specs.Prelude.{ℕ, ◌+◌, ◌*◌, ◌-◌, ◌≤◌, ◌<◌, ◌≡◌, Bool, List, length, get_or}
use Rattle.core_sizes.specs.Table.{table_at}
use Rattle.wait.specs.declared.Pass.{Pass}
use Rattle.wait.specs.lemmas.Scan.{brought, keeps_all}

-- What the forecast brings up to each of its slots.
pub record SumTable (f sums : List ℕ) : Type 0 where
  pub is : (t : ℕ) → t ≤ length f → get_or sums t 0 ≡ brought f t

-- The base's bytes of each chunk, by the table of all sizes.
abbrev pub BaseTable : ℕ → List ℕ → List ℕ → Type 0
BaseTable chunks table bases = (i : ℕ) → 1 ≤ i → i ≤ chunks → get_or bases (i - 1) 0 ≡ table_at table i 0

-- By the tables: the bytes of chunk i, its due slot, and what comes after slot t up to the last due
-- slot.
abbrev pub size_at : List ℕ → ℕ → ℕ
size_at bases i = get_or bases (i - 1) 0

abbrev pub due_at : ℕ → ℕ → ℕ → ℕ
due_at span s i = (i - 1) * span + s

abbrev pub left_at : List ℕ → ℕ → ℕ → ℕ
left_at sums last t = get_or sums last 0 - get_or sums t 0

-- Every base is kept with s.
unfoldable pub kept_by : ℕ → ℕ → ℕ → List ℕ → List ℕ → ℕ → Bool
kept_by chunks span held bases sums s = keeps_all (size_at bases) (due_at span s) (left_at sums (due_at span s chunks)) held 0 chunks

-- The most that 3,600 slots bring. It stands past the last chunk, where nothing has to begin.
abbrev pub never : ℕ
never = 60397977600

abbrev pub Free : ℕ → List ℕ → Type 0
Free chunks begins = (k : ℕ) → chunks ≤ k → k < 1000 → get_or begins k 0 ≡ never

-- What one pass asks: sums that start at 0 and never fall, and room behind the last chunk.
pub record KeepsAllPre (chunks span held s : ℕ) (bases sums begins : List ℕ) : Type 0 where
  pub some : 1 ≤ chunks
  pub few : chunks ≤ 500
  pub wait : 1 ≤ s
  pub reach : due_at span s chunks ≤ 3600
  pub held_in : held ≤ 500
  pub zero_first : get_or sums 0 0 ≡ 0
  pub rise : (a b : ℕ) → a ≤ b → b ≤ due_at span s chunks → get_or sums a 0 ≤ get_or sums b 0
  pub most : get_or sums (due_at span s chunks) 0 ≤ never
  pub free : Free chunks begins

pub record KeepsAllPost (chunks span held s : ℕ) (bases sums begins : List ℕ) (r : Bool) : Type 0 where
  pub answer : r ≡ kept_by chunks span held bases sums s
  pub free : Free chunks begins

-- What the search asks, for so many tries.
pub record FindDelayPre (chunks span held tries : ℕ) (bases sums begins : List ℕ) : Type 0 where
  pub each :
      (s : ℕ) → 1 ≤ s → s ≤ tries → (begins' : List ℕ) → Free chunks begins' →
      KeepsAllPre chunks span held s bases sums begins'
  pub few : tries ≤ 3600
  pub free : Free chunks begins

-- ---- the same of a pass as the functions hand it on

abbrev pub KeepsAllIn : Pass → ℕ → List ℕ → Type 0
KeepsAllIn w s begins = KeepsAllPre w.chunks w.span w.held s w.bases.now w.sums.now begins

abbrev pub KeepsAllOut : Pass → ℕ → List ℕ → Bool → Type 0
KeepsAllOut w s begins r = KeepsAllPost w.chunks w.span w.held s w.bases.now w.sums.now begins r

abbrev pub FindDelayIn : Pass → ℕ → List ℕ → Type 0
FindDelayIn w tries begins = FindDelayPre w.chunks w.span w.held tries w.bases.now w.sums.now begins

abbrev pub kept_in : Pass → ℕ → Bool
kept_in w = kept_by w.chunks w.span w.held w.bases.now w.sums.now

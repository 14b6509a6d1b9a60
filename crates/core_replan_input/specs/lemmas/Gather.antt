-- Lemmas. The tables that the fetched rows make, and whether the rows keep what refusal 22 asks: by
-- the sums and first slots of core_rules, Tables.
use Rattle.std.specs.Prelude.{ℕ, suc, ◌+◌, ◌*◌, ◌-◌, ◌≤◌, ◌<◌, ◌≡◌, Bool, true, false, List, length, get_or, leb, ltb, eqb}
use Rattle.theory_basics.specs.Tests.{All, all_below, all_to}
use Rattle.job.specs.Job.{Override, last_due}
use Rattle.core_sizes.specs.Table.{table_at}
use Rattle.job.specs.declared.Programme.{Programme}
use Rattle.fetch.specs.Rows.{Row, mark_byte}
use Rattle.theory_replan.specs.Refusal.{fetched_kept}
use Rattle.core_replan_decide.specs.lemmas.Decision.{Tabled, job_from}
use Rattle.core_replan_decide.specs.lemmas.Tables.{Small, of}
use Rattle.core_rules.specs.lemmas.Tables.{Shown, carried_by, lower_by}
use Rattle.core_replan_input.specs.declared.Kept.{Kept}

-- ---- chunk by chunk

-- The sum of layer n of chunk i is at most its size.
abbrev pub few_by : (ℕ → ℕ → ℕ) → List ℕ → ℕ → ℕ → Bool
few_by size sums i n = leb (get_or sums (4 * (i - 1) + n) 0) (size i n)

-- The flags and marks of the chunks up to count.
pub record Flags (size : ℕ → ℕ → ℕ) (sums first : List ℕ) (depth count : ℕ) (begun whole : List ℕ) : Type 0 where
  pub begun_is : (i : ℕ) → 1 ≤ i → i ≤ count → eqb (of begun i) 1 ≡ ltb (get_or first i 0) 65535
  pub whole_is : (i : ℕ) → 1 ≤ i → i ≤ count → of whole i ≡ mark_byte (carried_by size sums i) depth

-- And whether they keep rule 3, and no sum exceeds its size.
pub record SetFlagsPost (size : ℕ → ℕ → ℕ) (sums first : List ℕ) (depth count : ℕ) (r : Kept) (begun whole : List ℕ) : Type 0 where
  pub lower : r.lower ≡ all_to count (λ i. all_below depth (lower_by (carried_by size sums i)))
  pub few : r.few ≡ all_to count (λ i. all_below depth (few_by size sums i))
  pub flags : Flags size sums first depth count begun whole

-- No chunk of the first count begins in an earlier slot than one that plays before it.
abbrev pub InTurnBy : List ℕ → ℕ → Type 0
InTurnBy first count =
    (a b : ℕ) → 1 ≤ a → a < b → b ≤ count → get_or first a 0 < 65535 → get_or first b 0 < 65535 → get_or first a 0 ≤ get_or first b 0

pub record InTurnPost (first : List ℕ) (count : ℕ) (r : Bool) : Type 0 where
  pub holds : r ≡ true → InTurnBy first count
  pub fails : r ≡ false → InTurnBy first count → ⊥

-- ---- what is left

pub record SetLeftPost (table sums left : List ℕ) : Type 0 where
  pub is : (k : ℕ) → k < 2000 → get_or left k 0 ≡ get_or table k 0 - get_or sums k 0

-- ---- the whole

pub record GatherPre (p : Programme) (depth : ℕ) (earlier ss cs ls bs : List ℕ) : Type 0 where
  pub chunks_few : p.chunks ≤ 500
  pub slots_few : last_due p ≤ 3600
  pub layers_few : depth ≤ 4
  pub earlier_few : length earlier ≤ 3600
  pub chunk_each : length ss ≡ length cs
  pub layer_each : length ss ≡ length ls
  pub bytes_each : length ss ≡ length bs

-- For every accepted job whose sizes the table has and whose forecast begins with earlier: the
-- rows, all in its slots, keep what 22 asks exactly if the answer is yes, and then the tables are
-- those that the decision made afresh asks for.
pub record GatherPost (p : Programme) (table : List ℕ) (depth : ℕ) (earlier : List ℕ) (rows : List Row) (r : Bool) (left begun whole : List ℕ) : Type 0 where
  pub kept :
      (sizes : List ℕ) (os : List Override) (part : List ℕ) → Shown table depth (job_from p sizes os earlier part) →
      All (λ x. x.slot < suc (length earlier)) rows → r ≡ fetched_kept (job_from p sizes os earlier part) rows
  pub tabled :
      r ≡ true → (sizes : List ℕ) (os : List Override) (part : List ℕ) → Shown table depth (job_from p sizes os earlier part) →
      Tabled (job_from p sizes os earlier part) rows (table_at left) begun whole
  pub small :
      r ≡ true → (sizes : List ℕ) (os : List Override) (part : List ℕ) → Shown table depth (job_from p sizes os earlier part) → Small (table_at left)

-- Meaning. What a wrong second can cost: document 02, request 10, "One slot of the forecast is
-- off". "Nothing is said of upper layers." A job, `Accepted` and `EqualChunks` stand in crate job,
-- Job; division rounded up in crate theory_basics, Division.
use Rattle.std.specs.Prelude.{ℕ, ◌+◌, ◌≤◌, ◌≡◌, List, get_or}
use Rattle.theory_basics.specs.Division.{divided_up}
use Rattle.job.specs.Job.{Accepted, Job, Within, forecast, last_slot, size, with_forecast}

-- "one slot's forecast grows by b bytes and nothing else changes": k is the job j with b bytes more
-- in slot t.
pub record OneSlotMore (j k : Job) (t b : ℕ) : Type 0 where
  pub same_else : k ≡ with_forecast j k.forecast
  pub slot_in : Within 1 (last_slot j) t
  pub grown : forecast k t ≡ forecast j t + b
  pub other_slots : (u : ℕ) → 1 ≤ u → u ≤ last_slot j → (u ≡ t → ⊥) → forecast k u ≡ forecast j u

-- Where chunks are equal, the base size is that of chunk 1.
abbrev pub equal_base_size : Job → ℕ
equal_base_size j = size j 1 0

-- Of the four layer counts of a plan, the number of bases carried.
abbrev pub bases : List ℕ → ℕ
bases counts = get_or counts 0 0

-- The number of bases without and with b bytes more in one slot, where a base has z bytes:
pub record RisesLittle (z b without with-more : ℕ) : Type 0 where
  -- "the number of bases carried never falls,
  pub never_falls : without ≤ with-more
  -- and it rises by at most b divided by the base size, rounded up."
  pub rises_at_most : with-more ≤ without + divided_up b z

-- The job j against every other accepted job that differs in one slot, where counts k are the
-- counts of job k's plan. For j of equal chunks the other's are equal too, since nothing but the
-- forecast changes.
pub record Steady (j : Job) (counts : Job → List ℕ) : Type 0 where
  -- One slot's forecast grows by b bytes from j to k.
  pub growing :
      (k : Job) → Accepted k → (t b : ℕ) → OneSlotMore j k t b → RisesLittle (equal_base_size j) b (bases (counts j)) (bases (counts k))
  -- "and for shrinking likewise": it shrinks by b bytes from j to k, so that j has b bytes more.
  pub shrinking :
      (k : Job) → Accepted k → (t b : ℕ) → OneSlotMore k j t b → RisesLittle (equal_base_size j) b (bases (counts k)) (bases (counts j))

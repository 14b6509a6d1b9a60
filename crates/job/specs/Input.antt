-- Meaning. A job as a direct call hands it over, its SZs in three slices of one length: refusal 18
-- for an SZ not handed whole, then for its numbers, "after 6 and before 7". That there is none
-- exactly if the SZs are handed whole and the job is accepted is a theorem (Theorems, `input_iff`).
use Rattle.std.specs.Prelude.{ℕ, ◌≡◌, ◌&&◌, List, [], ◌∷◌, map, length, eqb}
use Rattle.theory_basics.specs.Refusals.{unless, ◌or_else◌}
use Rattle.job.specs.declared.Programme.{Programme}
use Rattle.job.specs.Job.{Job, Override, job_of}
use Rattle.job.specs.Refusal.{fields_refusal, last_due_refusal, sizes_refusal, overrides_refusal, forecast_refusal}

-- The SZs that three slices hold.
abbrev pub overrides_of : List ℕ → List ℕ → List ℕ → List Override
overrides_of [] ls bs = []
overrides_of (c ∷ cs) [] bs = []
overrides_of (c ∷ cs) (l ∷ ls) [] = []
overrides_of (c ∷ cs) (l ∷ ls) (b ∷ bs) = record { chunk = c; layer = l; bytes = b } ∷ overrides_of cs ls bs

-- The three slices that hold some SZs.
abbrev pub override_chunks : List Override → List ℕ
override_chunks os = map (λ (o : Override). o.chunk) os

abbrev pub override_layers : List Override → List ℕ
override_layers os = map (λ (o : Override). o.layer) os

abbrev pub override_bytes : List Override → List ℕ
override_bytes os = map (λ (o : Override). o.bytes) os

-- Every SZ is handed whole.
pub record WholeSizes (cs ls bs : List ℕ) : Type 0 where
  pub layer_each : length ls ≡ length cs
  pub bytes_each : length bs ≡ length cs

-- 18: an SZ not handed whole.
abbrev pub whole_refusal : List ℕ → List ℕ → List ℕ → ℕ
whole_refusal cs ls bs = unless 18 (eqb (length ls) (length cs) && eqb (length bs) (length cs))

-- A job as a call hands it over.
pub record JobInput : Type 0 where
  pub programme : Programme
  pub sizes : List ℕ
  pub size_chunks : List ℕ
  pub size_layers : List ℕ
  pub size_bytes : List ℕ
  pub forecast : List ℕ

abbrev pub job_input : Programme → (sizes size_chunks size_layers size_bytes forecast : List ℕ) → JobInput
job_input p sizes cs ls bs forecast =
    record { programme = p; sizes = sizes; size_chunks = cs; size_layers = ls; size_bytes = bs; forecast = forecast }

-- The job that it is.
abbrev pub job_in : JobInput → Job
job_in h = job_of h.programme h.sizes (overrides_of h.size_chunks h.size_layers h.size_bytes) h.forecast

-- "Direct calls without files check 5, 6, 7", and 18 "after 6 and before 7".
unfoldable pub job_refusal : JobInput → ℕ
job_refusal h =
    fields_refusal h.programme
    or_else last_due_refusal h.programme
    or_else sizes_refusal h.sizes
    or_else whole_refusal h.size_chunks h.size_layers h.size_bytes
    or_else overrides_refusal h.programme h.sizes (overrides_of h.size_chunks h.size_layers h.size_bytes)
    or_else forecast_refusal h.programme h.forecast

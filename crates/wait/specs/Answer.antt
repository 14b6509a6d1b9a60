-- Meaning. What the call answers: the smallest s by trying one after the other, each with the plan
-- of its job, or a refusal's number. The call's contract says beside it, in the words of Wait, what
-- a delay and what 16 mean.
use Rattle.std.specs.Prelude.{Result, Ok, Err, ℕ, zero, suc, ◌*◌, ◌-◌, ◌≡◌, Bool, cond, List, ◌↔◌, length, ltb}
use Rattle.theory_basics.specs.Tests.{all_to}
use Rattle.theory_basics.specs.Refusals.{unless, ◌or_else◌}
use Rattle.refusals.specs.Numbers.{answered}
use Rattle.job.specs.Input.{WholeSizes, overrides_of, whole_refusal}
use Rattle.job.specs.Job.{Accepted, Job, chunks}
use Rattle.job.specs.Refusal.{bytes_refusal, film_refusal, overrides_refusal, sizes_refusal, within}
use Rattle.theory_plan.specs.Plan.{plan}
use Rattle.wait.specs.Wait.{Film, FilmInRange, NoneWorks, ShortestWait, film_of, job_at, programme_at}

-- ---- the smallest s

-- "The plan skips no base layer."
unfoldable pub skips_none : Job → Bool
skips_none j = all_to (chunks j) (λ i. ltb 0 (plan j i))

-- The first of s .. s + n - 1 that passes, or 0.
abbrev pub first_from : (ℕ → Bool) → ℕ → ℕ → ℕ
first_from p s zero = 0
first_from p s (suc n) = let later = first_from p (suc s) n in cond (p s) s later

-- How many s the forecast reaches: d(C) is (C - 1) × L + s.
abbrev pub tries : Film → ℕ
tries w = length w.forecast - (w.chunks - 1) * w.span

-- The smallest s within the forecast whose plan skips no base, or 0 if there is none.
unfoldable pub shortest : Film → ℕ
shortest w = first_from (λ s. skips_none (job_at w s)) 1 (tries w)

-- ---- the film as a call hands it over

-- Its SZs in three slices.
pub record WaitInput : Type 0 where
  pub chunks : ℕ
  pub span : ℕ
  pub limit : ℕ
  pub sizes : List ℕ
  pub size_chunks : List ℕ
  pub size_layers : List ℕ
  pub size_bytes : List ℕ
  pub forecast : List ℕ

abbrev pub wait_input : (chunks span limit : ℕ) (sizes size_chunks size_layers size_bytes forecast : List ℕ) → WaitInput
wait_input chunks span limit sizes cs ls bs forecast =
    record { chunks = chunks; span = span; limit = limit; sizes = sizes; size_chunks = cs; size_layers = ls; size_bytes = bs; forecast = forecast }

-- The film that it is.
abbrev pub film_in : WaitInput → Film
film_in h =
    film_of h.chunks h.span h.limit h.sizes (overrides_of h.size_chunks h.size_layers h.size_bytes) h.forecast

-- Every SZ is handed whole.
abbrev pub WholeSizesIn : WaitInput → Type 0
WholeSizesIn h = WholeSizes h.size_chunks h.size_layers h.size_bytes

-- ---- the refusals

-- "5 without s and d(C)": C, L and the limit.
abbrev pub five_refusal : Film → ℕ
five_refusal w = film_refusal (programme_at w 1)

-- "6".
abbrev pub six_refusal : Film → ℕ
six_refusal w = sizes_refusal w.sizes

-- 18: an SZ not handed whole, then an SZ's numbers.
abbrev pub numbers_refusal : Film → ℕ
numbers_refusal w = overrides_refusal (programme_at w 1) w.sizes w.overrides

abbrev pub eighteen_refusal : WaitInput → ℕ
eighteen_refusal h = whole_refusal h.size_chunks h.size_layers h.size_bytes or_else numbers_refusal (film_in h)

-- "7 for a forecast of no slot, above 3,600 slots
abbrev pub slots_refusal : List ℕ → ℕ
slots_refusal forecast = unless 7 (within 1 3600 (length forecast))

-- or with bytes out of range."
abbrev pub seven_refusal : Film → ℕ
seven_refusal w = slots_refusal w.forecast or_else bytes_refusal w.forecast

-- "16, exactly if no s within the forecast works, a forecast too short for s = 1 included."
abbrev pub sixteen_refusal : Film → ℕ
sixteen_refusal w = unless 16 (ltb 0 (shortest w))

-- "It comes after 5 .., 6, and 7", and 18 "after 6 and before 7".
unfoldable pub input_refusal : WaitInput → ℕ
input_refusal h = five_refusal (film_in h) or_else six_refusal (film_in h) or_else eighteen_refusal h or_else seven_refusal (film_in h)

unfoldable pub wait_refusal : WaitInput → ℕ
wait_refusal h = input_refusal h or_else sixteen_refusal (film_in h)

-- ---- the call

-- The smallest s, or the refusal's number.
abbrev pub answer_of : WaitInput → Result ℕ ℕ
answer_of h = answered (wait_refusal h) (shortest (film_in h))

-- ---- what the answer means

-- s is the answer.
pub record Answered (h : WaitInput) (s : ℕ) : Type 0 where
  -- Every SZ is handed whole: no 18 for that.
  pub whole : WholeSizesIn h
  -- Nothing is out of range: none of "5 without s and d(C), 6, and 7", nor 18.
  pub in_range : FilmInRange (film_in h)
  -- "The job for a tried s uses the first d(C) slots", and it is accepted.
  pub accepted : Accepted (job_at (film_in h) s)
  -- "The smallest s for which the plan skips no base layer": "no smaller s works, whatever larger
  -- ones do."
  pub shortest : ShortestWait (film_in h) s

-- The call answers s exactly then,
abbrev pub DelayMeans : WaitInput → Result ℕ ℕ → Type 0
DelayMeans h r = (s : ℕ) → (r ≡ Ok s) ↔ Answered h s

-- and 16 exactly if every SZ is handed whole, the input is in range and no s within the forecast
-- works.
abbrev pub SixteenMeans : WaitInput → Result ℕ ℕ → Type 0
SixteenMeans h r = (r ≡ Err 16) ↔ ((WholeSizesIn h × FilmInRange (film_in h)) × NoneWorks (film_in h))

-- What `wait` promises of a film as handed, with its answer.
pub record WaitPromise (h : WaitInput) (r : Result ℕ ℕ) : Type 0 where
  -- The smallest s, or a refusal's number: "5 without s and d(C), 6, and 7", with 18 before 7, then
  -- 16.
  pub answer : r ≡ answer_of h
  -- "find the smallest s for which the plan skips no base layer"
  pub delay : DelayMeans h r
  -- "16, exactly if no s within the forecast works, a forecast too short for s = 1 included."
  pub sixteen : SixteenMeans h r

-- Meaning. What the two calls answer, and the lent forecast afterwards: document 02, request 11,
-- "Both come after 8", and document 01, "Each gives its number alone; buffers and meter keep their
-- bytes."
use Rattle.std.specs.Prelude.{ℕ, ◌≡◌, cond, List, [], eqb}
use Rattle.theory_basics.specs.Refusals.{◌or_else◌}
use Rattle.job.specs.declared.Programme.{Programme}
use Rattle.job.specs.declared.handed.Overrides.{Overrides}
use Rattle.job.specs.Input.{JobInput, job_input, job_in, job_refusal}
use Rattle.fetch.specs.Input.{list_refusal}
use Rattle.fetch.specs.Slices.{ListSlices, RowSlices, list_rows, rows_in}
use Rattle.checker.specs.Checked.{check_refusal}
use Rattle.booking.specs.Booking.{added_back, pass_refusal, room_refusal, taken_off}

-- The forecast after the call, or on a refusal as it was.
abbrev pub forecast_after : ℕ → List ℕ → List ℕ → List ℕ
forecast_after refused new old = cond (eqb refused 0) new old

-- The handed job on another forecast.
abbrev pub on_forecast : JobInput → List ℕ → JobInput
on_forecast h f = job_input h.programme h.sizes h.size_chunks h.size_layers h.size_bytes f

-- The job of a film whose forecast is lent to be changed.
abbrev pub lent_job : Programme → (sizes : List ℕ) → Overrides → (forecast : List ℕ) → JobInput
lent_job p sizes o forecast = job_input p sizes o.chunks.now o.layers.now o.bytes.now forecast

-- ---- booking

-- 5, 6, 18, 7, 8 as the checker gives them, then 19.
abbrev pub book_refusal : JobInput → ListSlices → ℕ
book_refusal h s = check_refusal h s or_else pass_refusal (job_in h) s.marks (list_rows s)

-- What `book` promises of a job and a list as handed, with its refusal's number, 0 for none, and
-- the forecast afterwards.
pub record BookPromise (h : JobInput) (s : ListSlices) (r : ℕ) (after : List ℕ) : Type 0 where
  -- "19, booking a list whose verdict isn't 0", after 8.
  pub answered : r ≡ book_refusal h s
  -- "Booking a fetch list takes a passing list off its job's forecast and leaves the unspent bytes
  -- of each slot."
  pub left : after ≡ forecast_after (book_refusal h s) (taken_off h.forecast (list_rows s)) h.forecast

-- ---- releasing

-- 8 for a row not handed whole; marks are not handed, and none are asked for.
abbrev pub rows_refusal : RowSlices → ℕ
rows_refusal s = list_refusal 0 [] s.slots s.chunks s.layers s.bytes

-- 5, 6, 18, 7, 8, then 20.
abbrev pub release_refusal : JobInput → RowSlices → ℕ
release_refusal h s = job_refusal h or_else rows_refusal s or_else room_refusal h.forecast (rows_in s)

-- What `release` promises of a job and rows as handed, with its refusal's number, 0 for none, and
-- the forecast afterwards.
pub record ReleasePromise (h : JobInput) (s : RowSlices) (r : ℕ) (after : List ℕ) : Type 0 where
  -- "20, releasing a row for a slot that isn't there or beyond 16,777,216 bytes in a slot", after
  -- 8.
  pub answered : r ≡ release_refusal h s
  -- "Releasing adds a list's bytes back."
  pub left : after ≡ forecast_after (release_refusal h s) (added_back h.forecast (rows_in s)) h.forecast

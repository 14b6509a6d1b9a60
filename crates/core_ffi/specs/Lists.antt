-- Meaning. Fetch lists for callers in C or Rust: the checker's two calls, bookings and counts of
-- marks. Refusals, verdicts and forecasts are the library's own.
use Rattle.std.specs.Prelude.{ℕ, ◌≡◌, List, [], ◌∷◌, length, leb}
use Rattle.theory_basics.specs.Lent.{lent_after}
use Rattle.theory_basics.specs.Refusals.{unless}
use Rattle.job.specs.Input.{JobInput, job_in}
use Rattle.fetch.specs.Counts.{mark_count}
use Rattle.fetch.specs.Slices.{ListSlices, RowSlices, list_rows, rows_in}
use Rattle.fetch.specs.Verdict.{verdict}
use Rattle.fetch.specs.VerdictFrom.{verdict_from}
use Rattle.checker.specs.Checked.{check_from_refusal, check_refusal}
use Rattle.booking.specs.Answer.{book_refusal, forecast_after, release_refusal}
use Rattle.booking.specs.Booking.{added_back, taken_off}
use Rattle.core_ffi.specs.Convention.{answered}

-- The verdict, of either call.
abbrev pub check_answer : JobInput → ListSlices → ℕ
check_answer h s = answered (check_refusal h s) (verdict (job_in h) s.marks (list_rows s))

abbrev pub check_from_answer : JobInput → ℕ → ListSlices → ℕ
check_from_answer h from s = answered (check_from_refusal h from s) (verdict_from (job_in h) from s.marks (list_rows s))

-- `film_book`.
pub record BookReturned (h : JobInput) (s : ListSlices) (r : ℕ) (after : List ℕ) : Type 0 where
  -- 0, or the refusal.
  pub number : r ≡ answered (book_refusal h s) 0
  -- The job's forecast less the list's bytes; on a refusal as it was.
  pub left : after ≡ forecast_after (book_refusal h s) (taken_off h.forecast (list_rows s)) h.forecast

-- `film_release`.
pub record ReleaseReturned (h : JobInput) (s : RowSlices) (r : ℕ) (after : List ℕ) : Type 0 where
  -- 0, or the refusal.
  pub number : r ≡ answered (release_refusal h s) 0
  -- The forecast with the list's bytes added back; on a refusal as it was.
  pub left : after ≡ forecast_after (release_refusal h s) (added_back h.forecast (rows_in s)) h.forecast

-- 11 without room for one number.
abbrev pub count_refusal : List ℕ → ℕ
count_refusal count = unless 11 (leb 1 (length count))

abbrev pub count_after : ℕ → (marks count : List ℕ) → List ℕ
count_after n marks count = lent_after (count_refusal count) (mark_count n marks ∷ []) count

-- `film_count_marks`.
pub record CountMarksReturned (marks : List ℕ) (n : ℕ) (count : List ℕ) (r : ℕ) (count' : List ℕ) : Type 0 where
  -- 0, or 11.
  pub number : r ≡ answered (count_refusal count) 0
  -- The count, in front of what the slice held: that of marks of any length may be 2^32 or more.
  pub after : count' ≡ count_after n marks count

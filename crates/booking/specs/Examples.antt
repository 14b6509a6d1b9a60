-- Theorems. Document 01's job A on one link, by computation: its plan's own list booked, booked
-- again and released, and 20 at its edges.
use Rattle.std.specs.Prelude.{ℕ, ◌≡◌, refl, List, [], ◌∷◌}
use Rattle.job.specs.Job.{Job, job_of, size_in, with_forecast}
use Rattle.fetch.specs.Rows.{Row}
use Rattle.fetch.specs.Verdict.{verdict}
use Rattle.booking.specs.Booking.{added_back, pass_refusal, room_refusal, taken_off}

abbrev row : ℕ → ℕ → ℕ → ℕ → Row
row t i n b = record { slot = t; chunk = i; layer = n; bytes = b }

-- C 3, L 2, s 2, limit 2, sizes 2 and 1, B = 3, 0, 1, 0, 2, 0.
abbrev A : Job
A = job_of (record { chunks = 3; span = 2; delay = 2; limit = 2 }) (2 ∷ 1 ∷ []) [] (3 ∷ 0 ∷ 1 ∷ 0 ∷ 2 ∷ 0 ∷ [])

abbrev marks_a : List ℕ
marks_a = 0 ∷ 3 ∷ 1 ∷ []

abbrev rows_a : List Row
rows_a = row 1 2 0 2 ∷ row 1 2 1 1 ∷ row 5 3 0 2 ∷ []

abbrev left_a : List ℕ
left_a = 0 ∷ 0 ∷ 1 ∷ 0 ∷ 0 ∷ 0 ∷ []

pub A_booked : taken_off A.forecast rows_a ≡ left_a
unfolding taken_off
A_booked = refl

pub A_released : added_back left_a rows_a ≡ A.forecast
unfolding added_back
A_released = refl

-- Booked once. On what is left its verdict is 4, and with other marks it is 7: 19 both times.
pub A_nineteen :
    (pass_refusal A marks_a rows_a ≡ 0) × (pass_refusal (with_forecast A left_a) marks_a rows_a ≡ 19) × (pass_refusal A (0 ∷ 3 ∷ 3 ∷ []) rows_a ≡ 19)
unfolding pass_refusal verdict size_in
A_nineteen = (refl, refl, refl)

-- Slots 0 and 7 aren't there, whatever the bytes; slot 1 has 3 bytes, so 16,777,213 more are its
-- most, in one row or in two.
pub A_twenty :
    (room_refusal A.forecast (row 0 1 0 0 ∷ []) ≡ 20) × (room_refusal A.forecast (row 7 1 0 0 ∷ []) ≡ 20)
    × (room_refusal A.forecast (row 1 1 0 16777213 ∷ []) ≡ 0) × (room_refusal A.forecast (row 1 1 0 16777213 ∷ row 1 2 0 1 ∷ []) ≡ 20)
unfolding room_refusal
A_twenty = (refl, refl, refl, refl)

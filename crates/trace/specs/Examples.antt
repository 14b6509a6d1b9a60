-- Theorems. Small traces by computation.
use Rattle.std.specs.Prelude.{ℕ, ◌*◌, ◌≡◌, refl, List, [], ◌∷◌, ◌++◌}
use Rattle.theory_basics.specs.Text.{ascii, digits}
use Rattle.trace.specs.Trace.{above_refusal, forecast_of, unwritable_refusal, times, trace_of, trace_refusal}

-- `0`, `0999`, `1000`, `5000`.
abbrev pub small : List ℕ
small = ascii "0\n0999\n1000\n5000\n"

-- Leading zeros are read; 999 is in slot 1 and 1,000 in slot 2; the line of slot 6 is read and not
-- counted.
pub small_read : (trace_refusal 3 small ≡ 0) × (forecast_of 3 small ≡ 3000 ∷ 1500 ∷ 0 ∷ [])
unfolding trace_refusal forecast_of times
small_read = (refl, refl)

-- 14: no line feed at the end, no digit, eight digits, another byte, a time below in a line that is
-- not counted. 7 comes first.
pub refused :
    (trace_refusal 1 (ascii "0") ≡ 14)
    × ((trace_refusal 1 (ascii "\n") ≡ 14)
    × ((trace_refusal 1 (ascii "00000000\n") ≡ 14)
    × ((trace_refusal 1 (ascii "0 \n") ≡ 14)
    × ((trace_refusal 1 (small ++ ascii "4\n") ≡ 14) × ((trace_refusal 0 (ascii "0") ≡ 7) × (trace_refusal 3601 [] ≡ 7))))))
unfolding trace_refusal forecast_of times
refused = (refl, (refl, (refl, (refl, (refl, (refl, refl))))))

pub small_written : trace_of (3000 ∷ 0 ∷ 1500 ∷ []) ≡ ascii "0\n0\n2000\n"
unfolding trace_of digits
small_written = refl

-- 15 in writing: no multiple of 1,500, or above 16,777,216.
pub write_refused :
    (unwritable_refusal (1499 ∷ []) ≡ 15)
    × ((unwritable_refusal (16776000 ∷ []) ≡ 0) × ((unwritable_refusal (16777500 ∷ []) ≡ 15) × (unwritable_refusal [] ≡ 7)))
unfolding unwritable_refusal
write_refused = (refl, (refl, (refl, refl)))

-- 15 in reading, by itself: 11,184 lines in a slot pass, one more is above.
pub above_edge : (above_refusal ((1500 * 11184) ∷ []) ≡ 0) × (above_refusal ((1500 * 11185) ∷ []) ≡ 15)
above_edge = (refl, refl)

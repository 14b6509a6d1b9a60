-- Meaning. Link traces from the test van: document 02, request 4. "one line per 1,500 bytes that
-- got through, holding the time in milliseconds as digits, ended by a line feed". A trace is a list
-- of lines and a line is its digits; bytes are ASCII.
use Rattle.std.specs.Prelude.{ℕ, suc, ◌+◌, ◌*◌, ◌-◌, ◌/◌, ◌%◌, ◌≤◌, ◌≡◌, Bool, true, cond, ◌&&◌, List, [], ◌∷◌, ◌++◌, map, length, replicate, leb, ltb, eqb}
use Rattle.theory_basics.specs.Lists.{up_to}
use Rattle.theory_basics.specs.Refusals.{unless, ◌or_else◌}
use Rattle.theory_basics.specs.Tests.{All, all}
use Rattle.theory_basics.specs.Text.{digits, read_on}
use Rattle.job.specs.Job.{Within}
use Rattle.job.specs.Refusal.{within}

-- ---- what a trace is

-- The bytes of lines: each, then its line feed.
abbrev pub lines_bytes : List (List ℕ) → List ℕ
lines_bytes [] = []
lines_bytes (l ∷ ls) = l ++ (10 ∷ lines_bytes ls)

-- A line is 1 to 7 digits.
pub record Line (l : List ℕ) : Type 0 where
  pub few : Within 1 7 (length l)
  pub digits : All (Within 48 57) l

-- The time that a line holds, in milliseconds. Leading zeros are read.
abbrev pub time : List ℕ → ℕ
time l = read_on 0 l

-- No time is below the one before, from t on. Equal times may follow each other.
abbrev pub NotBelow : ℕ → List ℕ → Type 0
NotBelow t [] = Unit {0}
NotBelow t (x ∷ xs) = (t ≤ x) × NotBelow x xs

-- The trace is these lines.
pub record Means (trace : List ℕ) (lines : List (List ℕ)) : Type 0 where
  pub bytes : trace ≡ lines_bytes lines
  pub each : All Line lines
  pub rises : NotBelow 0 (map time lines)

-- ---- its lines, found

-- The lines that are ended by a line feed, and what stands after the last line feed.
pub record Found : Type 0 where
  pub lines : List (List ℕ)
  pub rest : List ℕ

-- A byte other than a line feed in front.
abbrev pub front : ℕ → List (List ℕ) → List ℕ → Found
front b [] rest = record { lines = []; rest = b ∷ rest }
front b (l ∷ ls) rest = record { lines = (b ∷ l) ∷ ls; rest = rest }

abbrev pub found : List ℕ → Found
found [] = record { lines = []; rest = [] }
found (b ∷ bs) =
    let f = found bs in
    cond (eqb b 10) (record { lines = [] ∷ f.lines; rest = f.rest }) (front b f.lines f.rest)

-- The times of the trace's lines.
unfoldable pub times : List ℕ → List ℕ
times trace = map time (found trace).lines

-- ---- the forecast that it gives

-- How many pass.
abbrev pub how_many : (ℕ → Bool) → List ℕ → ℕ
how_many p [] = 0
how_many p (x ∷ xs) = cond (p x) 1 0 + how_many p xs

-- "from (j − 1) × 1,000 up to, but not including, j × 1,000".
abbrev pub in_slot : ℕ → ℕ → Bool
in_slot j t = leb ((j - 1) * 1000) t && ltb t (j * 1000)

-- "Slot j gets 1,500 times the lines from .. Later lines are read and not counted".
abbrev pub slot_bytes : List ℕ → ℕ → ℕ
slot_bytes ts j = 1500 * how_many (in_slot j) ts

-- The forecast of so many slots.
unfoldable pub forecast_of : ℕ → List ℕ → List ℕ
forecast_of slots trace = up_to (λ k. slot_bytes (times trace) (k + 1)) slots

-- ---- the trace of a forecast

-- "each slot's lines at its first millisecond, without leading zeros". The first slot handed is
-- slot t + 1.
abbrev pub lines_from : ℕ → List ℕ → List (List ℕ)
lines_from t [] = []
lines_from t (b ∷ bs) = replicate (b / 1500) (digits (t * 1000)) ++ lines_from (suc t) bs

unfoldable pub trace_of : List ℕ → List ℕ
trace_of forecast = lines_bytes (lines_from 0 forecast)

-- ---- refusals that come from the input: "A slot count out of range is 7 and comes first, then 14,
-- then 15."

abbrev pub slots_refusal : ℕ → ℕ
slots_refusal slots = unless 7 (within 1 3600 slots)

abbrev pub line : List ℕ → Bool
line l = within 1 7 (length l) && all (within 48 57) l

abbrev pub not_below : ℕ → List ℕ → Bool
not_below t [] = true
not_below t (x ∷ xs) = leb t x && not_below x xs

-- "14, a line that isn't 1 to 7 digits, lacks its line feed, or has a time below the line before".
abbrev pub lines_refusal : List ℕ → ℕ
lines_refusal trace =
    let f = found trace in
    unless 14 (eqb (length f.rest) 0 && (all line f.lines && not_below 0 (map time f.lines)))

-- "15, a slot above 16,777,216 bytes (here not 7)".
abbrev pub above_refusal : List ℕ → ℕ
above_refusal forecast = unless 15 (all (within 0 16777216) forecast)

unfoldable pub trace_refusal : ℕ → List ℕ → ℕ
trace_refusal slots trace = slots_refusal slots or_else lines_refusal trace or_else above_refusal (forecast_of slots trace)

-- "15, .. or a slot not a multiple of 1,500 in writing".
abbrev pub writable : ℕ → Bool
writable b = within 0 16777216 b && eqb (b % 1500) 0

unfoldable pub unwritable_refusal : List ℕ → ℕ
unwritable_refusal forecast = slots_refusal (length forecast) or_else unless 15 (all writable forecast)

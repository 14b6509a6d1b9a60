-- Meaning. The report of a job and a fetch list: document 01, "The report program reads a job on
-- standard input. For A it prints ..", with the last line of document 02's request 1 and the switch
-- sum of its request 2. A report is lines; a line is words and numbers; a number of the list is a
-- sum over its rows.
use Rattle.std.specs.Prelude.{ℕ, zero, suc, ◌+◌, ◌*◌, ◌-◌, ◌/◌, ◌%◌, Bool, cond, true, List, [], ◌∷◌, ◌++◌}
use Rattle.theory_basics.specs.Lists.{up_to}
use Rattle.theory_basics.specs.Sums.{pre, sum}
use Rattle.job.specs.Job.{Job, chunks, layers, forecast, last_slot, held_most}
use Rattle.fetch.specs.Rows.{Row, bytes_if, bytes_of_layer, carried, layer_count, layers_carried}
use Rattle.theory_basics.specs.Text.{ascii, digits, line, text}

-- "Line 1: d(C), C, H." H itself, also above C.
abbrev pub slots_line : Job → List ℕ
slots_line j = line (ascii "slots") (digits (last_slot j) ∷ ascii "chunks" ∷ digits (chunks j) ∷ ascii "held" ∷ digits (held_most j) ∷ [])

abbrev pub bytes_carried : Job → List Row → ℕ → ℕ
bytes_carried j rows i = sum (λ n. cond (carried j rows i n) (bytes_of_layer rows i n) 0) (layers j)

-- "Then per chunk: number, layers carried, bytes carried."
abbrev pub chunk_line : Job → List Row → ℕ → List ℕ
chunk_line j rows i = line (digits i) (digits (layers_carried j rows i) ∷ digits (bytes_carried j rows i) ∷ [])

abbrev pub chunk_lines : Job → List Row → List ℕ
chunk_lines j rows = text (up_to (λ k. chunk_line j rows (k + 1)) (chunks j))

-- "Then the counts of the job's layers".
abbrev pub layers_line : Job → List Row → List ℕ
layers_line j rows = line (ascii "layers") (up_to (λ n. digits (layer_count j rows n)) (layers j))

-- "bytes in rows and forecast bytes unspent": the sum over all rows, and the forecast's sum less
-- it.
abbrev pub bytes_in_rows : List Row → ℕ
bytes_in_rows rows = bytes_if (λ x. true) rows

abbrev pub forecast_sum : Job → ℕ
forecast_sum j = pre (forecast j) (last_slot j)

abbrev pub left : Job → List Row → ℕ
left j rows = forecast_sum j - bytes_in_rows rows

abbrev pub bytes_line : Job → List Row → List ℕ
bytes_line j rows = line (ascii "bytes") (digits (bytes_in_rows rows) ∷ ascii "left" ∷ digits (left j rows) ∷ [])

-- How far apart two numbers are, and the sum of that over the neighbours in a list.
abbrev pub apart : ℕ → ℕ → ℕ
apart a b = (a - b) + (b - a)

abbrev pub differences : List ℕ → ℕ
differences [] = 0
differences (x ∷ []) = 0
differences (x ∷ (y ∷ ys)) = apart x y + differences (y ∷ ys)

-- f i for each i of 1 .. n that passes, in turn.
abbrev pub those : (ℕ → Bool) → (ℕ → ℕ) → ℕ → List ℕ
those p f zero = []
those p f (suc n) = those p f n ++ cond (p (suc n)) (f (suc n) ∷ []) []

-- The bytes of the carried chunks, in playing order: a chunk is carried if its base is.
abbrev pub carried_bytes : Job → List Row → List ℕ
carried_bytes j rows = those (λ i. carried j rows i 0) (bytes_carried j rows) (chunks j)

-- "The switch sum now compares each carried chunk with the next carried one, however many skipped
-- ones are between".
abbrev pub switch_sum : Job → List Row → ℕ
switch_sum j rows = differences (carried_bytes j rows)

abbrev pub switch_line : Job → List Row → List ℕ
switch_line j rows = line (ascii "switch") (digits (switch_sum j rows) ∷ [])

-- C × L, the slots of film in the programme.
abbrev pub film_slots : Job → ℕ
film_slots j = chunks j * j.programme.span

-- "a last line, `rate q r`, with the whole quotient and the exact remainder" of the switch sum by C
-- × L.
abbrev pub rate_line : Job → List Row → List ℕ
rate_line j rows = line (ascii "rate") (digits (switch_sum j rows / film_slots j) ∷ digits (switch_sum j rows % film_slots j) ∷ [])

-- The whole report.
unfoldable pub report_of : Job → List Row → List ℕ
report_of j rows = slots_line j ++ (chunk_lines j rows ++ (layers_line j rows ++ (bytes_line j rows ++ (switch_line j rows ++ rate_line j rows))))

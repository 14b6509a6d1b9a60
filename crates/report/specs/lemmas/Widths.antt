-- Lemmas. How many bytes each line of an accepted job's report has at most. Assumes nothing.
use Rattle.std.specs.Prelude.{ℕ, ◌+◌, ◌-◌, ◌/◌, ◌%◌, ◌≤◌, List, [], ◌∷◌, length}
use Rattle.std.proofs.Common.{ap, arith, div-le_self, mod-lt, mul-le-mul, length-append}
use Rattle.std.proofs.Math.Nat.{one-le-mul}
use Rattle.theory_basics.specs.Lists.{up_to}
use Rattle.job.specs.Job.{Job, Accepted, chunks, layers, size, forecast, last_slot, held_most}
use Rattle.fetch.specs.Rows.{Row, bytes_of_layer, carried, layer_count, layers_carried}
use Rattle.theory_basics.specs.Text.{ascii, digits, ended, text}
use Rattle.theory_basics.specs.lemmas.Digits.{digits_few}
use Rattle.core_text.specs.lemmas.Texts.{text_most, ended_text}
use Rattle.theory_basics.specs.lemmas.Ranges.{sum_most, pre_most, cond_most}
use Rattle.theory_basics.specs.lemmas.Widths.{line_width}
use Rattle.job.specs.lemmas.Within.{all_most, size_most}
use Rattle.report.specs.lemmas.Bounds.{equal_most}
use Rattle.report.specs.lemmas.Switches.{differences_most}
use Rattle.report.specs.Report.{slots_line, bytes_carried, chunk_line, chunk_lines, layers_line, bytes_in_rows, forecast_sum, left, bytes_line, switch_sum, switch_line, film_slots, rate_line}

pub slots_width : (j : Job) → Accepted j → length (slots_line j) ≤ 33
slots_width j ok =
    omega (
      arith,
      line_width (ascii "slots") (digits (last_slot j) ∷ ascii "chunks" ∷ digits (chunks j) ∷ ascii "held" ∷ digits (held_most j) ∷ []),
      digits_few 3 (last_slot j) (omega (arith, ok.last_in)),
      digits_few 2 (chunks j) (omega (arith, ok.chunks_in.high)),
      digits_few 4 (held_most j) (omega (arith, div-le_self j.programme.limit j.programme.span, ok.limit_in.high)),
    )

-- ---- chunks

module _ (j : Job) (rows : List Row) (ok : Accepted j) where
  layers_most : (i : ℕ) → layers_carried j rows i ≤ 4
  layers_most i = omega (arith, sum_most _ 1 (layers j) (λ n. cond_most (carried j rows i n) 1 1 (omega arith)), ok.layers_in.high)

  bytes_most : (i : ℕ) → bytes_carried j rows i ≤ 67108864
  bytes_most i =
      omega (
        arith,
        sum_most _ 16777216 (layers j) (λ n. equal_most (bytes_of_layer rows i n) (size j i n) 16777216 (size_most j ok i n)),
        ok.layers_in.high,
      )

  chunk_width : (i : ℕ) → i ≤ 500 → length (chunk_line j rows i) ≤ 15
  chunk_width i h =
      omega (
        arith,
        line_width (digits i) (digits (layers_carried j rows i) ∷ digits (bytes_carried j rows i) ∷ []),
        digits_few 2 i (omega arith),
        digits_few 0 (layers_carried j rows i) (omega (arith, layers_most i)),
        digits_few 7 (bytes_carried j rows i) (omega (arith, bytes_most i)),
      )

  pub chunks_width : length (chunk_lines j rows) ≤ 7500
  chunks_width =
      omega (
        arith,
        text_most (λ k. chunk_line j rows (k + 1)) 15 (chunks j) (λ k h. chunk_width (k + 1) (omega (arith, ok.chunks_in.high))),
        ok.chunks_in.high,
      )

  -- ---- counts, bytes and the switch sum

  count_most : (n : ℕ) → layer_count j rows n ≤ 500
  count_most n = omega (arith, pre_most _ 1 (chunks j) (λ i. cond_most (carried j rows i n) 1 1 (omega arith)), ok.chunks_in.high)

  pub layers_width : length (layers_line j rows) ≤ 23
  layers_width =
      let f : ℕ → List ℕ = λ n. digits (layer_count j rows n) in
      omega (
        arith,
        length-append (ascii "layers") (ended (up_to f (layers j))),
        ap length (ended_text f (layers j)),
        length-append (text (up_to (λ n. 32 ∷ f n) (layers j))) (10 ∷ []),
        text_most (λ n. 32 ∷ f n) 4 (layers j) (λ n h. omega (arith, digits_few 2 (layer_count j rows n) (omega (arith, count_most n)))),
        ok.layers_in.high,
      )

  forecast_most : forecast_sum j ≤ 60397977600
  forecast_most =
      omega (arith, pre_most (forecast j) 16777216 (last_slot j) (λ t. all_most 0 16777216 j.forecast ok.forecast_in_lem (t - 1)), ok.last_in)

  pub bytes_width : bytes_in_rows rows ≤ forecast_sum j → length (bytes_line j rows) ≤ 35
  bytes_width h =
      omega (
        arith,
        line_width (ascii "bytes") (digits (bytes_in_rows rows) ∷ ascii "left" ∷ digits (left j rows) ∷ []),
        digits_few 10 (bytes_in_rows rows) (omega (arith, forecast_most)),
        digits_few 10 (left j rows) (omega (arith, forecast_most)),
      )

  switch_most : switch_sum j rows ≤ 33554432000
  switch_most = omega (arith, differences_most (λ i. carried j rows i 0) (bytes_carried j rows) 67108864 (chunks j) bytes_most, ok.chunks_in.high)

  pub switch_width : length (switch_line j rows) ≤ 19
  switch_width = omega (arith, line_width (ascii "switch") (digits (switch_sum j rows) ∷ []), digits_few 10 (switch_sum j rows) (omega (arith, switch_most)))

  -- C × L is at least 1 and at most 500 × 60.
  pub film_some : 1 ≤ film_slots j
  film_some = one-le-mul ok.chunks_in.low ok.span_in.low

  film_most : film_slots j ≤ 30000
  film_most = mul-le-mul ok.chunks_in.high ok.span_in.high

  -- The quotient is at most the switch sum, and the remainder below C × L.
  pub rate_width : length (rate_line j rows) ≤ 23
  rate_width =
      let q = switch_sum j rows / film_slots j in
      let r = switch_sum j rows % film_slots j in
      omega (
        arith,
        line_width (ascii "rate") (digits q ∷ digits r ∷ []),
        digits_few 10 q (omega (arith, switch_most, div-le_self (switch_sum j rows) (film_slots j))),
        digits_few 4 r (omega (arith, film_most, mod-lt (switch_sum j rows) film_some)),
      )

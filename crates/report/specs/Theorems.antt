-- Theorems. What the report's numbers say of each other, and how long its text is.
use Rattle.std.specs.Prelude.{ℕ, ◌+◌, ◌*◌, ◌-◌, ◌/◌, ◌%◌, ◌≤◌, ◌<◌, ◌≡◌, refl, cond, List, ◌++◌, length}
use Rattle.std.proofs.Common.{sym, ◌∙◌, ⊎_elim, arith, div-add-mod', mod-lt, mod-eq_of_lt, length-append, eq-eqb}
use Rattle.std.proofs.Math.Nat.{div-eq_of_lt, mul-add-div_right, mul-add-mod_self_right}
use Rattle.theory_basics.specs.Tests.{All}
use Rattle.theory_basics.specs.lemmas.Tests.{by_cond}
use Rattle.theory_basics.specs.Sums.{pre, sum}
use Rattle.job.specs.Job.{Job, Layer, Accepted, chunks, layers, size}
use Rattle.fetch.specs.Rows.{Row, bytes_of_layer, Carried, carried, layer_count}
use Rattle.fetch.specs.Rules.{RowInRange, WholeLayers, WithinForecast}
use Rattle.theory_basics.specs.lemmas.Ranges.{pre_cong, sum_cong}
use Rattle.report.specs.lemmas.Bounds.{rows_within, layers_sum}
use Rattle.report.specs.lemmas.Switches.{those_length, differences_few, differences_all}
use Rattle.report.specs.lemmas.Widths.{slots_width, chunks_width, layers_width, bytes_width, switch_width, film_some, rate_width}
use Rattle.report.specs.Report.{slots_line, bytes_carried, chunk_lines, layers_line, bytes_in_rows, forecast_sum, left, bytes_line, apart, carried_bytes, switch_sum, switch_line, film_slots, rate_line, report_of}

-- ---- "bytes in rows and forecast bytes unspent"

-- The two sum to the forecast's sum exactly, for a list that keeps rules 1 and 4.
pub bytes_and_left : (j : Job) (rows : List Row) → All (RowInRange j) rows → WithinForecast j rows → bytes_in_rows rows + left j rows ≡ forecast_sum j
bytes_and_left j rows a w = omega (arith, rows_within j rows a w)

-- ---- "per chunk: number, layers carried, bytes carried"

-- The chunks' bytes sum to the bytes in rows, for a list that keeps rules 1 and 2.
pub chunks_and_bytes : (j : Job) (rows : List Row) → All (RowInRange j) rows → WholeLayers j rows → pre (bytes_carried j rows) (chunks j) ≡ bytes_in_rows rows
chunks_and_bytes j rows a w =
    pre_cong (bytes_carried j rows) (λ i. sum (bytes_of_layer rows i) (layers j)) (chunks j)
    (λ i u v. sum_cong _ (bytes_of_layer rows i) (layers j) (λ n h. whole i n (record { chunk_low = u; chunk_high = v; layer_in = h })))
    ∙ layers_sum j rows a
  where
    whole : (i n : ℕ) → Layer j i n → cond (carried j rows i n) (bytes_of_layer rows i n) 0 ≡ bytes_of_layer rows i n
    whole i n l =
        ⊎_elim
        (λ z. by_cond (λ (m : ℕ). m ≡ bytes_of_layer rows i n) (carried j rows i n) (λ t. refl) (λ t. sym z))
        (λ e. rw (eq-eqb (bytes_of_layer rows i n) (size j i n) e))
        (w i n l)

-- ---- "each carried chunk with the next carried one"

-- "with fewer than two carried it is 0".
pub few_carried : (j : Job) (rows : List Row) → layer_count j rows 0 ≤ 1 → switch_sum j rows ≡ 0
few_carried j rows h =
    differences_few (carried_bytes j rows) (omega (arith, those_length (λ i. carried j rows i 0) (bytes_carried j rows) (chunks j)))

-- Where no chunk is skipped it is document 01's sum over neighbouring chunks.
pub none_skipped : (j : Job) (rows : List Row) → ((i : ℕ) → 1 ≤ i → i ≤ chunks j → Carried j rows i 0) →
    switch_sum j rows ≡ pre (λ i. apart (bytes_carried j rows i) (bytes_carried j rows (i + 1))) (chunks j - 1)
none_skipped j rows all =
    differences_all
    (λ i. carried j rows i 0)
    (bytes_carried j rows)
    (chunks j)
    (λ i u v. eq-eqb (bytes_of_layer rows i 0) (size j i 0) (all i u v))

-- ---- "q × C × L + r is the switch sum and r is below C × L"

-- What the numbers of the last line keep:
pub record Rate (j : Job) (rows : List Row) (q r : ℕ) : Type 0 where
  pub sums : q * film_slots j + r ≡ switch_sum j rows
  pub below : r < film_slots j

-- those of an accepted job's report do, and no others.
pub rate_is : (j : Job) (rows : List Row) → Accepted j → Rate j rows (switch_sum j rows / film_slots j) (switch_sum j rows % film_slots j)
rate_is j rows ok = record {
  sums = div-add-mod' (switch_sum j rows) (film_slots j);
  below = mod-lt (switch_sum j rows) (film_some j rows ok);
}

pub rate_only : (j : Job) (rows : List Row) (q r : ℕ) → Rate j rows q r → (q ≡ switch_sum j rows / film_slots j) × (r ≡ switch_sum j rows % film_slots j)
rate_only j rows q r k =
    let n = film_slots j in (
      rw (← k.sums, mul-add-div_right {m = n} (omega (arith, k.below)) q r, div-eq_of_lt k.below) (omega arith),
      rw (← k.sums, mul-add-mod_self_right q n r, mod-eq_of_lt k.below),
    )

-- ---- how long the text is

-- The report of an accepted job and a list that keeps rules 1 and 4 has at most 7,633 bytes, so a
-- local buffer holds it: 33 in line 1, 15 for each of 500 chunks, 23 for the counts, 35 for bytes
-- and left, 19 for the switch sum, 23 for the rate.
pub report_fits : (j : Job) (rows : List Row) → Accepted j → All (RowInRange j) rows → WithinForecast j rows → length (report_of j rows) ≤ 7633
unfolding report_of
report_fits j rows ok a w =
    omega (
      arith,
      slots_width j ok,
      chunks_width j rows ok,
      layers_width j rows ok,
      bytes_width j rows ok (rows_within j rows a w),
      switch_width j rows ok,
      rate_width j rows ok,
      length-append (slots_line j) (chunk_lines j rows ++ (layers_line j rows ++ (bytes_line j rows ++ (switch_line j rows ++ rate_line j rows)))),
      length-append (chunk_lines j rows) (layers_line j rows ++ (bytes_line j rows ++ (switch_line j rows ++ rate_line j rows))),
      length-append (layers_line j rows) (bytes_line j rows ++ (switch_line j rows ++ rate_line j rows)),
      length-append (bytes_line j rows) (switch_line j rows ++ rate_line j rows),
      length-append (switch_line j rows) (rate_line j rows),
    )

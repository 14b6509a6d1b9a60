-- Lemmas. How large a sum can be, and all rows of a list as those of its slots and of its chunks.
-- Assumes nothing.
use Rattle.std.specs.Prelude.{ℕ, ◌≤◌, ◌≡◌, true, cond, List, [], ◌∷◌, eqb}
use Rattle.std.proofs.Common.{sym, ◌∙◌, arith, eqb→eq}
use Rattle.theory_basics.specs.Tests.{All}
use Rattle.theory_basics.specs.lemmas.Tests.{all_map, by_cond}
use Rattle.theory_basics.specs.Sums.{pre, sum}
use Rattle.theory_basics.specs.lemmas.Ranges.{pre_add, pre_step, point, point_in, pre_cong, pre_zero}
use Rattle.job.specs.Job.{Job, chunks, layers, forecast, last_slot}
use Rattle.fetch.specs.Rows.{Row, bytes_in_slot, bytes_of_layer}
use Rattle.fetch.specs.Rules.{RowInRange, WithinForecast}
use Rattle.theory_plan.specs.lemmas.Words.{bytes_of_chunk}
use Rattle.theory_plan.specs.lemmas.Count.{bytes_between, chunk_by_layers}
use Rattle.report.specs.Report.{apart, bytes_in_rows, forecast_sum}

-- ---- at most so much each

-- A number that counts only if it equals another is at most that other.
pub equal_most : (x y most : ℕ) → y ≤ most → cond (eqb x y) x 0 ≤ most
equal_most x y most h = by_cond (λ (z : ℕ). z ≤ most) (eqb x y) (λ t. omega (arith, eqb→eq x y t)) (λ t. omega arith)

pub apart_most : (a b most : ℕ) → a ≤ most → b ≤ most → apart a b ≤ most
apart_most a b most u v = omega arith

-- ---- all rows, by slot and by chunk

-- A list that keeps rules 1 and 4 takes no more than the forecast.
pub rows_within : (j : Job) (rows : List Row) → All (RowInRange j) rows → WithinForecast j rows → bytes_in_rows rows ≤ forecast_sum j
rows_within j rows a w =
    omega (
      arith,
      bytes_between (λ x. true) 0 (last_slot j) rows (omega arith) (all_map (RowInRange j) _ rows (λ x r t. (r.slot_low, r.slot_high)) a),
      pre_step (bytes_in_slot rows) (forecast j) 0 (last_slot j) w (omega arith),
    )

chunks_sum : (j : Job) (rows : List Row) → All (RowInRange j) rows → pre (bytes_of_chunk rows) (chunks j) ≡ bytes_in_rows rows
chunks_sum j [] a = pre_zero (chunks j)
chunks_sum j (x ∷ xs) a =
    pre_add (point x.chunk x.bytes) (bytes_of_chunk xs) (chunks j)
    ∙ (omega (arith, chunks_sum j xs a.1, point_in x.chunk x.bytes (chunks j) a.0.chunk_low a.0.chunk_high))

-- The rows of every layer of every chunk are all the rows.
pub layers_sum : (j : Job) (rows : List Row) → All (RowInRange j) rows → pre (λ i. sum (bytes_of_layer rows i) (layers j)) (chunks j) ≡ bytes_in_rows rows
layers_sum j rows a =
    pre_cong _ (bytes_of_chunk rows) (chunks j) (λ i u v. sym (chunk_by_layers i (layers j) rows (all_map (RowInRange j) _ rows (λ x r. r.layer_in) a)))
    ∙ chunks_sum j rows a

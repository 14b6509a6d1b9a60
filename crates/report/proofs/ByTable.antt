-- The lines by the table are the report's: each number that is read from the table is the sum over
-- rows that the report's meaning names. Assumes nothing.
use Prim.Native.Nat.{ℕ, zero, suc, ◌+◌, ◌-◌, ◌≤◌, ◌<◌}
use mathlib.Core.Path.{◌≡◌, refl, sym, ap, ap₂, ◌∙◌}
use mathlib.Core.Bool.{Bool, true, cond}
use mathlib.Core.List.{List}
use native.Mathlib.Omega.{arith}
use lib.ListN.{length, get_or}
use lib.Dec.{eqb}
use Rattle.theory_basics.specs.Lists.{up_to}
use Rattle.theory_basics.specs.lemmas.Lists.{up_to_cong}
use Rattle.theory_basics.specs.Sums.{pre, sum}
use Rattle.job.specs.Job.{Accepted, Job, chunks, layers, last_slot, forecast}
use Rattle.core_sizes.specs.Table.{sizes_table}
use Rattle.core_sizes.specs.lemmas.Table.{table_says}
use Rattle.fetch.specs.Rows.{Row, row_at, rows_of, carried, layer_count, layers_carried}
use Rattle.fetch.specs.lemmas.Rows.{bytes_snoc}
use Rattle.theory_basics.specs.lemmas.Ranges.{pre_cong, sum_cong}
use Rattle.theory_basics.specs.Text.{digits}
use Rattle.report.specs.Report.{bytes_carried, chunk_line, bytes_in_rows, forecast_sum, left, switch_sum, differences, report_of}
use Rattle.report.specs.lemmas.Tables.{Summed, carried_by, layers_by, bytes_by, chunk_line_by, count_by, switch_by, lines_by}
use Rattle.report.specs.lemmas.Switches.{those_cong}

-- A sum counted from 0 and from 1.
sum_pre : (f : ℕ → ℕ) (n : ℕ) → sum f n ≡ pre (λ t. f (t - 1)) n
sum_pre f zero = refl
sum_pre f (suc n) = let e : suc n - 1 ≡ n = omega arith in omega (arith, sum_pre f n, ap f e)

-- ---- the numbers of the lines

module _ (j : Job) (ok : Accepted j) (rows : List Row) (table : List ℕ) (s : Summed rows table) where
  -- The table of all sizes.
  abbrev stored : List ℕ
  stored = sizes_table j.sizes j.overrides

  carried_is : (i n : ℕ) → 1 ≤ i → i ≤ chunks j → n < 4 → carried_by stored table i n ≡ carried j rows i n
  carried_is i n u v w = ap₂ eqb (s.by_layer i n u (omega (arith, ok.chunks_in.high)) w) (table_says j ok i n)

  shallow : (n : ℕ) → n < layers j → n < 4
  shallow n w = omega (arith, ok.layers_in.high)

  layers_is : (i : ℕ) → 1 ≤ i → i ≤ chunks j → layers_by stored table (layers j) i ≡ layers_carried j rows i
  layers_is i u v = sum_cong _ _ (layers j) (λ n w. ap (λ (b : Bool). cond b 1 0) (carried_is i n u v (shallow n w)))

  bytes_is : (i : ℕ) → 1 ≤ i → i ≤ chunks j → bytes_by stored table (layers j) i ≡ bytes_carried j rows i
  bytes_is i u v =
      sum_cong _ _ (layers j)
      (λ n w. rw (carried_is i n u v (shallow n w), s.by_layer i n u (omega (arith, ok.chunks_in.high)) (shallow n w)))

  count_is : (n : ℕ) → n < layers j → count_by stored table (chunks j) n ≡ layer_count j rows n
  count_is n w = pre_cong _ _ (chunks j) (λ i u v. ap (λ (b : Bool). cond b 1 0) (carried_is i n u v (shallow n w)))

  switch_is : switch_by stored table (layers j) (chunks j) ≡ switch_sum j rows
  switch_is = ap differences (those_cong _ _ _ _ (chunks j) (λ i u v. carried_is i 0 u v (omega arith)) bytes_is)

  chunk_line_is : (k : ℕ) → k < chunks j → chunk_line_by stored table (layers j) (k + 1) ≡ chunk_line j rows (k + 1)
  chunk_line_is k h = rw (layers_is (k + 1) (omega arith) (omega arith), bytes_is (k + 1) (omega arith) (omega arith))

  pub lines_are : lines_by j.programme stored (layers j) table (bytes_in_rows rows) (left j rows) ≡ report_of j rows
  unfolding lines_by report_of
  lines_are = rw (up_to_cong _ _ (chunks j) chunk_line_is, up_to_cong _ _ (layers j) (λ n w. ap digits (count_is n w)), switch_is)

-- ---- the sums

rows_sum : (f : ℕ → Row) (n : ℕ) → sum (λ k. (f k).bytes) n ≡ bytes_in_rows (up_to f n)
rows_sum f zero = refl
rows_sum f (suc n) = omega (arith, rows_sum f n, bytes_snoc (λ x. true) (up_to f n) (f n))

pub spent_is : (ss cs ls bs : List ℕ) → length ss ≡ length bs → sum (λ k. get_or bs k 0) (length bs) ≡ bytes_in_rows (rows_of ss cs ls bs)
spent_is ss cs ls bs e = ap (sum (λ k. get_or bs k 0)) (sym e) ∙ rows_sum (row_at ss cs ls bs) (length ss)

pub forecast_is : (j : Job) → length j.forecast ≡ last_slot j → sum (λ k. get_or j.forecast k 0) (length j.forecast) ≡ forecast_sum j
forecast_is j e = sum_pre (λ k. get_or j.forecast k 0) (length j.forecast) ∙ ap (pre (forecast j)) e

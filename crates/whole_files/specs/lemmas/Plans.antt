-- Lemmas. The plan of an accepted job as its file has it: a mark a chunk, at most 5,599 rows, every
-- field within its width. Assumes nothing.
use Rattle.std.specs.Prelude.{ℕ, zero, suc, ◌+◌, ◌-◌, ◌^◌, ◌≤◌, ◌<◌, ◌≡◌, Bool, [], ◌∷◌, length, eqb, ltb}
use Rattle.std.proofs.Common.{arith}
use Rattle.std.proofs.Math.Nat.{pow-le-pow_right}
use Rattle.std.proofs.Math.Dec.{eqb_refl}
use Rattle.theory_basics.specs.Tests.{All, In}
use Rattle.theory_basics.specs.Lists.{up_to}
use Rattle.theory_basics.specs.lemmas.Tables.{all_at}
use Rattle.theory_basics.specs.lemmas.Tests.{all_append, at_row, each_row}
use Rattle.job.specs.Job.{Job, Accepted, Within, chunks, forecast, layers}
use Rattle.fetch.specs.Rows.{Row, mark_byte}
use Rattle.fetch.specs.Rules.{RowInRange}
use Rattle.fetch.specs.lemmas.Marks.{mark_lt}
use Rattle.fetch.specs.lemmas.Rows.{row_counts}
use Rattle.planfile.specs.PlanFile.{InWidth, RowInWidth, file_of}
use Rattle.planfile.specs.Theorems.{always_fits}
use Rattle.theory_plan.specs.Plan.{plan}
use Rattle.theory_plan.specs.Statement.{marks_of}
use Rattle.theory_plan.proofs.Theorems.{marks_long, plan_keeps}
use Rattle.theory_plan.proofs.PlanRows.{plan_rows_few}
use Rattle.planner.specs.Answer.{plan_rows}
use Rattle.whole_files.specs.Files.{plan_of_job}

-- What holds of every value stands for every place.
all_up_to : (P : ℕ → Type 0) (f : ℕ → ℕ) (n : ℕ) → ((k : ℕ) → P (f k)) → All P (up_to f n)
all_up_to P f zero h = tt
all_up_to P f (suc n) h = all_append P (up_to f n) (f n ∷ []) (all_up_to P f n h) (h n, tt)

-- A mark of at most four layers.
mark_small : (p : ℕ → Bool) (k : ℕ) → k ≤ 4 → mark_byte p k < 256
mark_small p k h = let top : 2 ^ k ≤ 2 ^ 4 = pow-le-pow_right (omega arith) h in omega (arith, mark_lt p k)

module _ (j : Job) (a : Accepted j) where
  pub plan_marks_long : length (marks_of j (plan j)) ≡ chunks j
  plan_marks_long = marks_long j (plan j)

  -- Its file has at most 64,091 bytes.
  pub plan_file_fits : length (file_of (plan_of_job j)) ≤ 64091
  plan_file_fits = always_fits j a (plan_of_job j) plan_marks_long (plan_rows_few j a)

  -- A mark has a bit a layer at most.
  marks_width : All (λ m. m < 256) (marks_of j (plan j))
  marks_width = all_up_to (λ m. m < 256) (λ k. mark_byte (λ n. ltb n (plan j (k + 1))) (layers j)) (chunks j) (λ k. mark_small (λ n. ltb n (plan j (k + 1))) (layers j) a.layers_in.high)

  -- A row's bytes are at most its slot's forecast.
  row_width : (x : Row) → In x (plan_rows j) → RowInWidth x
  row_width x i =
      let r = at_row (RowInRange j) i (plan_keeps j a).in_range_lem in
      let slot = (plan_keeps j a).within x.slot r.slot_low r.slot_high in
      let bytes = row_counts (λ y. eqb y.slot x.slot) i (eqb_refl x.slot) in
      let most : forecast j x.slot ≤ 16777216 = (all_at (Within 0 16777216) j.forecast (x.slot - 1) (omega (arith, a.slots_in, r.slot_low, r.slot_high)) a.forecast_in_lem).high in
      record {
        slot_in = omega (arith, r.slot_high, a.last_in);
        chunk_in = omega (arith, r.chunk_high, a.chunks_in.high);
        layer_in = omega (arith, r.layer_in, a.layers_in.high);
        bytes_in_lem = omega (arith, slot, bytes, most);
      }

  pub plan_in_width : InWidth (plan_of_job j)
  plan_in_width = record { marks_in_lem = marks_width; rows_in_lem = each_row RowInWidth (plan_rows j) row_width }

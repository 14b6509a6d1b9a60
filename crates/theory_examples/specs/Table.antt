-- Theorems. Document 01, "Jobs worked through": the rows marked † as one table, in the paper's
-- order, a field for each. What a plan is, a verdict, a refusal and a forecast is what the public
-- contracts cite; a row about a plan holds of every plan of the job (Plans).
use Rattle.std.specs.Prelude.{ℕ, ◌<◌, List, [], ◌∷◌, ◌≡◌, length}
use Rattle.records.specs.File.{file_refusal}
use Rattle.job.specs.Job.{HoldsAll}
use Rattle.fetch.specs.Rows.{Row, layer_count}
use Rattle.fetch.specs.Verdict.{verdict}
use Rattle.jobrecords.specs.Refusal.{mixed, one_sequence, refusal_of}
use Rattle.jobfile.specs.Writer.{job_file}
use Rattle.planfile.specs.PlanFile.{format}
use Rattle.std.specs.Prelude.{Ok}
use Rattle.meter.specs.Meter.{empty, taken}
use Rattle.meter.specs.Forecast.{answer_of}
use Rattle.theory_plan.specs.Statement.{IsPlan, count_of}
use Rattle.theory_examples.specs.Worked.{A, better, better_counts, better_passes, row, split_held}
use Rattle.theory_examples.specs.Plans.{A_limit_3, A_limit_6, A_no_forecast, A_plan, A_with, PlanIs, better_beats, one_chunk, one_chunk_4, one_chunk_5, one_chunk_held, one_chunk_late}
use Rattle.theory_examples.specs.Files.{A_file, empty_file, empty_mixed_file, empty_plan_file}
use Rattle.theory_examples.specs.Meter.{six_three_forecast, third_zero_forecast}

-- Job A, `A`: C 3, L 2, s 2, limit 2, sizes 2 and 1, B = 3, 0, 1, 0, 2, 0. `A_with` is A with
-- another limit or forecast, `one_chunk` the job of one chunk, by s, limit and B.
abbrev forecast_a : List ℕ
forecast_a = 3 ∷ 0 ∷ 1 ∷ 0 ∷ 2 ∷ 0 ∷ []

abbrev rows_a : List Row
rows_a = row 1 2 0 2 ∷ row 1 2 1 1 ∷ row 5 3 0 2 ∷ []

pub record Table : Type 0 where
  -- "A: marks 0, 3, 1. Rows (slot, chunk, layer, bytes): (1,2,0,2) (1,2,1,1) (5,3,0,2)."
  pub a : PlanIs A (0 ∷ 3 ∷ 1 ∷ []) (2 ∷ 1 ∷ 0 ∷ 0 ∷ []) rows_a
  -- "A with limit 3: the same. A's job file has 72 bytes."
  pub a_limit_3 : PlanIs (A_with 3 forecast_a) (0 ∷ 3 ∷ 1 ∷ []) (2 ∷ 1 ∷ 0 ∷ 0 ∷ []) rows_a
  pub a_file : length (job_file A) ≡ 72
  -- "A with limit 6: marks 1, 1, 1. Rows (1,1,0,2) (1,2,0,1) (3,2,0,1) (5,3,0,2)."
  pub a_limit_6 :
      PlanIs (A_with 6 forecast_a) (1 ∷ 1 ∷ 1 ∷ []) (3 ∷ 0 ∷ 0 ∷ 0 ∷ []) (row 1 1 0 2 ∷ row 1 2 0 1 ∷ row 3 2 0 1 ∷ row 5 3 0 2 ∷ [])
  -- "On A, rows (1,1,0,2) (1,1,1,1) (3,3,0,1) (5,3,0,1) (5,3,1,1) with marks 3, 0, 3: verdict 0.
  pub other_passes : verdict A (3 ∷ 0 ∷ 3 ∷ []) (row 1 1 0 2 ∷ row 1 1 1 1 ∷ row 3 3 0 1 ∷ row 5 3 0 1 ∷ row 5 3 1 1 ∷ []) ≡ 0
  -- Its counts 2, 2 beat the plan's 2, 1,
  pub other_counts : (layer_count A better 0 ≡ 2) × (layer_count A better 1 ≡ 2)
  pub other_more : (p : ℕ → ℕ) → IsPlan A p → count_of A p 1 < layer_count A better 1
  -- so the last clause of demand 3 needs a limit that holds the programme."
  pub not_all_held : HoldsAll A → ⊥
  -- "A's plan with its last row split as (3,3,0,1) (5,3,0,1): verdict 6."
  pub split : verdict A (0 ∷ 3 ∷ 1 ∷ []) (row 1 2 0 2 ∷ row 1 2 1 1 ∷ row 3 3 0 1 ∷ row 5 3 0 1 ∷ []) ≡ 6
  -- "A with B all 0: marks 0, no rows."
  pub a_no_forecast : PlanIs (A_with 2 (0 ∷ 0 ∷ 0 ∷ 0 ∷ 0 ∷ 0 ∷ [])) (0 ∷ 0 ∷ 0 ∷ []) (0 ∷ 0 ∷ 0 ∷ 0 ∷ []) []
  -- "C 1, L 1, s 1, limit 0, size 5: B = 5 gives marks 1; B = 4 gives 0."
  pub one_5 : PlanIs (one_chunk 1 0 (5 ∷ [])) (1 ∷ []) (1 ∷ 0 ∷ 0 ∷ 0 ∷ []) (row 1 1 0 5 ∷ [])
  pub one_4 : PlanIs (one_chunk 1 0 (4 ∷ [])) (0 ∷ []) (0 ∷ 0 ∷ 0 ∷ 0 ∷ []) []
  -- "The same with s 2, B = 5, 0: marks 0; with limit 1: marks 1."
  pub one_late : PlanIs (one_chunk 2 0 (5 ∷ 0 ∷ [])) (0 ∷ []) (0 ∷ 0 ∷ 0 ∷ 0 ∷ []) []
  pub one_held : PlanIs (one_chunk 2 1 (5 ∷ 0 ∷ [])) (1 ∷ []) (1 ∷ 0 ∷ 0 ∷ 0 ∷ []) (row 1 1 0 5 ∷ [])
  -- "Samples 6 then 3: forecast 4", and 3 since request 3; "with a third sample 0: 0." They are
  -- handed to the new meter in slots 1, 2 and 3.
  pub six_three : answer_of (taken (taken empty 1 6).meter 2 3).meter ≡ Ok 3
  pub third_zero : answer_of (taken (taken (taken empty 1 6).meter 2 3).meter 3 0).meter ≡ Ok 0
  -- "The empty file: refusal 1", of a job file in one sequence, of a mixed one, and of a plan file
  -- for a job of any number of chunks.
  pub no_job_file : refusal_of one_sequence [] ≡ 1
  pub no_mixed_file : refusal_of mixed [] ≡ 1
  pub no_plan_file : (count : ℕ) → file_refusal (format count) [] ≡ 1

pub table : Table
unfolding taken
table = record {
  a = A_plan;
  a_limit_3 = A_limit_3;
  a_file = A_file;
  a_limit_6 = A_limit_6;
  other_passes = better_passes;
  other_counts = better_counts;
  other_more = better_beats.more_of_1;
  not_all_held = better_beats.not_all_held;
  split = split_held;
  a_no_forecast = A_no_forecast;
  one_5 = one_chunk_5;
  one_4 = one_chunk_4;
  one_late = one_chunk_late;
  one_held = one_chunk_held;
  six_three = six_three_forecast;
  third_zero = third_zero_forecast;
  no_job_file = empty_file;
  no_mixed_file = empty_mixed_file;
  no_plan_file = empty_plan_file;
}

-- Theorems. Document 01, "Jobs worked through": the rows marked † on files, by computation.
use Rattle.std.specs.Prelude.{ℕ, ◌≡◌, refl, [], length}
use Rattle.records.specs.File.{file_refusal, split_up_to}
use Rattle.jobrecords.specs.Records.{front}
use Rattle.jobrecords.specs.Refusal.{mixed, one_sequence, refusal_of}
use Rattle.jobfile.specs.Writer.{job_file}
use Rattle.planfile.specs.Records
use Rattle.planfile.specs.PlanFile.{format}
use Rattle.theory_examples.specs.Worked.{A}

-- A's job file has 72 bytes.
pub A_file : length (job_file A) ≡ 72
unfolding job_file
A_file = refl

-- The empty file: refusal 1, of each reader of files.
pub empty_file : refusal_of one_sequence [] ≡ 1
unfolding file_refusal split_up_to front
empty_file = refl

pub empty_mixed_file : refusal_of mixed [] ≡ 1
unfolding file_refusal split_up_to front
empty_mixed_file = refl

pub empty_plan_file : (count : ℕ) → file_refusal (format count) [] ≡ 1
unfolding file_refusal split_up_to Records.front
empty_plan_file count = refl

-- Lemmas. How many bytes a job file has. Assumes nothing.
use Rattle.std.specs.Prelude.{ℕ, suc, ◌+◌, ◌*◌, ◌≤◌, ◌≡◌, refl, List, [], ◌∷◌, ◌++◌, map, length, eqb}
use Rattle.std.proofs.Common.{ap, arith, length-append}
use Rattle.theory_basics.specs.lemmas.Tests.{by_cond}
use Rattle.job.specs.Job.{Job, Override, layers, Accepted}
use Rattle.job.specs.Uneven.{overrides_few}
use Rattle.jobrecords.specs.declared.Record.TheVariants.{Pg, En}
use Rattle.jobrecords.specs.Records.{encode}
use Rattle.jobfile.specs.Writer.{Run, in_front, runs, layer_record, override_record, run_record, job_file}
use Rattle.jobfile.specs.lemmas.Puts.{records_bytes, bytes_append}

layers_length : (l : List ℕ) → length (records_bytes (map layer_record l)) ≡ 6 * length l
layers_length [] = refl
layers_length (x ∷ l) = omega (arith, layers_length l)

overrides_length : (l : List Override) → length (records_bytes (map override_record l)) ≡ 9 * length l
overrides_length [] = refl
overrides_length (o ∷ l) = omega (arith, overrides_length l)

runs_length : (l : List Run) → length (records_bytes (map run_record l)) ≡ 8 * length l
runs_length [] = refl
runs_length (r ∷ l) = omega (arith, runs_length l)

-- PG, the layers, the SZs, the runs, EN.
pub file_length : (j : Job) → length (job_file j) ≡ 12 + 6 * layers j + 9 * length j.overrides + 8 * length (runs j.forecast)
unfolding job_file
file_length j =
    let a = map layer_record j.sizes in
    let b = map override_record j.overrides in
    let c = map run_record (runs j.forecast) in
    omega (
      arith,
      length-append (records_bytes (Pg j.programme ∷ a ++ (b ++ c))) (encode En),
      ap length (bytes_append a (b ++ c)),
      ap length (bytes_append b c),
      length-append (records_bytes a) (records_bytes (b ++ c)),
      length-append (records_bytes b) (records_bytes c),
      layers_length j.sizes,
      overrides_length j.overrides,
      runs_length (runs j.forecast),
    )

front_length : (x : ℕ) (rs : List Run) → length (in_front x rs) ≤ suc (length rs)
front_length x [] = omega arith
front_length x (r ∷ rs) = by_cond (λ (l : List Run). length l ≤ suc (suc (length rs))) (eqb x r.bytes) (λ t. omega arith) (λ t. omega arith)

-- No more runs than slots.
pub few_runs : (l : List ℕ) → length (runs l) ≤ length l
few_runs [] = omega arith
few_runs (x ∷ l) = omega (arith, front_length x (runs l), few_runs l)

-- At most 10 + 4 × 6 + 1,996 × 9 + 3,600 × 8 + 2 bytes.
pub short_file : (j : Job) → Accepted j → length (job_file j) ≤ 46800
short_file j a = omega (arith, file_length j, few_runs j.forecast, overrides_few j a, a.layers_in.high, a.slots_in, a.last_in)

-- Theorems. Files of either form say accepted jobs. A file in one sequence without SZ is a mixed
-- file that says the same job, and one with an SZ is refused as a mixed file by 2: document 02, "a
-- small program that still reads both" reads by document 01's reader alone, and "The program of
-- request 6 stays as it is". `refusal_of` and `job_of_file` are what both readers' contracts cite.
use Rattle.std.specs.Prelude.{ℕ, ◌≡◌, Bool, List, []}
use Rattle.std.proofs.Common.{ap}
use Rattle.records.specs.File.{Split, split, file_refusal}
use Rattle.job.specs.Job.{Accepted}
use Rattle.jobrecords.specs.declared.Record.{Record}
use Rattle.jobrecords.specs.Says.{job_in}
use Rattle.jobrecords.specs.Refusal.{one_sequence, mixed, format, refusal_of, job_of_file}
use Rattle.jobrecords.specs.lemmas.Clean.{taken, file_clean}
use Rattle.jobrecords.specs.lemmas.Mixed.{mixed_faults, same_split, breaks_off, none_mixed}

-- "A job is accepted if no refusal that comes from the input applies to it": a file that is not
-- refused says an accepted job.
pub file_accepted : (sequenced : Bool) (s : List ℕ) → refusal_of sequenced s ≡ 0 → Accepted (job_of_file sequenced s)
file_accepted sequenced s e = file_clean sequenced s e

-- A mixed file says no SZ.
pub no_overrides : (s : List ℕ) → (job_of_file mixed s).overrides ≡ []
no_overrides s = none_mixed s

-- A file in one sequence without SZ is a mixed file that says the same job.
pub record AlsoMixed (s : List ℕ) : Type 0 where
  pub taken : refusal_of mixed s ≡ 0
  pub same : job_of_file mixed s ≡ job_of_file one_sequence s

pub also_mixed : (s : List ℕ) → refusal_of one_sequence s ≡ 0 → (job_of_file one_sequence s).overrides ≡ [] → AlsoMixed s
unfolding file_refusal
also_mixed s e none =
    let t = taken one_sequence s e in
    let f = split (format one_sequence) s in
    let same = same_split s 0 t.ends none in
    record {
      taken = rw (t.short, same, t.ends, mixed_faults [] f.records t.no_faults) t.none_lacking;
      same = ap (λ (x : Split Record). job_in x.records) same;
    }

-- To the mixed reader an SZ is an unknown mark.
pub unknown_mark : (s : List ℕ) → refusal_of one_sequence s ≡ 0 → ((job_of_file one_sequence s).overrides ≡ [] → ⊥) → refusal_of mixed s ≡ 2
unfolding file_refusal
unknown_mark s e some =
    let t = taken one_sequence s e in
    let b = breaks_off s 0 t.ends t.no_faults some in
    rw (t.short, b.no_faults, b.stop_is)

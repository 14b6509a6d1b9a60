-- Theorems. Small jobs by computation: the rise of request 10 is reached; rounding up is needed,
-- and so are equal chunks.
use Rattle.std.specs.Prelude.{ℕ, ◌+◌, ◌/◌, ◌||◌, [], ◌∷◌, ◌≡◌, refl, T, eqb}
use Rattle.std.proofs.Common.{⊎_elim, arith, eqb→eq}
use Rattle.theory_basics.specs.Tests.{all_to}
use Rattle.theory_basics.specs.Division.{divided_up}
use Rattle.theory_basics.specs.lemmas.Tests.{T_or_iff, all_to_at}
use Rattle.job.specs.Job.{Accepted, EqualChunks, Job, Within, forecast, job_of, last_slot, size_in, with_forecast}
use Rattle.job.specs.Refusal.{refusal}
use Rattle.job.specs.Theorems.{accepted_iff}
use Rattle.job.specs.Uneven.{equal_iff}
use Rattle.theory_plan.specs.Plan.{plan}
use Rattle.theory_plan.specs.Statement.{counts_of}
use Rattle.theory_sensitivity.specs.Statement.{OneSlotMore, RisesLittle, Steady, equal_base_size, bases}
use Rattle.theory_sensitivity.proofs.Theorems.{steady}

-- How many bases the plan of a job carries.
abbrev pub plan_bases : Job → ℕ
plan_bases j = bases (counts_of j (plan j))

-- What is computed of two jobs that differ in slot t.
one_slot :
    (j k : Job) (t b : ℕ) → k ≡ with_forecast j k.forecast → Within 1 (last_slot j) t →
    forecast k t ≡ forecast j t + b → T (all_to (last_slot j) (λ u. eqb u t || eqb (forecast k u) (forecast j u))) → OneSlotMore j k t b
one_slot j k t b same slot grown others =
    record {
      same_else = same;
      slot_in = slot;
      grown = grown;
      other_slots = λ u g h o.
          ⊎_elim
          (λ e. absurd (o (eqb→eq u t e)))
          (λ e. eqb→eq (forecast k u) (forecast j u) e)
          ((T_or_iff (eqb u t) (eqb (forecast k u) (forecast j u))).0 (all_to_at (last_slot j) (λ u. eqb u t || eqb (forecast k u) (forecast j u)) others u g h));
    }

-- ---- the rise is reached

-- Job A of document 01 with B(3) = x: C 3, L 2, s 2, limit 2, sizes 2 and 1, B = 3, 0, x, 0, 2, 0.
abbrev pub A_with : ℕ → Job
A_with x = job_of (record { chunks = 3; span = 2; delay = 2; limit = 2 }) (2 ∷ 1 ∷ []) [] (3 ∷ 0 ∷ x ∷ 0 ∷ 2 ∷ 0 ∷ [])

-- Job A, and with one byte more in slot 3.
abbrev pub A : Job
A = A_with 1

abbrev pub A_more : Job
A_more = A_with 2

pub A_accepted : Accepted A
unfolding refusal
A_accepted = (accepted_iff A).0 refl

pub A_more_accepted : Accepted A_more
unfolding refusal
A_more_accepted = (accepted_iff A_more).0 refl

pub A_equal : EqualChunks A
A_equal = (equal_iff A A_accepted).1 refl

pub A_one_slot : OneSlotMore A A_more 3 1
A_one_slot = one_slot A A_more 3 1 refl (record { low = omega arith; high = omega arith }) refl tt

-- A carries 2 bases, with the byte 3, and 1 divided by the base size 2, rounded up, is 1.
pub A_bases : (plan_bases A ≡ 2) × (plan_bases A_more ≡ 3) × (divided_up 1 (equal_base_size A) ≡ 1)
unfolding plan size_in
A_bases = (refl, refl, refl)

pub A_steady : RisesLittle (equal_base_size A) 1 (plan_bases A) (plan_bases A_more)
A_steady = (steady A A_accepted A_equal).growing A_more A_more_accepted 3 1 A_one_slot

-- ---- rounding up is needed, and one base more is not the most

-- C 2, L 1, s 1, limit 2, size 2, B = x, 1.
abbrev pub two : ℕ → Job
two x = job_of (record { chunks = 2; span = 1; delay = 1; limit = 2 }) (2 ∷ []) [] (x ∷ 1 ∷ [])

pub two_accepted : Accepted (two 0) × Accepted (two 3)
unfolding refusal
two_accepted = ((accepted_iff (two 0)).0 refl, (accepted_iff (two 3)).0 refl)

pub two_one_slot : OneSlotMore (two 0) (two 3) 1 3
two_one_slot = one_slot (two 0) (two 3) 1 3 refl (record { low = omega arith; high = omega arith }) refl tt

-- 3 bytes more carry 2 bases more. Rounded down, 3 divided by 2 is 1.
pub two_bases : (plan_bases (two 0) ≡ 0) × (plan_bases (two 3) ≡ 2) × (divided_up 3 (equal_base_size (two 0)) ≡ 2) × (3 / equal_base_size (two 0) ≡ 1)
unfolding plan size_in
two_bases = (refl, refl, refl, refl)

-- ---- equal chunks are needed

-- C 3, L 1, s 1, limit 2, bases 1, 1 and 3, B = x, 0, 0.
abbrev pub uneven : ℕ → Job
uneven x =
    job_of (record { chunks = 3; span = 1; delay = 1; limit = 2 }) (1 ∷ []) (record { chunk = 3; layer = 0; bytes = 3 } ∷ []) (x ∷ 0 ∷ 0 ∷ [])

pub uneven_accepted : Accepted (uneven 2) × Accepted (uneven 3)
unfolding refusal
uneven_accepted = ((accepted_iff (uneven 2)).0 refl, (accepted_iff (uneven 3)).0 refl)

pub uneven_one_slot : OneSlotMore (uneven 2) (uneven 3) 1 1
uneven_one_slot = one_slot (uneven 2) (uneven 3) 1 1 refl (record { low = omega arith; high = omega arith }) refl tt

-- With one byte more the plan carries chunk 3, and no longer chunks 1 and 2.
pub uneven_bases : (plan_bases (uneven 2) ≡ 2) × (plan_bases (uneven 3) ≡ 1)
unfolding plan size_in
uneven_bases = (refl, refl)

pub uneven_falls : Steady (uneven 2) (λ k. counts_of k (plan k)) → ⊥
uneven_falls s =
    let r = s.growing (uneven 3) uneven_accepted.1 1 1 uneven_one_slot in
    omega (arith, r.never_falls, uneven_bases.0, uneven_bases.1)

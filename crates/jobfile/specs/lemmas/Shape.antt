-- Lemmas. Records in one sequence, without a fault, are the records of the job that they say.
-- Assumes nothing.
use Rattle.std.specs.Prelude.{ℕ, zero, suc, ◌≤◌, ◌≡◌, refl, true, false, not, List, [], ◌∷◌, ◌++◌, map, replicate, T, leb, eqb}
use Rattle.std.proofs.Common.{sym, ap, subst, arith, eqb→eq, eq-eqb}
use Rattle.theory_basics.specs.Tests.{All}
use Rattle.theory_basics.specs.lemmas.Tests.{and_T, T_true, not_T_false}
use Rattle.theory_basics.specs.Refusals.{◌or_else◌}
use Rattle.theory_basics.specs.lemmas.Refusals.{unless_iff, or_else_iff}
use Rattle.records.specs.File.{first_fault}
use Rattle.records.specs.lemmas.Exact.{NoEnd}
use Rattle.job.specs.Refusal.{overrides_refusal, slots_refusal}
use Rattle.job.specs.Theorems.{within_iff}
use Rattle.jobrecords.specs.declared.Record.{Record}
use Rattle.jobrecords.specs.declared.Record.TheVariants.{Pg, Ly, Sz, Bw, En}
use Rattle.jobrecords.specs.Says.{has_programme, programme_in, sizes_in, overrides_in, forecast_in, job_in}
use Rattle.jobrecords.specs.Refusal.{one_sequence, place, missing_refusal, bare_refusal, lacking, format}
use Rattle.jobrecords.specs.lemmas.Sequence.{Sequence, Filled, in_sequence}
use Rattle.jobfile.specs.Writer.{Run, in_front, runs, run_record, body_of, records_of}

-- ---- the runs of a forecast that some runs give are these, if neighbours differ

-- The first run has other bytes.
abbrev Apart : ℕ → List Run → Type 0
Apart b [] = Unit {0}
Apart b (r ∷ rs) = T (not (eqb b r.bytes))

front_apart : (b : ℕ) (rs : List Run) → Apart b rs → in_front b rs ≡ record { count = 1; bytes = b } ∷ rs
front_apart b [] a = refl
front_apart b (r ∷ rs) a = rw (not_T_false (eqb b r.bytes) a)

runs_replicate : (n b : ℕ) (f : List ℕ) → Apart b (runs f) → runs (replicate (suc n) b ++ f) ≡ record { count = suc n; bytes = b } ∷ runs f
runs_replicate zero b f a = front_apart b (runs f) a
runs_replicate (suc n) b f a = rw (runs_replicate n b f a, eq-eqb b b refl)

runs_more : (count b : ℕ) (f : List ℕ) → 1 ≤ count → Apart b (runs f) → runs (replicate count b ++ f) ≡ record { count = count; bytes = b } ∷ runs f
runs_more zero b f h a = absurd (omega arith)
runs_more (suc n) b f h a = runs_replicate n b f a

apart : (count b : ℕ) (l : List Run) → Sequence (Bw count b) (map run_record l) → Apart b l
apart count b [] s = tt
apart count b (r ∷ l) s = (and_T (leb 1 4) (not (eqb b r.bytes)) s.0).1

-- ---- LYs, SZs, BWs

-- After q: no LY from an SZ on, no SZ from a BW on, and the records are those of the sizes and the
-- forecast that they give.
record Body (q : Record) (rs : List Record) : Type 0 where
  no_sizes : 3 ≤ place q → sizes_in rs ≡ []
  no_overrides : 4 ≤ place q → overrides_in rs ≡ []
  body_is : rs ≡ body_of (sizes_in rs) (overrides_in rs) (forecast_in rs)

body : (q : Record) (rs : List Record) → 1 ≤ place q → Sequence q rs → All Filled rs → NoEnd (format one_sequence) rs → Body q rs
body q [] h s f n = record { no_sizes = λ l. refl; no_overrides = λ l. refl; body_is = refl }
body q (Pg p ∷ rs) h s f n = absurd (omega (arith, eqb→eq (place q) 0 s.0))
body q (Ly size ∷ rs) h s f n =
    let i = (within_iff 1 2 (place q)).0 s.0 in
    let more = body (Ly size) rs (omega arith) s.1 f.1 n.1 in
    record {
      no_sizes = λ l. absurd (omega (arith, i.high));
      no_overrides = λ l. absurd (omega (arith, i.high));
      body_is = ap (λ (l : List Record). Ly size ∷ l) more.body_is;
    }
body q (Sz chunk layer bytes ∷ rs) h s f n =
    let i = (within_iff 1 3 (place q)).0 s.0 in
    let more = body (Sz chunk layer bytes) rs (omega arith) s.1 f.1 n.1 in
    let no = more.no_sizes (omega arith) in
    record {
      no_sizes = λ l. no;
      no_overrides = λ l. absurd (omega (arith, i.high));
      body_is = rw no (ap (λ (l : List Record). Sz chunk layer bytes ∷ l) (rw no at more.body_is));
    }
body q (Bw count bytes ∷ rs) h s f n =
    let more = body (Bw count bytes) rs (omega arith) s.1 f.1 n.1 in
    let none = more.no_sizes (omega arith) in
    let no = more.no_overrides (omega arith) in
    let are : rs ≡ map run_record (runs (forecast_in rs)) = rw (none, no) at more.body_is in
    let other : Apart bytes (runs (forecast_in rs)) = apart count bytes (runs (forecast_in rs)) (subst (λ (l : List Record). Sequence (Bw count bytes) l) are s.1) in
    record {
      no_sizes = λ l. none;
      no_overrides = λ l. no;
      body_is = rw (none, no, runs_more count bytes (forecast_in rs) f.0 other) (ap (λ (l : List Record). Bw count bytes ∷ l) are);
    }
body q (En ∷ rs) h s f n = let e : true ≡ false = n.0 in absurd (let z : ◌≡◌ {A = ℕ} 0 1 = cc in omega arith)

-- ---- the whole

first : (rs : List Record) → has_programme rs ≡ true → Sequence En rs → All Filled rs → NoEnd (format one_sequence) rs → records_of (job_in rs) ≡ rs
first [] t s f n = absurd (let z : ◌≡◌ {A = ℕ} 0 1 = cc in omega arith)
first (Pg p ∷ rs) t s f n = ap (λ (l : List Record). Pg p ∷ l) (sym (body (Pg p) rs (omega arith) s.1 f.1 n.1).body_is)
first (Ly size ∷ rs) t s f n = absurd s.0
first (Sz chunk layer bytes ∷ rs) t s f n = absurd s.0
first (Bw count bytes ∷ rs) t s f n = absurd s.0
first (En ∷ rs) t s f n = let e : true ≡ false = n.0 in absurd (let z : ◌≡◌ {A = ℕ} 0 1 = cc in omega arith)

-- Records without a fault, to which nothing is lacking at EN, are those of the job that they say.
pub records_of_lem : (rs : List Record) → first_fault (format one_sequence) [] rs ≡ 0 → lacking rs ≡ 0 → NoEnd (format one_sequence) rs → records_of (job_in rs) ≡ rs
records_of_lem rs e l n =
    let rest : ℕ = bare_refusal rs or_else overrides_refusal (programme_in rs) (sizes_in rs) (overrides_in rs) or_else slots_refusal (programme_in rs) (forecast_in rs) in
    let has = T_true (has_programme rs) ((unless_iff 4 (has_programme rs) (omega arith)).0 ((or_else_iff (missing_refusal rs) rest).0 l).0) in
    let s = in_sequence [] rs e in
    first rs has s.0 s.1 n

-- Lemmas. The records of a mixed file: without a fault and with nothing lacking exactly if one PG
-- is among them, no run is empty and the job is accepted. Assumes nothing.
use Rattle.std.specs.Prelude.{ℕ, zero, suc, ◌+◌, ◌*◌, ◌≤◌, ◌≡◌, refl, Bool, true, false, ◌&&◌, List, [], ◌∷◌, ◌++◌, length, replicate, T, leb}
use Rattle.std.proofs.Common.{ap, ◌∙◌, arith, length-append}
use Rattle.std.proofs.lemmas.List.{length-replicate}
use Rattle.theory_basics.specs.Tests.{All}
use Rattle.theory_basics.specs.lemmas.Tests.{and_T, leb_iff}
use Rattle.theory_basics.specs.Refusals.{◌or_else◌}
use Rattle.theory_basics.specs.lemmas.Refusals.{or_else_iff, unless_iff}
use Rattle.records.specs.File.{encode_all, first_fault}
use Rattle.records.specs.lemmas.Written.{Plain}
use Rattle.records.specs.lemmas.Exact.{NoEnd}
use Rattle.job.specs.declared.Programme.{Programme}
use Rattle.job.specs.Job.{Accepted, Within}
use Rattle.job.specs.Refusal.{delay_refusal, fields_refusal, film_refusal, last_due_refusal, overrides_refusal, slots_refusal, within}
use Rattle.jobrecords.specs.declared.Record.{Record}
use Rattle.jobrecords.specs.declared.Record.TheVariants.{Pg, Ly, Sz, Bw, En}
use Rattle.jobrecords.specs.Records.{encode}
use Rattle.jobrecords.specs.Says.{forecast_in, has_programme, job_in, overrides_in, programme_in, sizes_in}
use Rattle.jobrecords.specs.Refusal.{bare_refusal, fault, format, lacking, missing_refusal, mixed, previous, run_fault}
use Rattle.jobrecords.specs.lemmas.Clean.{Faultless, faultless, first_programme, no_fault}
use Rattle.jobrecords.specs.lemmas.Joined.{forecast_append, has_append, has_same, sizes_append}
use Rattle.jobfile.specs.Arranged.{MayStand, programmes, with_end}
use Rattle.jobfile.specs.lemmas.Back.{Narrow, layer_back, layer_clean, programme_back, run_back, run_clean}
use Rattle.job.specs.Theorems.{delay_iff, film_iff, last_due_iff, overrides_iff, slots_iff}

-- ---- a record in range

abbrev InRange : Programme → Type 0
InRange p = (fields_refusal p or_else last_due_refusal p) ≡ 0

abbrev pub Good : Record → Type 0
Good (Pg p) = InRange p
Good (Ly size) = Within 1 16777216 size
Good (Sz chunk layer bytes) = ⊥
Good (Bw count bytes) = (1 ≤ count) × (count ≤ 3600) × Within 0 16777216 bytes
Good En = ⊥

all_right : (P : ℕ → Type 0) (a b : List ℕ) → All P (a ++ b) → All P b
all_right P [] b u = u
all_right P (x ∷ a) b u = all_right P a b u.1

run_has : (P : ℕ → Type 0) (count bytes : ℕ) (rest : List ℕ) → 1 ≤ count → All P (replicate count bytes ++ rest) → P bytes
run_has P zero bytes rest h a = absurd (omega arith)
run_has P (suc count) bytes rest h a = a.0

run_slots : (count bytes : ℕ) (rest : List ℕ) → length (replicate count bytes ++ rest) ≡ count + length rest
run_slots count bytes rest = length-append (replicate count bytes) rest ∙ rw (length-replicate count bytes) refl

good_from :
    (rs : List Record) → All MayStand rs → programmes rs ≤ 1 → (programmes rs ≡ 1 → InRange (programme_in rs)) →
    All (Within 1 16777216) (sizes_in rs) → All (Within 0 16777216) (forecast_in rs) → length (forecast_in rs) ≤ 3600 → All Good rs
good_from [] k one p z f few = tt
good_from (Pg q ∷ rs) k one p z f few =
    (p (omega arith), good_from rs k.1 (omega arith) (λ e. absurd (omega arith)) z f few)
good_from (Ly size ∷ rs) k one p z f few = (z.0, good_from rs k.1 one p z.1 f few)
good_from (Sz chunk layer bytes ∷ rs) k one p z f few = absurd k.0
good_from (Bw count bytes ∷ rs) k one p z f few =
    let n = run_slots count bytes (forecast_in rs) in (
      (k.0, omega arith, run_has (Within 0 16777216) count bytes (forecast_in rs) k.0 f),
      good_from rs k.1 one p z (all_right (Within 0 16777216) (replicate count bytes) (forecast_in rs) f) (omega arith),
    )
good_from (En ∷ rs) k one p z f few = absurd k.0

accepted_programme : (rs : List Record) → Accepted (job_in rs) → InRange (programme_in rs)
accepted_programme rs a =
    let p = programme_in rs in
    (or_else_iff (fields_refusal p) (last_due_refusal p)).1 (
      (or_else_iff (film_refusal p) (delay_refusal p)).1 ((film_iff p).1 (a.chunks_in, (a.span_in, a.limit_in)), (delay_iff p).1 a.delay_in),
      (last_due_iff p).1 a.last_in,
    )

few_slots : (rs : List Record) → Accepted (job_in rs) → length (forecast_in rs) ≤ 3600
few_slots rs a = omega (arith, a.slots_in, a.last_in)

pub all_good : (rs : List Record) → All MayStand rs → programmes rs ≡ 1 → Accepted (job_in rs) → All Good rs
all_good rs k one a = good_from rs k (omega arith) (λ e. accepted_programme rs a) a.sizes_in_lem a.forecast_in_lem (few_slots rs a)

-- ---- it reads back

narrow : (p : Programme) → InRange p → Narrow p
narrow p e =
    let u = (or_else_iff (film_refusal p) (delay_refusal p)).0 ((or_else_iff (fields_refusal p) (last_due_refusal p)).0 e).0 in
    let film = (film_iff p).0 u.0 in
    record {
      chunks_fit = omega (arith, film.0.high);
      span_fit = omega (arith, film.1.0.high);
      delay_fit = omega (arith, ((delay_iff p).0 u.1).high);
      limit_fit = omega (arith, film.1.1.high);
    }

pub all_plain : (rs : List Record) → All Good rs → All (Plain (format mixed) encode) rs
all_plain [] g = tt
all_plain (Pg p ∷ rs) g = (programme_back mixed p (narrow p g.0), all_plain rs g.1)
all_plain (Ly size ∷ rs) g = (layer_back mixed size (omega (arith, g.0.high)), all_plain rs g.1)
all_plain (Sz chunk layer bytes ∷ rs) g = absurd g.0
all_plain (Bw count bytes ∷ rs) g =
    (run_back mixed count bytes (omega (arith, g.0.1)) (omega (arith, g.0.2.high)), all_plain rs g.1)
all_plain (En ∷ rs) g = absurd g.0

-- ---- it has no fault

abbrev bit : Bool → ℕ
bit true = 1
bit false = 0

unseen : (b : Bool) (n : ℕ) → bit b + suc n ≤ 1 → b ≡ false
unseen true n h = absurd (omega arith)
unseen false n h = refl

sizes_more : (before : List Record) (r : Record) → length (sizes_in (before ++ (r ∷ []))) ≡ length (sizes_in before) + length (sizes_in (r ∷ []))
sizes_more before r = ap length (sizes_append before (r ∷ [])) ∙ length-append (sizes_in before) (sizes_in (r ∷ []))

slots_more : (before : List Record) (r : Record) → length (forecast_in (before ++ (r ∷ []))) ≡ length (forecast_in before) + length (forecast_in (r ∷ []))
slots_more before r = ap length (forecast_append before (r ∷ [])) ∙ length-append (forecast_in before) (forecast_in (r ∷ []))

-- What leaves room for the records that follow.
record Room (before rs : List Record) : Type 0 where
  one : bit (has_programme before) + programmes rs ≤ 1
  layers : length (sizes_in before) + length (sizes_in rs) ≤ 4
  slots : length (forecast_in before) + length (forecast_in rs) ≤ 3600

-- One record and those after it.
next : (before : List Record) (r : Record) (rs : List Record) → Faultless mixed (has_programme before) (previous before) (length (sizes_in before)) (length (forecast_in before)) r → first_fault (format mixed) (before ++ (r ∷ [])) rs ≡ 0 → first_fault (format mixed) before (r ∷ rs) ≡ 0
next before r rs f e =
    (or_else_iff (fault mixed before r) (first_fault (format mixed) (before ++ (r ∷ [])) rs)).1
    (no_fault mixed (has_programme before) (previous before) (length (sizes_in before)) (length (forecast_in before)) r f, e)

faults_from : (before rs : List Record) → All Good rs → Room before rs → first_fault (format mixed) before rs ≡ 0
faults_from before [] g m = refl
faults_from before (Pg p ∷ rs) g m =
    let new = unseen (has_programme before) (programmes rs) m.one in
    next before (Pg p) rs (record { first = rw new refl; turn = refl; ranges = g.0 })
    (faults_from (before ++ (Pg p ∷ [])) rs g.1 (record {
      one = rw (has_append before (Pg p ∷ []), new) (omega (arith, m.one));
      layers = omega (arith, sizes_more before (Pg p), m.layers);
      slots = omega (arith, slots_more before (Pg p), m.slots);
    }))
faults_from before (Ly size ∷ rs) g m =
    next before (Ly size) rs (record { first = refl; turn = refl; ranges = layer_clean (length (sizes_in before)) size (omega (arith, m.layers)) g.0 })
    (faults_from (before ++ (Ly size ∷ [])) rs g.1 (record {
      one = rw (has_same before (Ly size ∷ []) refl) m.one;
      layers = omega (arith, sizes_more before (Ly size), m.layers);
      slots = omega (arith, slots_more before (Ly size), m.slots);
    }))
faults_from before (Sz chunk layer bytes ∷ rs) g m = absurd g.0
faults_from before (Bw count bytes ∷ rs) g m =
    let here = run_slots count bytes (forecast_in rs) in
    let alone = run_slots count bytes [] in
    next before (Bw count bytes) rs
    (record { first = refl; turn = refl; ranges = run_clean (length (forecast_in before)) count bytes (omega (arith, m.slots)) g.0.0 g.0.2 })
    (faults_from (before ++ (Bw count bytes ∷ [])) rs g.1 (record {
      one = rw (has_same before (Bw count bytes ∷ []) refl) m.one;
      layers = omega (arith, sizes_more before (Bw count bytes), m.layers);
      slots = omega (arith, slots_more before (Bw count bytes), m.slots);
    }))
faults_from before (En ∷ rs) g m = absurd g.0

pub no_faults : (rs : List Record) → All Good rs → programmes rs ≡ 1 → Accepted (job_in rs) → first_fault (format mixed) [] rs ≡ 0
no_faults rs g one a = faults_from [] rs g (record { one = omega arith; layers = omega (arith, a.layers_in.high); slots = omega (arith, few_slots rs a) })

-- ---- nothing is lacking

has_one : (rs : List Record) → 1 ≤ programmes rs → T (has_programme rs)
has_one [] h = absurd (omega arith)
has_one (Pg p ∷ rs) h = tt
has_one (Ly size ∷ rs) h = has_one rs h
has_one (Sz chunk layer bytes ∷ rs) h = has_one rs h
has_one (Bw count bytes ∷ rs) h = has_one rs h
has_one (En ∷ rs) h = has_one rs h

pub nothing_lacks : (rs : List Record) → programmes rs ≡ 1 → Accepted (job_in rs) → lacking rs ≡ 0
nothing_lacks rs one a =
    let p = programme_in rs in
    let uneven : ℕ = overrides_refusal p (sizes_in rs) (overrides_in rs) in
    let total : ℕ = slots_refusal p (forecast_in rs) in
    (or_else_iff (missing_refusal rs) (bare_refusal rs or_else uneven or_else total)).1 (
      (unless_iff 4 (has_programme rs) (omega arith)).1 (has_one rs (omega arith)),
      (or_else_iff (bare_refusal rs) (uneven or_else total)).1 (
        (unless_iff 6 (leb 1 (length (sizes_in rs))) (omega arith)).1 ((leb_iff 1 (length (sizes_in rs))).1 a.layers_in.low),
        (or_else_iff uneven total).1 (
          (overrides_iff p (sizes_in rs) (overrides_in rs)).1 (a.overrides_named, (a.overrides_rise, a.overrides_in_lem)),
          (slots_iff p (forecast_in rs)).1 a.slots_in,
        ),
      ),
    )

-- ---- it is short

bytes_many : (rs : List Record) → All Good rs → length (encode_all encode rs) ≤ 10 * programmes rs + 6 * length (sizes_in rs) + 8 * length (forecast_in rs)
bytes_many [] g = omega arith
bytes_many (Pg p ∷ rs) g = omega (arith, bytes_many rs g.1)
bytes_many (Ly size ∷ rs) g = omega (arith, bytes_many rs g.1)
bytes_many (Sz chunk layer bytes ∷ rs) g = absurd g.0
bytes_many (Bw count bytes ∷ rs) g = omega (arith, bytes_many rs g.1, run_slots count bytes (forecast_in rs), g.0.0)
bytes_many (En ∷ rs) g = absurd g.0

pub few_bytes : (rs : List Record) → All Good rs → programmes rs ≡ 1 → Accepted (job_in rs) → length (with_end rs) ≤ 65536
few_bytes rs g one a =
    omega (arith, length-append (encode_all encode rs) (encode En), bytes_many rs g, a.layers_in.high, few_slots rs a)

-- ---- the other way round

no_empty_run : (slots count bytes : ℕ) → run_fault slots count bytes ≡ 0 → 1 ≤ count
no_empty_run slots count bytes e =
    let rest : Bool = leb (slots + count) 3600 && within 0 16777216 bytes in
    (leb_iff 1 count).0 (and_T (leb 1 count) rest ((unless_iff 7 (leb 1 count && rest) (omega arith)).0 e)).0

module _ (before : List Record) (r : Record) (rs : List Record) (e : first_fault (format mixed) before (r ∷ rs) ≡ 0) where
  both : (fault mixed before r ≡ 0) × (first_fault (format mixed) (before ++ (r ∷ [])) rs ≡ 0)
  both = (or_else_iff (fault mixed before r) (first_fault (format mixed) (before ++ (r ∷ [])) rs)).0 e

  clean : Faultless mixed (has_programme before) (previous before) (length (sizes_in before)) (length (forecast_in before)) r
  clean = faultless mixed (has_programme before) (previous before) (length (sizes_in before)) (length (forecast_in before)) r both.0

pub stand : (before rs : List Record) → first_fault (format mixed) before rs ≡ 0 → NoEnd (format mixed) rs → overrides_in rs ≡ [] → All MayStand rs
stand before [] e n o = tt
stand before (Pg p ∷ rs) e n o = (tt, stand (before ++ (Pg p ∷ [])) rs (both before (Pg p) rs e).1 n.1 o)
stand before (Ly size ∷ rs) e n o = (tt, stand (before ++ (Ly size ∷ [])) rs (both before (Ly size) rs e).1 n.1 o)
stand before (Sz chunk layer bytes ∷ rs) e n o = absurd (let z : ◌≡◌ {A = ℕ} 0 1 = cc in omega arith)
stand before (Bw count bytes ∷ rs) e n o = (
  no_empty_run (length (forecast_in before)) count bytes (clean before (Bw count bytes) rs e).ranges,
  stand (before ++ (Bw count bytes ∷ [])) rs (both before (Bw count bytes) rs e).1 n.1 o,
)
stand before (En ∷ rs) e n o = absurd (let z : ◌≡◌ {A = ℕ} 0 1 = cc in omega arith)

bit_small : (b : Bool) → bit b + 0 ≤ 1
bit_small true = omega arith
bit_small false = omega arith

at_most : (before rs : List Record) → first_fault (format mixed) before rs ≡ 0 → bit (has_programme before) + programmes rs ≤ 1
at_most before [] e = bit_small (has_programme before)
at_most before (Pg p ∷ rs) e =
    let new = first_programme (has_programme before) p (clean before (Pg p) rs e).first in
    let more = rw (has_append before (Pg p ∷ []), new) at (at_most (before ++ (Pg p ∷ [])) rs (both before (Pg p) rs e).1) in
    rw new (omega (arith, more))
at_most before (Ly size ∷ rs) e = rw (has_same before (Ly size ∷ []) refl) at (at_most (before ++ (Ly size ∷ [])) rs (both before (Ly size) rs e).1)
at_most before (Sz chunk layer bytes ∷ rs) e =
    rw (has_same before (Sz chunk layer bytes ∷ []) refl) at (at_most (before ++ (Sz chunk layer bytes ∷ [])) rs (both before (Sz chunk layer bytes) rs e).1)
at_most before (Bw count bytes ∷ rs) e =
    rw (has_same before (Bw count bytes ∷ []) refl) at (at_most (before ++ (Bw count bytes ∷ [])) rs (both before (Bw count bytes) rs e).1)
at_most before (En ∷ rs) e = rw (has_same before (En ∷ []) refl) at (at_most (before ++ (En ∷ [])) rs (both before En rs e).1)

at_least : (rs : List Record) → T (has_programme rs) → 1 ≤ programmes rs
at_least [] t = absurd t
at_least (Pg p ∷ rs) t = omega arith
at_least (Ly size ∷ rs) t = at_least rs t
at_least (Sz chunk layer bytes ∷ rs) t = at_least rs t
at_least (Bw count bytes ∷ rs) t = at_least rs t
at_least (En ∷ rs) t = at_least rs t

pub once : (rs : List Record) → first_fault (format mixed) [] rs ≡ 0 → lacking rs ≡ 0 → programmes rs ≡ 1
once rs e l =
    let p = programme_in rs in
    let rest : ℕ = bare_refusal rs or_else overrides_refusal p (sizes_in rs) (overrides_in rs) or_else slots_refusal p (forecast_in rs) in
    let t = (unless_iff 4 (has_programme rs) (omega arith)).0 ((or_else_iff (missing_refusal rs) rest).0 l).0 in
    omega (arith, at_most [] rs e, at_least rs t)

-- Lemmas. The records of an accepted job read back, without a fault, as that job. Assumes nothing.
use Rattle.std.specs.Prelude.{ℕ, suc, ◌+◌, ◌%◌, ◌≤◌, ◌<◌, ◌≡◌, refl, Bool, not, List, [], ◌∷◌, ◌++◌, map, length, replicate, T, leb, eqb}
use Rattle.std.proofs.Common.{ap, ◌∙◌, append-nil, arith, length-append, eqb→eq, le-leb, eq-eqb}
use Rattle.std.proofs.lemmas.List.{length-replicate}
use Rattle.std.proofs.Math.Dec.{not_T}
use Rattle.theory_basics.specs.Tests.{All}
use Rattle.theory_basics.specs.lemmas.Tests.{T_and, leb_iff, all_map, all_append, by_cond}
use Rattle.theory_basics.specs.lemmas.Refusals.{unless_iff, or_else_iff}
use Rattle.records.specs.File.{Format, first_fault}
use Rattle.records.specs.lemmas.Written.{h_back, w_back, ReadsBack, Plain}
use Rattle.job.specs.declared.Programme.{Programme}
use Rattle.job.specs.Job.{Job, Override, Within, Named, Accepted, layers, last_slot}
use Rattle.job.specs.Theorems.{within_iff, film_iff, delay_iff, last_due_iff, overrides_iff}
use Rattle.jobrecords.specs.declared.Record.{Record}
use Rattle.jobrecords.specs.declared.Record.TheVariants.{Pg, Ly, Sz, Bw, En}
use Rattle.jobrecords.specs.Records.{encode, front}
use Rattle.jobrecords.specs.Says.{has_programme, sizes_in, overrides_in, forecast_in, job_in}
use Rattle.jobrecords.specs.Refusal.{one_sequence, second_refusal, previous, place, is_run_of, follows, layer_fault, run_fault, range_fault, fault, lacking, format}
use Rattle.jobrecords.specs.lemmas.Clean.{no_fault}
use Rattle.jobrecords.specs.lemmas.Sequence.{previous_snoc}
use Rattle.jobrecords.specs.lemmas.Joined.{sizes_append, overrides_append, forecast_append}
use Rattle.jobfile.specs.Writer.{Run, in_front, runs, Differ, layer_record, override_record, run_record, body_of, records_of}
use Rattle.jobfile.specs.lemmas.Runs.{runs_spread, longest_runs}

abbrev form : Format Record
form = format one_sequence

-- ---- a record, in either form of file

-- The fields of a programme fit their width.
pub record Narrow (p : Programme) : Type 0 where
  pub chunks_fit : p.chunks < 65536
  pub span_fit : p.span < 65536
  pub delay_fit : p.delay < 65536
  pub limit_fit : p.limit < 65536

pub programme_back : (q : Bool) (p : Programme) → Narrow p → Plain (format q) encode (Pg p)
unfolding front
programme_back q p n =
    record {
      back = record {
        front_is = λ rest.
            rw (
              le-leb 2 (length (encode (Pg p) ++ rest)) (omega arith),
              le-leb 10 (length (encode (Pg p) ++ rest)) (omega arith),
              h_back p.chunks n.chunks_fit,
              h_back p.span n.span_fit,
              h_back p.delay n.delay_fit,
              h_back p.limit n.limit_fit,
            );
        some = omega arith;
      };
      not_end = refl;
    }

pub layer_back : (q : Bool) (size : ℕ) → size < 4294967296 → Plain (format q) encode (Ly size)
unfolding front
layer_back q size fit =
    record {
      back = record {
        front_is = λ rest. rw (le-leb 2 (length (encode (Ly size) ++ rest)) (omega arith), le-leb 6 (length (encode (Ly size) ++ rest)) (omega arith), w_back size fit);
        some = omega arith;
      };
      not_end = refl;
    }

override_back : (chunk layer bytes : ℕ) → chunk < 65536 → layer < 256 → bytes < 4294967296 → Plain form encode (Sz chunk layer bytes)
unfolding front
override_back chunk layer bytes fit one fits =
    let byte : layer % 256 ≡ layer = omega arith in
    record {
      back = record {
        front_is = λ rest.
            rw (
              le-leb 2 (length (encode (Sz chunk layer bytes) ++ rest)) (omega arith),
              le-leb 9 (length (encode (Sz chunk layer bytes) ++ rest)) (omega arith),
              h_back chunk fit,
              byte,
              w_back bytes fits,
            );
        some = omega arith;
      };
      not_end = refl;
    }

pub run_back : (q : Bool) (count bytes : ℕ) → count < 65536 → bytes < 4294967296 → Plain (format q) encode (Bw count bytes)
unfolding front
run_back q count bytes fit fits =
    record {
      back = record {
        front_is = λ rest.
            rw (
              le-leb 2 (length (encode (Bw count bytes) ++ rest)) (omega arith),
              le-leb 8 (length (encode (Bw count bytes) ++ rest)) (omega arith),
              h_back count fit,
              w_back bytes fits,
            );
        some = omega arith;
      };
      not_end = refl;
    }

pub end_back : (q : Bool) → ReadsBack (format q) encode En
unfolding front
end_back q = record { front_is = λ rest. rw (le-leb 2 (length (encode En ++ rest)) (omega arith)); some = omega arith }

-- ---- the longest runs

-- A run of 1 to n slots of bytes in range.
pub record GoodRun (n : ℕ) (r : Run) : Type 0 where
  pub some : 1 ≤ r.count
  pub most : r.count ≤ n
  pub bytes_in_lem : Within 0 16777216 r.bytes

front_good : (n x : ℕ) (rs : List Run) → Within 0 16777216 x → All (GoodRun n) rs → All (GoodRun (suc n)) (in_front x rs)
front_good n x [] b a = (record { some = omega arith; most = omega arith; bytes_in_lem = b }, tt)
front_good n x (r ∷ rs) b a =
    let longer : (q : Run) → GoodRun n q → GoodRun (suc n) q = λ q g. record { some = g.some; most = omega (arith, g.most); bytes_in_lem = g.bytes_in_lem } in
    by_cond (All (GoodRun (suc n))) (eqb x r.bytes)
    (λ t. (record { some = omega arith; most = omega (arith, a.0.most); bytes_in_lem = b }, all_map (GoodRun n) (GoodRun (suc n)) rs longer a.1))
    (λ t. (record { some = omega arith; most = omega arith; bytes_in_lem = b }, all_map (GoodRun n) (GoodRun (suc n)) (r ∷ rs) longer a))

pub runs_good : (l : List ℕ) → All (Within 0 16777216) l → All (GoodRun (length l)) (runs l)
runs_good [] a = tt
runs_good (x ∷ l) a = front_good (length l) x (runs l) a.0 (runs_good l a.1)

-- ---- every record of an accepted job reads back

layers_back : (l : List ℕ) → All (Within 1 16777216) l → All (Plain form encode) (map layer_record l)
layers_back [] a = tt
layers_back (x ∷ l) a = (layer_back one_sequence x (omega (arith, a.0.high)), layers_back l a.1)

overrides_back :
    (p : Programme) (sizes : List ℕ) (l : List Override) → p.chunks < 65536 → length sizes ≤ 4 → All (Named p sizes) l →
    All (λ (o : Override). Within 1 16777216 o.bytes) l → All (Plain form encode) (map override_record l)
overrides_back p sizes [] h few n a = tt
overrides_back p sizes (o ∷ l) h few n a = (
  override_back o.chunk o.layer o.bytes (omega (arith, n.0.chunk_in.high)) (omega (arith, n.0.layer_in)) (omega (arith, a.0.high)),
  overrides_back p sizes l h few n.1 a.1,
)

runs_back : (n : ℕ) (l : List Run) → n ≤ 3600 → All (GoodRun n) l → All (Plain form encode) (map run_record l)
runs_back n [] h a = tt
runs_back n (r ∷ l) h a = (run_back one_sequence r.count r.bytes (omega (arith, a.0.most)) (omega (arith, a.0.bytes_in_lem.high)), runs_back n l h a.1)

module _ (j : Job) (a : Accepted j) where
  few_slots : length j.forecast ≤ 3600
  few_slots = omega (arith, a.slots_in, a.last_in)

  pub records_back : All (Plain form encode) (records_of j)
  records_back =
      let narrow : Narrow j.programme = record {
        chunks_fit = omega (arith, a.chunks_in.high);
        span_fit = omega (arith, a.span_in.high);
        delay_fit = omega (arith, a.delay_in.high);
        limit_fit = omega (arith, a.limit_in.high);
      } in
      let runRecords = map run_record (runs j.forecast) in (
        programme_back one_sequence j.programme narrow,
        all_append (Plain form encode) (map layer_record j.sizes) (map override_record j.overrides ++ runRecords)
            (layers_back j.sizes a.sizes_in_lem)
            (all_append (Plain form encode) (map override_record j.overrides) runRecords
            (overrides_back j.programme j.sizes j.overrides narrow.chunks_fit a.layers_in.high a.overrides_named a.overrides_in_lem)
            (runs_back (length j.forecast) (runs j.forecast) few_slots (runs_good j.forecast a.forecast_in_lem))),
      )

-- ---- and has no fault

-- A record after some others that is no second PG, follows the last of them and is in range.
good_next : (before : List Record) (r : Record) → second_refusal (has_programme before) r ≡ 0 → T (follows (previous before) r) → range_fault (length (sizes_in before)) (length (forecast_in before)) r ≡ 0 → fault one_sequence before r ≡ 0
good_next before r first turn range =
    no_fault one_sequence (has_programme before) (previous before) (length (sizes_in before)) (length (forecast_in before)) r
    (record { first = first; turn = (unless_iff 17 (follows (previous before) r) (omega arith)).1 turn; ranges = range })

pub layer_clean : (n size : ℕ) → n < 4 → Within 1 16777216 size → layer_fault n size ≡ 0
layer_clean n size few i = rw (le-leb 1 size i.low, le-leb size 16777216 i.high, le-leb (n + 1) 4 (omega arith))

pub run_clean : (n count bytes : ℕ) → n + count ≤ 3600 → 1 ≤ count → Within 0 16777216 bytes → run_fault n count bytes ≡ 0
run_clean n count bytes few some i = rw (le-leb 1 count some, le-leb (n + count) 3600 few, le-leb 0 bytes i.low, le-leb bytes 16777216 i.high)

-- The last of some records stands at a place up to most in the sequence, and they give no slots.
record Ready (most : ℕ) (before : List Record) : Type 0 where
  turn : Within 1 most (place (previous before))
  no_slots : forecast_in before ≡ []

-- Layers after records that leave room for them, then records that have no fault after layers.
layers_clean :
    (before : List Record) (l : List ℕ) (rest : List Record) → Ready 2 before → length (sizes_in before) + length l ≤ 4 → All (Within 1 16777216) l →
    ((b : List Record) → Ready 2 b → first_fault form b rest ≡ 0) → first_fault form before (map layer_record l ++ rest) ≡ 0
layers_clean before [] rest y few a f = f before y
layers_clean before (x ∷ l) rest y few a f =
    let one : length (sizes_in (before ++ (Ly x ∷ []))) ≡ length (sizes_in before) + 1 = ap length (sizes_append before (Ly x ∷ [])) ∙ length-append (sizes_in before) (x ∷ []) in
    let good : fault one_sequence before (Ly x) ≡ 0 = good_next before (Ly x) refl ((within_iff 1 2 (place (previous before))).1 y.turn) (layer_clean (length (sizes_in before)) x (omega arith) a.0) in
    let next : Ready 2 (before ++ (Ly x ∷ [])) = record {
      turn = rw (previous_snoc before (Ly x)) (record { low = omega arith; high = omega arith });
      no_slots = forecast_append before (Ly x ∷ []) ∙ append-nil (forecast_in before) ∙ y.no_slots;
    } in
    (or_else_iff (fault one_sequence before (Ly x)) (first_fault form (before ++ (Ly x ∷ [])) (map layer_record l ++ rest))).1
    (good, layers_clean (before ++ (Ly x ∷ [])) l rest next (omega arith) a.1 f)

-- SZs after layers.
overrides_clean :
    (before : List Record) (l : List Override) (rest : List Record) → Ready 3 before →
    ((b : List Record) → Ready 3 b → first_fault form b rest ≡ 0) → first_fault form before (map override_record l ++ rest) ≡ 0
overrides_clean before [] rest y f = f before y
overrides_clean before (o ∷ l) rest y f =
    let r = override_record o in
    let good : fault one_sequence before r ≡ 0 = good_next before r refl ((within_iff 1 3 (place (previous before))).1 y.turn) refl in
    let next : Ready 3 (before ++ (r ∷ [])) = record {
      turn = rw (previous_snoc before r) (record { low = omega arith; high = omega arith });
      no_slots = forecast_append before (r ∷ []) ∙ append-nil (forecast_in before) ∙ y.no_slots;
    } in
    (or_else_iff (fault one_sequence before r) (first_fault form (before ++ (r ∷ [])) (map override_record l ++ rest))).1
    (good, overrides_clean (before ++ (r ∷ [])) l rest next f)

-- The record before is no run of the bytes of the first.
abbrev Other : Record → List Run → Type 0
Other q [] = Unit {0}
Other q (r ∷ l) = T (not (is_run_of r.bytes q))

other_all : (q : Record) (l : List Run) → place q ≤ 3 → Other q l
other_all q [] h = tt
other_all (Pg p) (r ∷ l) h = tt
other_all (Ly size) (r ∷ l) h = tt
other_all (Sz chunk layer bytes) (r ∷ l) h = tt
other_all (Bw count bytes) (r ∷ l) h = absurd (omega arith)
other_all En (r ∷ l) h = tt

other_next : (r : Run) (l : List Run) → Differ (r ∷ l) → Other (run_record r) l
other_next r [] d = tt
other_next r (q ∷ l) d = not_T (eqb r.bytes q.bytes) (λ t. d.0 (eqb→eq r.bytes q.bytes t))

differ_rest : (r : Run) (l : List Run) → Differ (r ∷ l) → Differ l
differ_rest r [] d = tt
differ_rest r (q ∷ l) d = d.1

-- Runs after records that leave room for their slots.
runs_clean :
    (n : ℕ) (before : List Record) (l : List Run) → 1 ≤ place (previous before) → Other (previous before) l → Differ l →
    length (forecast_in before) + length (forecast_in (map run_record l)) ≤ 3600 → All (GoodRun n) l → first_fault form before (map run_record l) ≡ 0
runs_clean n before [] y o d few a = refl
runs_clean n before (r ∷ l) y o d few a =
    let k = r.count in
    let q = run_record r in
    let all_slots : length (replicate k r.bytes ++ forecast_in (map run_record l)) ≡ k + length (forecast_in (map run_record l)) = length-append (replicate k r.bytes) (forecast_in (map run_record l)) ∙ rw (length-replicate k r.bytes) refl in
    let one : length (forecast_in (before ++ (q ∷ []))) ≡ length (forecast_in before) + k =
    ap length (forecast_append before (q ∷ []))
    ∙ length-append (forecast_in before) (replicate k r.bytes ++ [])
    ∙ rw (append-nil (replicate k r.bytes), length-replicate k r.bytes) refl in
    let turn = T_and (leb 1 (place (previous before))) (not (is_run_of r.bytes (previous before))) ((leb_iff 1 (place (previous before))).1 y) o in
    let good : fault one_sequence before q ≡ 0 = good_next before q refl turn (run_clean (length (forecast_in before)) k r.bytes (omega arith) a.0.some a.0.bytes_in_lem) in
    let after = previous_snoc before q in
    (or_else_iff (fault one_sequence before q) (first_fault form (before ++ (q ∷ [])) (map run_record l))).1
    (good, runs_clean n (before ++ (q ∷ [])) l (rw after (omega arith)) (rw after (other_next r l d)) (differ_rest r l d) (omega arith) a.1)

-- ---- what the records of a job say

layer_sizes : (l : List ℕ) → sizes_in (map layer_record l) ≡ l
layer_sizes [] = refl
layer_sizes (x ∷ l) = ap (λ (t : List ℕ). x ∷ t) (layer_sizes l)

layer_overrides : (l : List ℕ) → overrides_in (map layer_record l) ≡ []
layer_overrides [] = refl
layer_overrides (x ∷ l) = layer_overrides l

layer_forecast : (l : List ℕ) → forecast_in (map layer_record l) ≡ []
layer_forecast [] = refl
layer_forecast (x ∷ l) = layer_forecast l

override_sizes : (l : List Override) → sizes_in (map override_record l) ≡ []
override_sizes [] = refl
override_sizes (o ∷ l) = override_sizes l

override_overrides : (l : List Override) → overrides_in (map override_record l) ≡ l
override_overrides [] = refl
override_overrides (o ∷ l) = ap (λ (t : List Override). o ∷ t) (override_overrides l)

override_forecast : (l : List Override) → forecast_in (map override_record l) ≡ []
override_forecast [] = refl
override_forecast (o ∷ l) = override_forecast l

run_sizes : (l : List Run) → sizes_in (map run_record l) ≡ []
run_sizes [] = refl
run_sizes (r ∷ l) = run_sizes l

run_overrides : (l : List Run) → overrides_in (map run_record l) ≡ []
run_overrides [] = refl
run_overrides (r ∷ l) = run_overrides l

body_sizes : (sizes : List ℕ) (os : List Override) (f : List ℕ) → sizes_in (body_of sizes os f) ≡ sizes
body_sizes sizes os f =
    sizes_append (map layer_record sizes) (map override_record os ++ map run_record (runs f))
    ∙ rw (sizes_append (map override_record os) (map run_record (runs f)), layer_sizes sizes, override_sizes os, run_sizes (runs f)) (append-nil sizes)

body_overrides : (sizes : List ℕ) (os : List Override) (f : List ℕ) → overrides_in (body_of sizes os f) ≡ os
body_overrides sizes os f =
    overrides_append (map layer_record sizes) (map override_record os ++ map run_record (runs f))
    ∙ rw (overrides_append (map override_record os) (map run_record (runs f)), layer_overrides sizes, override_overrides os, run_overrides (runs f)) (append-nil os)

body_forecast : (sizes : List ℕ) (os : List Override) (f : List ℕ) → forecast_in (body_of sizes os f) ≡ f
body_forecast sizes os f =
    forecast_append (map layer_record sizes) (map override_record os ++ map run_record (runs f))
    ∙ rw (forecast_append (map override_record os) (map run_record (runs f)), layer_forecast sizes, override_forecast os) (runs_spread f)

module _ (j : Job) where
  sizes_back : sizes_in (records_of j) ≡ j.sizes
  sizes_back = body_sizes j.sizes j.overrides j.forecast

  overrides_are : overrides_in (records_of j) ≡ j.overrides
  overrides_are = body_overrides j.sizes j.overrides j.forecast

  forecast_back : forecast_in (records_of j) ≡ j.forecast
  forecast_back = body_forecast j.sizes j.overrides j.forecast

  -- They say the job.
  pub job_back : job_in (records_of j) ≡ j
  job_back = rw (sizes_back, overrides_are, forecast_back)

  module _ (a : Accepted j) where
    programme_clean : fault one_sequence [] (Pg j.programme) ≡ 0
    programme_clean =
        let p = j.programme in
        let film = (film_iff p).1 (a.chunks_in, (a.span_in, a.limit_in)) in
        good_next [] (Pg p) refl tt (rw (film, (delay_iff p).1 a.delay_in, (last_due_iff p).1 a.last_in))

    -- No record has a fault, and nothing is lacking at EN.
    pub records_clean : first_fault form [] (records_of j) ≡ 0
    records_clean =
        let pg : List Record = Pg j.programme ∷ [] in
        let rest : List Record = map run_record (runs j.forecast) in
        let last : (b : List Record) → Ready 3 b → first_fault form b rest ≡ 0 =
        λ b y.
        runs_clean (length j.forecast) b (runs j.forecast) y.turn.low (other_all (previous b) (runs j.forecast) y.turn.high) (longest_runs j.forecast).differ
        (rw (y.no_slots, runs_spread j.forecast) (omega (arith, few_slots j a))) (runs_good j.forecast a.forecast_in_lem) in
        let middle : (b : List Record) → Ready 2 b → first_fault form b (map override_record j.overrides ++ rest) ≡ 0 =
        λ b y. overrides_clean b j.overrides rest (record { turn = record { low = y.turn.low; high = omega (arith, y.turn.high) }; no_slots = y.no_slots }) last in
        (or_else_iff (fault one_sequence [] (Pg j.programme)) (first_fault form pg (body_of j.sizes j.overrides j.forecast))).1 (
          programme_clean,
          layers_clean pg j.sizes (map override_record j.overrides ++ rest) (record { turn = record { low = omega arith; high = omega arith }; no_slots = refl }) (omega (arith, a.layers_in.high)) a.sizes_in_lem middle,
        )

    pub nothing_lacking : lacking (records_of j) ≡ 0
    nothing_lacking =
        let named = (overrides_iff j.programme j.sizes j.overrides).1 (a.overrides_named, (a.overrides_rise, a.overrides_in_lem)) in
        rw (sizes_back, overrides_are, forecast_back, le-leb 1 (layers j) a.layers_in.low, named, eq-eqb (length j.forecast) (last_slot j) a.slots_in)

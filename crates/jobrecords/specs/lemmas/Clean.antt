-- Lemmas. Records without a fault, to which nothing is lacking at EN, say an accepted job. Assumes
-- nothing.
use Rattle.std.specs.Prelude.{ℕ, zero, suc, ◌+◌, ◌≤◌, ◌<◌, ◌≡◌, Bool, true, false, not, ◌&&◌, length, replicate, leb, eqb}
use Rattle.std.proofs.Math.Path.{refl}
use Rattle.std.proofs.Common.{sym, ap, ◌∙◌, arith, length-append, eqb→eq}
use mathlib.Core.List.{List, [], ◌∷◌, ◌++◌, append_assoc, append-nil}
use Rattle.theory_basics.specs.Tests.{All}
use Rattle.theory_basics.specs.lemmas.Tests.{all_append, and_T, not_T_false, leb_iff, T_true}
use Rattle.theory_basics.specs.Refusals.{unless, ◌or_else◌}
use Rattle.theory_basics.specs.lemmas.Refusals.{unless_iff, or_else_iff}
use Rattle.records.specs.File.{Stop, ended, broken, split, first_fault, stop_refusal, records_refusal, file_refusal}
use Rattle.job.specs.declared.Programme.{Programme}
use Rattle.job.specs.Job.{Within, Accepted}
use Rattle.job.specs.Refusal.{within, fields_refusal, last_due_refusal, film_refusal, delay_refusal, overrides_refusal, slots_refusal}
use Rattle.job.specs.Theorems.{within_iff, film_iff, delay_iff, last_due_iff, overrides_iff, slots_iff}
use Rattle.jobrecords.specs.declared.Record.{Record}
use Rattle.jobrecords.specs.declared.Record.TheVariants.{Pg, Ly, Sz, Bw, En}
use Rattle.jobrecords.specs.Says.{has_programme, programme_in, sizes_in, overrides_in, forecast_in, job_in}
use Rattle.jobrecords.specs.Refusal.{second_refusal, previous, sequence_refusal, layer_fault, run_fault, range_fault, fault, missing_refusal, bare_refusal, lacking, format}
use Rattle.jobrecords.specs.lemmas.Joined.{has_same, programme_same, programme_new, sizes_append, forecast_append}
use Rattle.jobrecords.specs.lemmas.Sound.{broken_some}

-- ---- what a record without a fault says

-- 4, 17 and the ranges, each passed by a record after what is known of the records before it.
pub record Faultless (q has : Bool) (last : Record) (layers slots : ℕ) (r : Record) : Type 0 where
  pub first : second_refusal has r ≡ 0
  pub turn : sequence_refusal q last r ≡ 0
  pub ranges : range_fault layers slots r ≡ 0

module _ (q has : Bool) (last : Record) (layers slots : ℕ) (r : Record) where
  pub faultless : (second_refusal has r or_else sequence_refusal q last r or_else range_fault layers slots r) ≡ 0 → Faultless q has last layers slots r
  faultless e =
      let u = (or_else_iff (second_refusal has r) (sequence_refusal q last r or_else range_fault layers slots r)).0 e in
      let v = (or_else_iff (sequence_refusal q last r) (range_fault layers slots r)).0 u.1 in
      record { first = u.0; turn = v.0; ranges = v.1 }

  pub no_fault : Faultless q has last layers slots r → (second_refusal has r or_else sequence_refusal q last r or_else range_fault layers slots r) ≡ 0
  no_fault f =
      (or_else_iff (second_refusal has r) (sequence_refusal q last r or_else range_fault layers slots r)).1
      (f.first, (or_else_iff (sequence_refusal q last r) (range_fault layers slots r)).1 (f.turn, f.ranges))

pub first_programme : (seen : Bool) (p : Programme) → second_refusal seen (Pg p) ≡ 0 → seen ≡ false
first_programme seen p e = not_T_false seen ((unless_iff 4 (not seen) (omega arith)).0 e)

record GoodProgramme (p : Programme) : Type 0 where
  fields : fields_refusal p ≡ 0
  due : last_due_refusal p ≡ 0

pub programme_few : (p : Programme) → (fields_refusal p or_else last_due_refusal p) ≡ 0 → p.chunks ≤ 500
programme_few p e = ((film_iff p).0 ((or_else_iff (film_refusal p) (delay_refusal p)).0 ((or_else_iff (fields_refusal p) (last_due_refusal p)).0 e).0).0).0.high

pub layer_in : (layers size : ℕ) → layer_fault layers size ≡ 0 → (layers < 4) × Within 1 16777216 size
layer_in layers size e =
    let t = and_T (within 1 16777216 size) (leb (layers + 1) 4) ((unless_iff 6 (within 1 16777216 size && leb (layers + 1) 4) (omega arith)).0 e) in
    let few = (leb_iff (layers + 1) 4).0 t.1 in
    (omega arith, (within_iff 1 16777216 size).0 t.0)

pub run_in : (slots count bytes : ℕ) → run_fault slots count bytes ≡ 0 → (slots + count ≤ 3600) × Within 0 16777216 bytes
run_in slots count bytes e =
    let rest : Bool = leb (slots + count) 3600 && within 0 16777216 bytes in
    let t = and_T (leb 1 count) rest ((unless_iff 7 (leb 1 count && rest) (omega arith)).0 e) in
    let u = and_T (leb (slots + count) 3600) (within 0 16777216 bytes) t.1 in
    ((leb_iff (slots + count) 3600).0 u.0, (within_iff 0 16777216 bytes).0 u.1)

-- ---- records without a fault

record Clean (rs : List Record) : Type 0 where
  programme : has_programme rs ≡ true → GoodProgramme (programme_in rs)
  few : length (sizes_in rs) ≤ 4
  sizes : All (Within 1 16777216) (sizes_in rs)
  forecast : All (Within 0 16777216) (forecast_in rs)

-- Records that say the same are as clean.
same_clean : (rs qs : List Record) → has_programme qs ≡ has_programme rs → programme_in qs ≡ programme_in rs → sizes_in qs ≡ sizes_in rs → forecast_in qs ≡ forecast_in rs → Clean rs → Clean qs
same_clean rs qs a b c d k = record { programme = λ e. rw b (k.programme (sym a ∙ e)); few = rw c k.few; sizes = rw c k.sizes; forecast = rw d k.forecast }

run_all : (P : ℕ → Type 0) (count bytes : ℕ) → P bytes → All P (replicate count bytes)
run_all P zero bytes p = tt
run_all P (suc count) bytes p = (p, run_all P count bytes p)

module _ (rs : List Record) (k : Clean rs) where
  clean_more : (r : Record) → second_refusal (has_programme rs) r ≡ 0 → range_fault (length (sizes_in rs)) (length (forecast_in rs)) r ≡ 0 → Clean (rs ++ (r ∷ []))
  clean_more (Pg p) first e =
      let new = first_programme (has_programme rs) p first in
      let u = (or_else_iff (fields_refusal p) (last_due_refusal p)).0 e in
      record {
        programme = λ t. rw (programme_new rs (Pg p ∷ []) new) (record { fields = u.0; due = u.1 });
        few = rw (sizes_append rs (Pg p ∷ []), append-nil (sizes_in rs)) k.few;
        sizes = rw (sizes_append rs (Pg p ∷ []), append-nil (sizes_in rs)) k.sizes;
        forecast = rw (forecast_append rs (Pg p ∷ []), append-nil (forecast_in rs)) k.forecast;
      }
  clean_more (Ly size) first e =
      let i = layer_in (length (sizes_in rs)) size e in
      record {
        programme = λ t. rw (programme_same rs (Ly size ∷ []) refl) (k.programme (sym (has_same rs (Ly size ∷ []) refl) ∙ t));
        few = rw (sizes_append rs (Ly size ∷ [])) (omega (arith, length-append (sizes_in rs) (size ∷ []), i.0));
        sizes = rw (sizes_append rs (Ly size ∷ [])) (all_append (Within 1 16777216) (sizes_in rs) (size ∷ []) k.sizes (i.1, tt));
        forecast = rw (forecast_append rs (Ly size ∷ []), append-nil (forecast_in rs)) k.forecast;
      }
  clean_more (Sz chunk layer bytes) first e =
      let one = Sz chunk layer bytes ∷ [] in
      same_clean rs (rs ++ one) (has_same rs one refl) (programme_same rs one refl) (sizes_append rs one ∙ append-nil (sizes_in rs)) (forecast_append rs one ∙ append-nil (forecast_in rs)) k
  clean_more (Bw count bytes) first e =
      let i = run_in (length (forecast_in rs)) count bytes e in
      record {
        programme = λ t. rw (programme_same rs (Bw count bytes ∷ []) refl) (k.programme (sym (has_same rs (Bw count bytes ∷ []) refl) ∙ t));
        few = rw (sizes_append rs (Bw count bytes ∷ []), append-nil (sizes_in rs)) k.few;
        sizes = rw (sizes_append rs (Bw count bytes ∷ []), append-nil (sizes_in rs)) k.sizes;
        forecast = rw (forecast_append rs (Bw count bytes ∷ []), append-nil (replicate count bytes)) (all_append (Within 0 16777216) (forecast_in rs) (replicate count bytes) k.forecast (run_all (Within 0 16777216) count bytes i.1));
      }
  clean_more En first e =
      same_clean rs (rs ++ (En ∷ []))
      (has_same rs (En ∷ []) refl)
      (programme_same rs (En ∷ []) refl)
      (sizes_append rs (En ∷ []) ∙ append-nil (sizes_in rs))
      (forecast_append rs (En ∷ []) ∙ append-nil (forecast_in rs))
      k

module _ (q : Bool) where
  clean_all : (before rs : List Record) → Clean before → first_fault (format q) before rs ≡ 0 → Clean (before ++ rs)
  clean_all before [] k e = rw (append-nil before) k
  clean_all before (r ∷ rs) k e =
      let u = (or_else_iff (fault q before r) (first_fault (format q) (before ++ (r ∷ [])) rs)).0 e in
      let f = faultless q (has_programme before) (previous before) (length (sizes_in before)) (length (forecast_in before)) r u.0 in
      rw append_assoc at (clean_all (before ++ (r ∷ [])) rs (clean_more before k r f.first f.ranges) u.1)

none_clean : Clean []
none_clean = record { programme = λ e. absurd (let z : ◌≡◌ {A = ℕ} 0 1 = cc in omega arith); few = omega arith; sizes = tt; forecast = tt }

-- ---- with nothing lacking

accepted : (rs : List Record) → Clean rs → lacking rs ≡ 0 → Accepted (job_in rs)
accepted rs k e =
    let p = programme_in rs in
    let uneven : ℕ = overrides_refusal p (sizes_in rs) (overrides_in rs) in
    let total : ℕ = slots_refusal p (forecast_in rs) in
    let u = (or_else_iff (missing_refusal rs) (bare_refusal rs or_else uneven or_else total)).0 e in
    let v = (or_else_iff (bare_refusal rs) (uneven or_else total)).0 u.1 in
    let w = (or_else_iff uneven total).0 v.1 in
    let named = (overrides_iff p (sizes_in rs) (overrides_in rs)).0 w.0 in
    let has = T_true (has_programme rs) ((unless_iff 4 (has_programme rs) (omega arith)).0 u.0) in
    let good = k.programme has in
    let fields = (or_else_iff (film_refusal p) (delay_refusal p)).0 good.fields in
    let film = (film_iff p).0 fields.0 in
    record {
      chunks_in = film.0;
      span_in = film.1.0;
      limit_in = film.1.1;
      delay_in = (delay_iff p).0 fields.1;
      last_in = (last_due_iff p).0 good.due;
      layers_in = record { low = (leb_iff 1 (length (sizes_in rs))).0 ((unless_iff 6 (leb 1 (length (sizes_in rs))) (omega arith)).0 v.0); high = k.few };
      sizes_in_lem = k.sizes;
      overrides_named = named.0;
      overrides_rise = named.1.0;
      overrides_in_lem = named.1.1;
      forecast_in_lem = k.forecast;
      slots_in = (slots_iff p (forecast_in rs)).0 w.1;
    }

-- ---- a file that is not refused

pub record Taken (q : Bool) (s : List ℕ) : Type 0 where
  pub short : unless 9 (leb (length s) 65536) ≡ 0
  pub no_faults : first_fault (format q) [] (split (format q) s).records ≡ 0
  pub ends : (split (format q) s).stop ≡ ended 0
  pub none_lacking : lacking (split (format q) s).records ≡ 0

module _ (q : Bool) (s : List ℕ) where
  at_end : (x : Stop) → (split (format q) s).stop ≡ x → stop_refusal (format q) (split (format q) s).records x ≡ 0 → ((split (format q) s).stop ≡ ended 0) × (lacking (split (format q) s).records ≡ 0)
  at_end (ended n) i z =
      let u = (or_else_iff (unless 3 (eqb n 0)) (lacking (split (format q) s).records)).0 z in
      (i ∙ ap (λ (k : ℕ). ended k) (eqb→eq n 0 ((unless_iff 3 (eqb n 0) (omega arith)).0 u.0)), u.1)
  at_end (broken n) i z = absurd (broken_some q s n i z)

  pub taken : file_refusal (format q) s ≡ 0 → Taken q s
  unfolding file_refusal
  taken e =
      let rs = (split (format q) s).records in
      let u = (or_else_iff (unless 9 (leb (length s) 65536)) (records_refusal (format q) s)).0 e in
      let v = (or_else_iff (first_fault (format q) [] rs) (stop_refusal (format q) rs (split (format q) s).stop)).0 u.1 in
      let w = at_end (split (format q) s).stop refl v.1 in
      record { short = u.0; no_faults = v.0; ends = w.0; none_lacking = w.1 }

  -- It says an accepted job.
  pub file_clean : file_refusal (format q) s ≡ 0 → Accepted (job_in (split (format q) s).records)
  file_clean e = let t = taken e in let rs = (split (format q) s).records in accepted rs (clean_all q [] rs none_clean t.no_faults) t.none_lacking

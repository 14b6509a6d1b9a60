-- Theorems. The refusals of a job say what its fields have to be: there is none exactly for
-- accepted jobs, and of a call exactly if the SZs are handed whole too.
use Rattle.std.specs.Prelude.{ℕ, ◌≤◌, ◌≡◌, refl, Bool, not, ◌&&◌, List, [], ◌∷◌, ◌↔◌, length, get_or, T, leb, ltb, eqb}
use Rattle.std.proofs.Common.{sym, ap, ◌∙◌, inl, inr, ⊎_elim, arith, T_not}
use Rattle.std.proofs.Math.Dec.{not_T}
use Rattle.theory_basics.specs.Tests.{All, all}
use Rattle.theory_basics.specs.lemmas.Tests.{all_iff, leb_iff, ltb_iff, eqb_iff, T_or_iff, tests}
use Rattle.theory_basics.specs.Refusals.{◌or_else◌}
use Rattle.theory_basics.specs.lemmas.Refusals.{and_as, unless_as, or_else_as, or_else_iff, or_else_none}
use Rattle.job.specs.declared.Programme.{Programme}
use Rattle.job.specs.Job.{Job, Override, Within, Named, OverrideBefore, Rising, Accepted, last_due}
use Rattle.job.specs.Refusal.{within, film_refusal, delay_refusal, fields_refusal, last_due_refusal, sizes_refusal, named, before, rising, sized, overrides_refusal, bytes_refusal, slots_refusal, forecast_refusal, refusal}
use Rattle.job.specs.Input.{JobInput, WholeSizes, job_in, job_refusal, override_bytes, override_chunks, override_layers, overrides_of, whole_refusal}

not_iff : {P : Type 0} (b : Bool) → (T b ↔ P) → T (not b) ↔ (P → ⊥)
not_iff b p = (λ t x. T_not b t (p.1 x), λ f. not_T b (λ t. f (p.0 t)))

pub within_iff : (lo hi x : ℕ) → T (within lo hi x) ↔ Within lo hi x
within_iff lo hi x = (λ t. let u = simp tests at t in record { low = u.0; high = u.1 }, λ w. simp tests (w.low, w.high))

-- ---- no refusal exactly for accepted jobs

pub film_iff : (p : Programme) → (film_refusal p ≡ 0) ↔ (Within 1 500 p.chunks × (Within 1 60 p.span × Within 0 65535 p.limit))
film_iff p =
    let span : Bool = within 1 60 p.span in
    let limit : Bool = within 0 65535 p.limit in
    unless_as
    5
    (within 1 500 p.chunks && (span && limit))
    (omega arith)
    (and_as (within 1 500 p.chunks) (span && limit) (within_iff 1 500 p.chunks) (and_as span limit (within_iff 1 60 p.span) (within_iff 0 65535 p.limit)))

pub delay_iff : (p : Programme) → (delay_refusal p ≡ 0) ↔ Within 1 3600 p.delay
delay_iff p = unless_as 5 (within 1 3600 p.delay) (omega arith) (within_iff 1 3600 p.delay)

pub last_due_iff : (p : Programme) → (last_due_refusal p ≡ 0) ↔ (last_due p ≤ 3600)
last_due_iff p = unless_as 5 (leb (last_due p) 3600) (omega arith) (leb_iff (last_due p) 3600)

pub sizes_iff : (l : List ℕ) → (sizes_refusal l ≡ 0) ↔ (Within 1 4 (length l) × All (Within 1 16777216) l)
sizes_iff l =
    let each : Bool = all (within 1 16777216) l in
    unless_as
    6
    (within 1 4 (length l) && each)
    (omega arith)
    (and_as (within 1 4 (length l)) each (within_iff 1 4 (length l)) (all_iff (within 1 16777216) (Within 1 16777216) (within_iff 1 16777216) l))

pub named_iff : (p : Programme) (sizes : List ℕ) (o : Override) → T (named p sizes o) ↔ Named p sizes o
named_iff p sizes o =
    let own : Bool = eqb o.bytes (get_or sizes o.layer 0) in
    let low : Bool = ltb o.layer (length sizes) in
    let u = and_as (within 2 p.chunks o.chunk) (low && not own) (within_iff 2 p.chunks o.chunk) (and_as low (not own) (ltb_iff o.layer (length sizes)) (not_iff own (eqb_iff o.bytes (get_or sizes o.layer 0)))) in (
      λ t. let v = u.0 t in record { chunk_in = v.0; layer_in = v.1.0; not_own = v.1.1 },
      λ n. u.1 (n.chunk_in, (n.layer_in, n.not_own)),
    )

pub before_iff : (o q : Override) → T (before o q) ↔ OverrideBefore o q
before_iff o q =
    let less : Bool = ltb o.chunk q.chunk in
    let same : Bool = eqb o.chunk q.chunk && ltb o.layer q.layer in
    let chunk = ltb_iff o.chunk q.chunk in
    let both = and_as (eqb o.chunk q.chunk) (ltb o.layer q.layer) (eqb_iff o.chunk q.chunk) (ltb_iff o.layer q.layer) in (
      λ t. ⊎_elim (λ x. inl (chunk.0 x)) (λ x. inr (both.0 x)) ((T_or_iff less same).0 t),
      λ b. (T_or_iff less same).1 (⊎_elim (λ x. inl (chunk.1 x)) (λ x. inr (both.1 x)) b),
    )

pub rising_iff : (os : List Override) → T (rising os) ↔ Rising os
rising_iff [] = (λ t. tt, λ t. tt)
rising_iff (o ∷ []) = (λ t. tt, λ t. tt)
rising_iff (o ∷ (q ∷ os)) = and_as (before o q) (rising (q ∷ os)) (before_iff o q) (rising_iff (q ∷ os))

pub overrides_test :
    (p : Programme) (sizes : List ℕ) (os : List Override) →
    T (all (named p sizes) os && (rising os && all sized os)) ↔ (All (Named p sizes) os × (Rising os × All (λ (o : Override). Within 1 16777216 o.bytes) os))
overrides_test p sizes os =
    and_as (all (named p sizes) os) (rising os && all sized os) (all_iff (named p sizes) (Named p sizes) (named_iff p sizes) os)
    (and_as (rising os) (all sized os) (rising_iff os) (all_iff sized (λ (o : Override). Within 1 16777216 o.bytes) (λ o. within_iff 1 16777216 o.bytes) os))

pub overrides_iff :
    (p : Programme) (sizes : List ℕ) (os : List Override) →
    (overrides_refusal p sizes os ≡ 0) ↔ (All (Named p sizes) os × (Rising os × All (λ (o : Override). Within 1 16777216 o.bytes) os))
overrides_iff p sizes os = unless_as 18 (all (named p sizes) os && (rising os && all sized os)) (omega arith) (overrides_test p sizes os)

pub bytes_iff : (l : List ℕ) → (bytes_refusal l ≡ 0) ↔ All (Within 0 16777216) l
bytes_iff l = unless_as 7 (all (within 0 16777216) l) (omega arith) (all_iff (within 0 16777216) (Within 0 16777216) (within_iff 0 16777216) l)

pub slots_iff : (p : Programme) (l : List ℕ) → (slots_refusal p l ≡ 0) ↔ (length l ≡ last_due p)
slots_iff p l = unless_as 7 (eqb (length l) (last_due p)) (omega arith) (eqb_iff (length l) (last_due p))

-- A job is accepted if no refusal that comes from the input applies to it.
pub accepted_iff : (j : Job) → (refusal j ≡ 0) ↔ Accepted j
unfolding refusal
accepted_iff j =
    let p = j.programme in
    let five = or_else_as (film_refusal p) (delay_refusal p) (film_iff p) (delay_iff p) in
    let seven = or_else_as (bytes_refusal j.forecast) (slots_refusal p j.forecast) (bytes_iff j.forecast) (slots_iff p j.forecast) in
    let os = j.overrides in
    let rest : ℕ = overrides_refusal p j.sizes os or_else forecast_refusal p j.forecast in
    let named = or_else_as (overrides_refusal p j.sizes os) (forecast_refusal p j.forecast) (overrides_iff p j.sizes os) seven in
    let six = or_else_as (sizes_refusal j.sizes) rest (sizes_iff j.sizes) named in
    let due = or_else_as (last_due_refusal p) (sizes_refusal j.sizes or_else rest) (last_due_iff p) six in
    let parts = or_else_as (fields_refusal p) (last_due_refusal p or_else sizes_refusal j.sizes or_else rest) five due in (
      λ e.
          let u = parts.0 e in
          record {
            chunks_in = u.0.0.0;
            span_in = u.0.0.1.0;
            limit_in = u.0.0.1.1;
            delay_in = u.0.1;
            last_in = u.1.0;
            layers_in = u.1.1.0.0;
            sizes_in_lem = u.1.1.0.1;
            overrides_named = u.1.1.1.0.0;
            overrides_rise = u.1.1.1.0.1.0;
            overrides_in_lem = u.1.1.1.0.1.1;
            forecast_in_lem = u.1.1.1.1.0;
            slots_in = u.1.1.1.1.1;
          },
      λ a. parts.1 (((a.chunks_in, (a.span_in, a.limit_in)), a.delay_in), (a.last_in, ((a.layers_in, a.sizes_in_lem), ((a.overrides_named, (a.overrides_rise, a.overrides_in_lem)), (a.forecast_in_lem, a.slots_in))))),
    )

-- ---- a job as a call hands it over

-- The three slices of some SZs hold them.
pub slices_back_lem : (os : List Override) → overrides_of (override_chunks os) (override_layers os) (override_bytes os) ≡ os
slices_back_lem [] = refl
slices_back_lem (o ∷ os) = ap (λ (l : List Override). o ∷ l) (slices_back_lem os)

pub whole_iff : (cs ls bs : List ℕ) → (whole_refusal cs ls bs ≡ 0) ↔ WholeSizes cs ls bs
whole_iff cs ls bs =
    let a : Bool = eqb (length ls) (length cs) in
    let b : Bool = eqb (length bs) (length cs) in
    let r = unless_as 18 (a && b) (omega arith) (and_as a b (eqb_iff (length ls) (length cs)) (eqb_iff (length bs) (length cs))) in (
      λ e. let u = r.0 e in record { layer_each = u.0; bytes_each = u.1 },
      λ w. r.1 (w.layer_each, w.bytes_each),
    )

-- With every SZ handed whole it is the refusal of the job.
pub whole_refused : (h : JobInput) → WholeSizes h.size_chunks h.size_layers h.size_bytes → job_refusal h ≡ refusal (job_in h)
unfolding job_refusal refusal
whole_refused h w =
    let rest : ℕ = overrides_refusal h.programme h.sizes (overrides_of h.size_chunks h.size_layers h.size_bytes) or_else forecast_refusal h.programme h.forecast in
    ap (λ (n : ℕ). fields_refusal h.programme or_else last_due_refusal h.programme or_else sizes_refusal h.sizes or_else n)
    (or_else_none (whole_refusal h.size_chunks h.size_layers h.size_bytes) rest ((whole_iff h.size_chunks h.size_layers h.size_bytes).1 w))

-- None exactly if every SZ is handed whole and the job is accepted.
pub input_iff : (h : JobInput) → (job_refusal h ≡ 0) ↔ (WholeSizes h.size_chunks h.size_layers h.size_bytes × Accepted (job_in h))
unfolding job_refusal
input_iff h =
    let f : ℕ = fields_refusal h.programme in
    let d : ℕ = last_due_refusal h.programme in
    let z : ℕ = sizes_refusal h.sizes in
    let w : ℕ = whole_refusal h.size_chunks h.size_layers h.size_bytes in
    let o : ℕ = overrides_refusal h.programme h.sizes (overrides_of h.size_chunks h.size_layers h.size_bytes) in
    let b : ℕ = forecast_refusal h.programme h.forecast in
    let whole = whole_iff h.size_chunks h.size_layers h.size_bytes in (
      λ e.
          let a1 = (or_else_iff f (d or_else z or_else w or_else o or_else b)).0 e in
          let a2 = (or_else_iff d (z or_else w or_else o or_else b)).0 a1.1 in
          let a3 = (or_else_iff z (w or_else o or_else b)).0 a2.1 in
          let full = whole.0 ((or_else_iff w (o or_else b)).0 a3.1).0 in
          (full, (accepted_iff (job_in h)).0 (sym (whole_refused h full) ∙ e)),
      λ x. whole_refused h x.0 ∙ (accepted_iff (job_in h)).1 x.1,
    )

-- What the calls take from it.
pub input_accepted : (h : JobInput) → job_refusal h ≡ 0 → Accepted (job_in h)
input_accepted h z = ((input_iff h).0 z).1

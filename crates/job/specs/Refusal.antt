-- Meaning. The refusals of a job that come from its own numbers: document 01, refusals 5, 6 and 7
-- of a direct call, and document 02's 18, "after 6 and before 7". A definition a number, 5 apart
-- for the fields and for d(C); the whole composes them. That it is 0 exactly for accepted jobs is a
-- theorem (Theorems, `accepted_iff`).
use Rattle.std.specs.Prelude.{ℕ, Bool, true, not, ◌&&◌, ◌||◌, List, [], ◌∷◌, length, get_or, leb, ltb, eqb}
use Rattle.theory_basics.specs.Tests.{all}
use Rattle.theory_basics.specs.Refusals.{unless, ◌or_else◌}
use Rattle.job.specs.declared.Programme.{Programme}
use Rattle.job.specs.Job.{Job, Override, last_due}

-- lo ≤ x ≤ hi, as a test.
abbrev pub within : ℕ → ℕ → ℕ → Bool
within lo hi x = leb lo x && leb x hi

-- 5: a field of the film out of range: C, L or the limit.
abbrev pub film_refusal : Programme → ℕ
film_refusal p = unless 5 (within 1 500 p.chunks && (within 1 60 p.span && within 0 65535 p.limit))

-- 5: the start delay out of range.
abbrev pub delay_refusal : Programme → ℕ
delay_refusal p = unless 5 (within 1 3600 p.delay)

-- 5: a programme field out of range.
abbrev pub fields_refusal : Programme → ℕ
fields_refusal p = film_refusal p or_else delay_refusal p

-- 5: d(C) above 3,600.
abbrev pub last_due_refusal : Programme → ℕ
last_due_refusal p = unless 5 (leb (last_due p) 3600)

-- 6: a layer size out of range, a fifth layer, or no layer.
abbrev pub sizes_refusal : List ℕ → ℕ
sizes_refusal sizes = unless 6 (within 1 4 (length sizes) && all (within 1 16777216) sizes)

-- An SZ names a chunk after the first and a layer, both in the job, and a size that is not the
-- layer's own.
abbrev pub named : Programme → List ℕ → Override → Bool
named p sizes o = within 2 p.chunks o.chunk && (ltb o.layer (length sizes) && not (eqb o.bytes (get_or sizes o.layer 0)))

-- By chunk and then layer.
abbrev pub comes : ℕ → ℕ → ℕ → ℕ → Bool
comes c l i n = ltb c i || (eqb c i && ltb l n)

abbrev pub before : Override → Override → Bool
before o q = comes o.chunk o.layer q.chunk q.layer

abbrev pub rising : List Override → Bool
rising [] = true
rising (o ∷ []) = true
rising (o ∷ (q ∷ os)) = before o q && rising (q ∷ os)

abbrev pub sized : Override → Bool
sized o = within 1 16777216 o.bytes

-- 18: "an SZ naming chunk 1, or a chunk or layer that isn't in the job, not rising, or of size out
-- of range or equal to the layer's own".
abbrev pub overrides_refusal : Programme → List ℕ → List Override → ℕ
overrides_refusal p sizes os = unless 18 (all (named p sizes) os && (rising os && all sized os))

-- 7: bytes out of range.
abbrev pub bytes_refusal : List ℕ → ℕ
bytes_refusal forecast = unless 7 (all (within 0 16777216) forecast)

-- 7: a slot total other than d(C).
abbrev pub slots_refusal : Programme → List ℕ → ℕ
slots_refusal p forecast = unless 7 (eqb (length forecast) (last_due p))

-- 7, whole.
abbrev pub forecast_refusal : Programme → List ℕ → ℕ
forecast_refusal p forecast = bytes_refusal forecast or_else slots_refusal p forecast

-- "Direct calls without files check 5, 6, 7", and 18 "after 6 and before 7".
unfoldable pub refusal : Job → ℕ
refusal j =
    fields_refusal j.programme
    or_else last_due_refusal j.programme
    or_else sizes_refusal j.sizes
    or_else overrides_refusal j.programme j.sizes j.overrides
    or_else forecast_refusal j.programme j.forecast

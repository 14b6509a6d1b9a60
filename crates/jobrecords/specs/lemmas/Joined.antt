-- Lemmas. What records one after the other say, from what each part says. Assumes nothing.
use Rattle.std.specs.Prelude.{ℕ, ◌≡◌, refl, false, cond, ◌||◌, List, [], ◌∷◌, ◌++◌, replicate}
use Rattle.std.proofs.Common.{sym, ap, ◌∙◌, append_assoc}
use Rattle.std.proofs.Math.Bool.{or-false}
use Rattle.job.specs.Job.{Override}
use Rattle.jobrecords.specs.declared.Record.{Record}
use Rattle.jobrecords.specs.declared.Record.TheVariants.{Pg, Ly, Sz, Bw, En}
use Rattle.jobrecords.specs.Says.{has_programme, no_programme, programme_in, sizes_in, overrides_in, forecast_in}

pub has_append : (a b : List Record) → has_programme (a ++ b) ≡ has_programme a || has_programme b
has_append [] b = refl
has_append (Pg p ∷ a) b = refl
has_append (Ly size ∷ a) b = has_append a b
has_append (Sz chunk layer bytes ∷ a) b = has_append a b
has_append (Bw count bytes ∷ a) b = has_append a b
has_append (En ∷ a) b = has_append a b

-- The first PG counts.
pub programme_append : (a b : List Record) → programme_in (a ++ b) ≡ cond (has_programme a) (programme_in a) (programme_in b)
programme_append [] b = refl
programme_append (Pg p ∷ a) b = refl
programme_append (Ly size ∷ a) b = programme_append a b
programme_append (Sz chunk layer bytes ∷ a) b = programme_append a b
programme_append (Bw count bytes ∷ a) b = programme_append a b
programme_append (En ∷ a) b = programme_append a b

none_in : (a : List Record) → cond (has_programme a) (programme_in a) no_programme ≡ programme_in a
none_in [] = refl
none_in (Pg p ∷ a) = refl
none_in (Ly size ∷ a) = none_in a
none_in (Sz chunk layer bytes ∷ a) = none_in a
none_in (Bw count bytes ∷ a) = none_in a
none_in (En ∷ a) = none_in a

pub sizes_append : (a b : List Record) → sizes_in (a ++ b) ≡ sizes_in a ++ sizes_in b
sizes_append [] b = refl
sizes_append (Pg p ∷ a) b = sizes_append a b
sizes_append (Ly size ∷ a) b = ap (λ (l : List ℕ). size ∷ l) (sizes_append a b)
sizes_append (Sz chunk layer bytes ∷ a) b = sizes_append a b
sizes_append (Bw count bytes ∷ a) b = sizes_append a b
sizes_append (En ∷ a) b = sizes_append a b

pub overrides_append : (a b : List Record) → overrides_in (a ++ b) ≡ overrides_in a ++ overrides_in b
overrides_append [] b = refl
overrides_append (Pg p ∷ a) b = overrides_append a b
overrides_append (Ly size ∷ a) b = overrides_append a b
overrides_append (Sz chunk layer bytes ∷ a) b = ap (λ (l : List Override). record { chunk = chunk; layer = layer; bytes = bytes } ∷ l) (overrides_append a b)
overrides_append (Bw count bytes ∷ a) b = overrides_append a b
overrides_append (En ∷ a) b = overrides_append a b

pub forecast_append : (a b : List Record) → forecast_in (a ++ b) ≡ forecast_in a ++ forecast_in b
forecast_append [] b = refl
forecast_append (Pg p ∷ a) b = forecast_append a b
forecast_append (Ly size ∷ a) b = forecast_append a b
forecast_append (Sz chunk layer bytes ∷ a) b = forecast_append a b
forecast_append (Bw count bytes ∷ a) b = ap (λ (l : List ℕ). replicate count bytes ++ l) (forecast_append a b) ∙ sym (append_assoc (replicate count bytes) (forecast_in a) (forecast_in b))
forecast_append (En ∷ a) b = forecast_append a b

-- Records that name no programme leave it as it is.
pub has_same : (a b : List Record) → has_programme b ≡ false → has_programme (a ++ b) ≡ has_programme a
has_same a b e = has_append a b ∙ rw e (or-false (has_programme a))

pub programme_same : (a b : List Record) → programme_in b ≡ no_programme → programme_in (a ++ b) ≡ programme_in a
programme_same a b e = programme_append a b ∙ rw e (none_in a)

-- The first PG after records without one.
pub programme_new : (a b : List Record) → has_programme a ≡ false → programme_in (a ++ b) ≡ programme_in b
programme_new a b e = programme_append a b ∙ rw e

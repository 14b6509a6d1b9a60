-- Lemmas. The SZs that three slices of one length hold give the slices back. Assumes nothing.
use Rattle.std.specs.Prelude.{ℕ, ◌≡◌, refl, List, [], ◌∷◌, length}
use Rattle.std.proofs.Common.{sym, ap, ◌∙◌, arith}
use Rattle.std.proofs.lemmas.List.{length-map}
use Rattle.job.specs.Job.{Override}
use Rattle.job.specs.Input.{override_bytes, override_chunks, override_layers, overrides_of}

pub overrides_handed :
    (cs ls bs : List ℕ) → length ls ≡ length cs → length bs ≡ length cs →
    let os = overrides_of cs ls bs in (override_chunks os ≡ cs) × (override_layers os ≡ ls) × (override_bytes os ≡ bs)
overrides_handed [] [] [] l b = (refl, refl, refl)
overrides_handed [] (x ∷ ls) bs l b = absurd (omega arith)
overrides_handed [] [] (x ∷ bs) l b = absurd (omega arith)
overrides_handed (c ∷ cs) [] bs l b = absurd (omega arith)
overrides_handed (c ∷ cs) (x ∷ ls) [] l b = absurd (omega arith)
overrides_handed (c ∷ cs) (x ∷ ls) (y ∷ bs) l b =
    let r = overrides_handed cs ls bs (omega arith) (omega arith) in
    (ap (λ (t : List ℕ). c ∷ t) r.0, ap (λ (t : List ℕ). x ∷ t) r.1, ap (λ (t : List ℕ). y ∷ t) r.2)

pub overrides_many : (cs ls bs : List ℕ) → length ls ≡ length cs → length bs ≡ length cs → length (overrides_of cs ls bs) ≡ length cs
overrides_many cs ls bs l b =
    let os = overrides_of cs ls bs in
    sym (length-map os (λ (o : Override). o.chunk)) ∙ ap length (overrides_handed cs ls bs l b).0

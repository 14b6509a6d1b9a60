-- Lemmas. SZs past the 1,996 that a job can have are refused by 18, whatever they say. Assumes
-- nothing.
use Rattle.std.specs.Prelude.{ℕ, ◌≤◌, ◌<◌, ◌≡◌, Bool, ◌&&◌, List, [], ◌∷◌, length}
use Rattle.std.proofs.Common.{arith}
use Rattle.std.proofs.Math.Dec.{not_T}
use Rattle.theory_basics.specs.Tests.{all}
use Rattle.theory_basics.specs.lemmas.Tests.{all_map, not_T_false}
use Rattle.job.specs.declared.Programme.{Programme}
use Rattle.job.specs.Job.{Override, Named}
use Rattle.job.specs.Refusal.{named, rising, sized, overrides_refusal}
use Rattle.job.specs.Theorems.{overrides_test}
use Rattle.job.specs.lemmas.Spots.{Spot, few}

pub too_many : (p : Programme) (sizes : List ℕ) (os : List Override) → p.chunks ≤ 500 → length sizes ≤ 4 → 1996 < length os → overrides_refusal p sizes os ≡ 18
too_many p sizes [] c z h = absurd (omega arith)
too_many p sizes (o ∷ os) c z h =
    let test : Bool = all (named p sizes) (o ∷ os) && (rising (o ∷ os) && all sized (o ∷ os)) in
    let spot : (q : Override) → Named p sizes q → Spot p.chunks q = λ q n. record { low = n.chunk_in.low; high = n.chunk_in.high; layer = omega (arith, n.layer_in) } in
    rw (not_T_false test (not_T test (λ t.
    let u = (overrides_test p sizes (o ∷ os)).0 t in
    let first = u.0.0.chunk_in in
    omega (arith, few p.chunks (o ∷ os) (omega (arith, first.low, first.high)) u.1.0 (all_map (Named p sizes) (Spot p.chunks) (o ∷ os) spot u.0)))))

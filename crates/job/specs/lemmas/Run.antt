-- Lemmas. Refusal 18 in one pass: each SZ is named and sized, and stands after the one before it.
-- Assumes nothing.
use Rattle.std.specs.Prelude.{ℕ, ◌+◌, ◌≤◌, ◌<◌, min, ◌≡◌, refl, Bool, true, ◌&&◌, List, [], ◌∷◌, ◌↔◌, length, get_or, drop, T, leb}
use Rattle.std.proofs.Common.{inl, ⊎_elim, arith, add-one, drop_of_length-le, drop-cons, leb→le}
use Rattle.std.proofs.Math.Dec.{nleb→lt}
use Rattle.theory_basics.specs.Tests.{All, all}
use Rattle.theory_basics.specs.lemmas.Tests.{same_test, test}
use Rattle.theory_basics.specs.lemmas.Refusals.{and_as}
use Rattle.job.specs.declared.Programme.{Programme}
use Rattle.job.specs.Job.{Override, Within, Named, Rising}
use Rattle.job.specs.Refusal.{named, sized, comes, rising}
use Rattle.job.specs.Theorems.{named_iff, before_iff, within_iff, overrides_test}
use Rattle.job.specs.Input.{overrides_of}

-- Chunk and layer alone, of the SZ before.
abbrev pub past : ℕ → ℕ → Override
past c l = record { chunk = c; layer = l; bytes = 0 }

abbrev pub runs : Programme → List ℕ → ℕ → ℕ → List Override → Bool
runs p sizes c l [] = true
runs p sizes c l (o ∷ os) = ((named p sizes o && sized o) && comes c l o.chunk o.layer) && runs p sizes o.chunk o.layer os

-- What a run says.
abbrev Runs : Programme → List ℕ → ℕ → ℕ → List Override → Type 0
Runs p sizes c l os = All (Named p sizes) os × (Rising (past c l ∷ os) × All (λ (o : Override). Within 1 16777216 o.bytes) os)

same_past : (o : Override) (os : List Override) → Rising (past o.chunk o.layer ∷ os) ↔ Rising (o ∷ os)
same_past o [] = (λ r. r, λ r. r)
same_past o (q ∷ os) = (λ r. r, λ r. r)

runs_iff : (p : Programme) (sizes : List ℕ) (c l : ℕ) (os : List Override) → T (runs p sizes c l os) ↔ Runs p sizes c l os
runs_iff p sizes c l [] = (λ t. (tt, (tt, tt)), λ t. tt)
runs_iff p sizes c l (o ∷ os) =
    let here = and_as (named p sizes o && sized o) (comes c l o.chunk o.layer) (and_as (named p sizes o) (sized o) (named_iff p sizes o) (within_iff 1 16777216 o.bytes)) (before_iff (past c l) o) in
    let whole = and_as ((named p sizes o && sized o) && comes c l o.chunk o.layer) (runs p sizes o.chunk o.layer os) here (runs_iff p sizes o.chunk o.layer os) in
    let swap = same_past o os in (
      λ t. let u = whole.0 t in ((u.0.0.0, u.1.0), ((u.0.1, swap.0 u.1.1.0), (u.0.0.1, u.1.1.1))),
      λ r. whole.1 (((r.0.0, r.1.1.0), r.1.0.0), (r.0.1, (swap.1 r.1.0.1, r.1.1.1))),
    )

-- Before any SZ of a chunk of 2 and on stands nothing, or chunk 0.
from_none : (p : Programme) (sizes : List ℕ) (os : List Override) → All (Named p sizes) os → Rising os → Rising (past 0 0 ∷ os)
from_none p sizes [] a r = tt
from_none p sizes (o ∷ os) a r = (inl (omega (arith, a.0.chunk_in.low)), r)

rising_tail : (o : Override) (os : List Override) → Rising (o ∷ os) → Rising os
rising_tail o [] r = tt
rising_tail o (q ∷ os) r = r.1

pub runs_all : (p : Programme) (sizes : List ℕ) (os : List Override) → runs p sizes 0 0 os ≡ (all (named p sizes) os && (rising os && all sized os))
runs_all p sizes os =
    let one = runs_iff p sizes 0 0 os in
    let two = overrides_test p sizes os in
    same_test (runs p sizes 0 0 os) _
    (λ t. let u = one.0 t in two.1 (u.0, (rising_tail (past 0 0) os u.1.0, u.1.1)))
    (λ t. let u = two.0 t in one.1 (u.0, (from_none p sizes os u.0 u.1.0, u.1.1)))

-- ---- the SZs from place i of the three slices on

abbrev pub from : ℕ → List ℕ → List ℕ → List ℕ → List Override
from i cs ls bs = overrides_of (drop i cs) (drop i ls) (drop i bs)

no_layers : (cs bs : List ℕ) → overrides_of cs [] bs ≡ []
no_layers [] bs = refl
no_layers (c ∷ cs) bs = refl

no_bytes : (cs ls : List ℕ) → overrides_of cs ls [] ≡ []
no_bytes [] ls = refl
no_bytes (c ∷ cs) [] = refl
no_bytes (c ∷ cs) (l ∷ ls) = refl

-- None is left at the end of the shortest.
pub from_end : (i : ℕ) (cs ls bs : List ℕ) → min (length cs) (min (length ls) (length bs)) ≤ i → from i cs ls bs ≡ []
from_end i cs ls bs h =
    ⊎_elim
    (λ t. rw (drop_of_length-le cs {i = i} (leb→le (length cs) i t)))
    (λ t.
    ⊎_elim
    (λ u. rw (drop_of_length-le ls {i = i} (leb→le (length ls) i u)) (no_layers (drop i cs) (drop i bs)))
    (λ u. rw (drop_of_length-le bs {i = i} (omega (arith, nleb→lt (length cs) i t, nleb→lt (length ls) i u))) (no_bytes (drop i cs) (drop i ls)))
    (test (leb (length ls) i)))
    (test (leb (length cs) i))

-- One more SZ.
pub from_more :
    (i : ℕ) (cs ls bs : List ℕ) → i < min (length cs) (min (length ls) (length bs)) →
    from i cs ls bs ≡ record { chunk = get_or cs i 0; layer = get_or ls i 0; bytes = get_or bs i 0 } ∷ from (i + 1) cs ls bs
from_more i cs ls bs h = rw (drop-cons cs i 0 (omega arith), drop-cons ls i 0 (omega arith), drop-cons bs i 0 (omega arith), add-one)

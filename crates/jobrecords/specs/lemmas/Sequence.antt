-- Lemmas. Records of which none has a fault, as a sequence of neighbours. Assumes nothing.
use Rattle.std.specs.Prelude.{ℕ, ◌+◌, ◌≤◌, ◌≡◌, refl, Bool, ◌&&◌, List, [], ◌∷◌, ◌++◌, length, T, leb}
use Rattle.std.proofs.Common.{subst, arith}
use Rattle.theory_basics.specs.Tests.{All}
use Rattle.theory_basics.specs.lemmas.Tests.{and_T, leb_iff}
use Rattle.theory_basics.specs.lemmas.Refusals.{unless_iff, or_else_iff}
use Rattle.records.specs.File.{first_fault}
use Rattle.job.specs.Refusal.{within}
use Rattle.jobrecords.specs.declared.Record.{Record}
use Rattle.jobrecords.specs.declared.Record.TheVariants.{Pg, Ly, Sz, Bw, En}
use Rattle.jobrecords.specs.Says.{has_programme, sizes_in, forecast_in}
use Rattle.jobrecords.specs.Refusal.{one_sequence, last_after, previous, follows, range_fault, fault, format}
use Rattle.jobrecords.specs.lemmas.Clean.{Faultless, faultless}

-- ---- the record before

last_snoc : (q : Record) (before : List Record) (r : Record) → last_after q (before ++ (r ∷ [])) ≡ r
last_snoc q [] r = refl
last_snoc q (p ∷ before) r = last_snoc p before r

pub previous_snoc : (before : List Record) (r : Record) → previous (before ++ (r ∷ [])) ≡ r
previous_snoc before r = last_snoc En before r

-- ---- each record may stand after the one before it

abbrev pub Sequence : Record → List Record → Type 0
Sequence q [] = Unit {0}
Sequence q (r ∷ rs) = T (follows q r) × Sequence r rs

-- No run is empty.
abbrev pub Filled : Record → Type 0
Filled (Pg p) = Unit {0}
Filled (Ly size) = Unit {0}
Filled (Sz chunk layer bytes) = Unit {0}
Filled (Bw count bytes) = 1 ≤ count
Filled En = Unit {0}

filled : (layers slots : ℕ) (r : Record) → range_fault layers slots r ≡ 0 → Filled r
filled layers slots (Pg p) e = tt
filled layers slots (Ly size) e = tt
filled layers slots (Sz chunk layer bytes) e = tt
filled layers slots (Bw count bytes) e =
    let rest : Bool = leb (slots + count) 3600 && within 0 16777216 bytes in
    (leb_iff 1 count).0 (and_T (leb 1 count) rest ((unless_iff 7 (leb 1 count && rest) (omega arith)).0 e)).0
filled layers slots En e = tt

pub parts : (q : Bool) (before : List Record) (r : Record) → fault q before r ≡ 0 → Faultless q (has_programme before) (previous before) (length (sizes_in before)) (length (forecast_in before)) r
parts q before r e = faultless q (has_programme before) (previous before) (length (sizes_in before)) (length (forecast_in before)) r e

pub in_sequence : (before rs : List Record) → first_fault (format one_sequence) before rs ≡ 0 → Sequence (previous before) rs × All Filled rs
in_sequence before [] e = (tt, tt)
in_sequence before (r ∷ rs) e =
    let u = (or_else_iff (fault one_sequence before r) (first_fault (format one_sequence) (before ++ (r ∷ [])) rs)).0 e in
    let f = parts one_sequence before r u.0 in
    let more = in_sequence (before ++ (r ∷ [])) rs u.1 in (
      ((unless_iff 17 (follows (previous before) r) (omega arith)).0 f.turn, subst (λ (q : Record). Sequence q rs) (previous_snoc before r) more.0),
      (filled (length (sizes_in before)) (length (forecast_in before)) r f.ranges, more.1),
    )

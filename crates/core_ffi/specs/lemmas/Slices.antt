-- Lemmas. What a call answers where a slice lent beside the library's own is too short. Assumes
-- nothing.
use Rattle.std.specs.Prelude.{ℕ, ◌≤◌, ◌≡◌, refl, Bool, true, false, cond, ◌&&◌, List, [], ◌∷◌, ◌++◌, eqb, length, drop, set, take}
use Rattle.std.proofs.Common.{sym, ap, ◌∙◌, append-nil, arith, T_not, eqb→eq, length-take-le, take_all, ne_eqb}
use Rattle.std.proofs.Math.Seq.{drop-length}
use Rattle.theory_basics.specs.Lent.{lent_after, over}
use Rattle.theory_basics.specs.Refusals.{◌or_else◌, unless}
use Rattle.theory_basics.proofs.Lent.{over_next}
use Rattle.theory_basics.specs.lemmas.Refusals.{or_else_none}
use Rattle.theory_basics.specs.lemmas.Tests.{by_cond}
use Rattle.meter.specs.declared.Meter.{Meter}

-- ---- refusals

pub refused_keeps : (refused : ℕ) (result old : List ℕ) → (refused ≡ 0 → ⊥) → lent_after refused result old ≡ old
refused_keeps refused result old n = rw (ne_eqb refused 0 n)

-- 11 twice is 11 once.
pub eleven_once : (a : ℕ) (room : Bool) → (a or_else unless 11 room) or_else 11 ≡ a or_else 11
eleven_once a room =
    by_cond (λ (r : ℕ). r or_else 11 ≡ a or_else 11) (eqb a 0) (λ t. eleven_room room ∙ sym (or_else_none a 11 (eqb→eq a 0 t))) (λ t. refl)
  where
    eleven_room : (room : Bool) → unless 11 room or_else 11 ≡ 11
    eleven_room true = refl
    eleven_room false = refl

pub eleven_some : (a : ℕ) → a or_else 11 ≡ 0 → ⊥
eleven_some a = by_cond (λ (r : ℕ). r ≡ 0 → ⊥) (eqb a 0) (λ t e. omega arith) (λ t e. T_not (eqb a 0) t (rw e tt))

-- With room, nothing is added.
pub no_more_lem : (a : ℕ) → a or_else 0 ≡ a
no_more_lem a = by_cond (λ (r : ℕ). r ≡ a) (eqb a 0) (λ t. sym (eqb→eq a 0 t)) (λ t. refl)

-- The first refusal twice.
pub first_twice : (a b : ℕ) → a or_else (a or_else b) ≡ a or_else b
first_twice a b = by_cond_both' (eqb a 0)
  where
    by_cond_both' : (t : Bool) → cond t (cond t b a) a ≡ cond t b a
    by_cond_both' true = refl
    by_cond_both' false = refl

-- Lemmas. Loops that copy from the front, an element a turn. Assumes nothing.
use Prim.Native.Nat.{ℕ, zero, suc, ◌+◌, ◌*◌, ◌≤◌, ◌<◌}
use mathlib.Core.Path.{◌≡◌, refl, sym, ap, ap₂, ◌∙◌}
use mathlib.Core.List.{List, [], ◌∷◌, ◌++◌, map}
use native.Mathlib.Nat.{not-suc-le-zero, le_of_suc-le-suc}
use native.Mathlib.Numerals.{add-one}
use native.Mathlib.Omega.{arith}
use lib.ListN.{length, take, drop, set, get_or, replicate, length-set}
use lib.Seq.{paste, paste-zero, paste-suc}
use Rattle.theory_basics.specs.Lent.{over}
use Rattle.theory_basics.proofs.Lent.{stored}
use Rattle.theory_basics.specs.lemmas.Lists.{length_up_to}
use Rattle.job.specs.Job.{Override}
use Rattle.jobrecords.specs.lemmas.Reading.{override_on, overrides_on}

copy_suc : (j : ℕ) (d s : List ℕ) → j < length d → j < length s → set (take j s ++ drop j d) j (get_or s j 0) ≡ take (suc j) s ++ drop (suc j) d
copy_suc j [] s h k = absurd (not-suc-le-zero h)
copy_suc j (x ∷ d) [] h k = absurd (not-suc-le-zero k)
copy_suc zero (x ∷ d) (y ∷ s) h k = refl
copy_suc (suc j) (x ∷ d) (y ∷ s) h k = ap (λ (t : List ℕ). y ∷ t) (copy_suc j d s (le_of_suc-le-suc h) (le_of_suc-le-suc k))

pub copy_more : (j : ℕ) (d s : List ℕ) → j < length d → j < length s → set (take j s ++ drop j d) j (get_or s j 0) ≡ take (j + 1) s ++ drop (j + 1) d
copy_more j d s h k = rw add-one (copy_suc j d s h k)

-- A run of one slot.
pub one_slot : (s : List ℕ) (from count v : ℕ) → count ≡ 1 → from + count ≤ length s → set s from v ≡ paste s from (replicate count v) count
one_slot s from count v e h = rw e (put (omega arith)) where
  put : from < length s → set s from v ≡ paste s from (replicate 1 v) 1
  put l =
      let first : from ≡ from + 0 = omega arith in
      ap₂ (λ (l : List ℕ) (k : ℕ). set l k v) (paste-zero s from (replicate 1 v)) first
      ∙ paste-suc s from (replicate 1 v) 0 0 (omega arith) (omega arith)

-- A number of each of the first i SZs that stand in a file from a place on is copied.
pub record Column (g : Override → ℕ) (s : List ℕ) (from : ℕ) (old t : List ℕ) (i : ℕ) : Type 0 where
  pub long : length t ≡ length old
  pub says : t ≡ over (map g (overrides_on s from i)) old

pub column_start : (g : Override → ℕ) (s : List ℕ) (from : ℕ) (old : List ℕ) → Column g s from old old 0
column_start g s from old = record { long = refl; says = refl }

pub column_more : (g : Override → ℕ) (s : List ℕ) (from : ℕ) (old t : List ℕ) (i x : ℕ) → Column g s from old t i → i < length t → x ≡ g (override_on s (from + 9 * i)) → Column g s from old (set t i x) (i + 1)
column_more g s from old t i x c h e =
    record {
      long = length-set t i x ∙ c.long;
      says = rw (add-one i, e) (stored g old t (overrides_on s from i) (override_on s (from + 9 * i)) i (sym (length_up_to (λ k. override_on s (from + 9 * k)) i)) h c.says c.long);
    }

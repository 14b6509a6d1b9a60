-- Theorems. The records of a file, without a count: what `split` says is the equation `split_is`.
-- It holds of every kind of file whose records take at least a byte, of bytes that are there.
use Prim.Native.Nat.{ℕ, zero, suc, ◌+◌, ◌≤◌, ◌<◌}
use Rattle.std.specs.Prelude.{◌≡◌, List, length, drop}
use Rattle.std.proofs.Math.Path.{refl}
use Rattle.std.proofs.Common.{ap, ◌∙◌, arith}
use Rattle.std.proofs.Math.ListN.{length-drop}
use Rattle.records.specs.File.{Format, Front, Split, got, none, split, split_by, split_up_to}

-- A record in front takes at least a byte, and no more than there are.
abbrev pub Takes : {R : Type 0} → Format R → Type 0
Takes {R = R} F = (s : List ℕ) (r : R) (n : ℕ) → F.front s ≡ got r n → (1 ≤ n) × (n ≤ length s)

module _ {R : Type 0} (F : Format R) (takes : Takes F) where
  by_same :
      (rest other : List ℕ → Split R) (s : List ℕ) (y : Front R) → F.front s ≡ y →
      ((n : ℕ) → 1 ≤ n → n ≤ length s → rest (drop n s) ≡ other (drop n s)) → split_by F rest s y ≡ split_by F other s y
  by_same rest other s (got r n) e f = let t = takes s r n e in rw (f n t.0 t.1)
  by_same rest other s (none n) e f = refl

  -- More than its bytes is enough, and makes no difference.
  enough : (k m : ℕ) (s : List ℕ) → length s < k → length s < m → split_up_to F k s ≡ split_up_to F m s
  unfolding split_up_to
  enough zero m s u v = absurd (omega arith)
  enough (suc k) zero s u v = absurd (omega arith)
  enough (suc k) (suc m) s u v =
      by_same (split_up_to F k) (split_up_to F m) s (F.front s) refl (λ n l h. enough k m (drop n s) (omega (arith, length-drop n s)) (omega (arith, length-drop n s)))

  step : (k : ℕ) (s : List ℕ) → split_up_to F (suc k) s ≡ split_by F (split_up_to F k) s (F.front s)
  unfolding split_up_to
  step k s = refl

  -- A record and then the records of the rest, or EN, or the place where no record stands.
  pub split_is : (s : List ℕ) → split F s ≡ split_by F (split F) s (F.front s)
  split_is s =
      let e : length s + 1 ≡ suc (length s) = omega arith in
      ap (λ (k : ℕ). split_up_to F k s) e
      ∙ step (length s) s
      ∙ by_same (split_up_to F (length s)) (split F) s (F.front s) refl (λ n l h.
      enough (length s) (length (drop n s) + 1) (drop n s) (omega (arith, length-drop n s)) (omega arith))

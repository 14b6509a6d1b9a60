-- Laws on the front of a lent slice that is borrowed as an array. Assumes nothing.
use mir.Val.{bool_byte}
use Rattle.std.proofs.Common.{ℕ, ◌≡◌, refl, Bool, true, false, cond, List, length, ◌++◌, drop, sym, ap, ◌∙◌}
use Rattle.theory_basics.specs.Lent.{over}
use Rattle.std.proofs.lemmas.List.{take-append-drop}
use Rattle.std.specs.Array.{IsFirstChunk}

-- An array that nobody wrote is the front of the slice still.
pub kept : {old now : List ℕ} {n : ℕ} → IsFirstChunk old now n → now ++ drop n old ≡ old
kept {old} {now} {n} f = ap (λ (l : List ℕ). l ++ drop n old) f.same ∙ take-append-drop n old

-- An array of n that was written is the result in front of what the slice held.
pub put : (xs old : List ℕ) (n : ℕ) → length xs ≡ n → xs ++ drop n old ≡ over xs old
put xs old n e = ap (λ (k : ℕ). xs ++ drop k old) (sym e)

-- A test as a number.
pub byte_is : (b : Bool) → bool_byte b ≡ cond b 1 0
byte_is true = refl
byte_is false = refl

-- Laws on marks that are copied one by one. Assumes nothing.
use mathlib.Core.Path.{◌≡◌}
use mathlib.Core.List.{List}
use Prim.Native.Nat.{ℕ}
use lib.ListN.{length, take}
use Rattle.theory_basics.specs.Lent.{over}

-- The first i are copied.
pub record Copied (from old to : List ℕ) (i : ℕ) : Type 0 where
  pub says : to ≡ over (take i from) old
  pub long : length to ≡ length old

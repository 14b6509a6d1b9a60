-- Lemmas. What stands at a place of some bytes stands in front of the bytes from there on. Assumes
-- nothing.
use Rattle.std.specs.Prelude.{ℕ, ◌+◌, ◌*◌, ◌≡◌, ◌&&◌, List, get_or, drop, eqb}
use Rattle.std.proofs.Common.{sym, arith, get_or-drop}
use Rattle.records.specs.Fields.{h_at, w_at, marked}

module _ (s : List ℕ) (at : ℕ) where
  -- A byte and a field of what follows a place stand that much further on.
  pub byte_on : (k m : ℕ) → m ≡ at + k → get_or s m 0 ≡ get_or (drop at s) k 0
  byte_on k m e = rw e (sym (get_or-drop at s k 0))

  pub h_on : (k m : ℕ) → m ≡ at + k → h_at s m ≡ h_at (drop at s) k
  h_on k m e = rw (byte_on k m e, byte_on (k + 1) (m + 1) (omega arith))

  pub w_on : (k m : ℕ) → m ≡ at + k → w_at s m ≡ w_at (drop at s) k
  w_on k m e = rw (h_on k m e, h_on (k + 2) (m + 2) (omega arith))

  -- The mark in front of what follows a place is the mark at that place.
  pub mark_on : (m : List ℕ) → marked m (drop at s) ≡ eqb (get_or s at 0) (get_or m 0 0) && eqb (get_or s (at + 1) 0) (get_or m 1 0)
  mark_on m = let e : at + 0 ≡ at = omega arith in rw (get_or-drop at s 0 0, get_or-drop at s 1 0, e)

  -- The field w at a place by its four bytes.
  pub w_four : get_or s at 0 + get_or s (at + 1) 0 * 256 + (get_or s (at + 2) 0 + get_or s (at + 3) 0 * 256) * 65536 ≡ w_at s at
  w_four = let e : at + 2 + 1 ≡ at + 3 = omega arith in rw e

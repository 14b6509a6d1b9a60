-- Lemmas. What is written reads back: a field, and a file record by record. Assumes nothing.
use Prim.Native.Nat.{ℕ, zero, suc, ◌+◌, ◌*◌, ◌-◌, ◌/◌, ◌%◌, ◌≤◌, ◌<◌}
use Rattle.std.specs.Prelude.{◌≡◌, true, false, leb}
use Rattle.std.proofs.Common.{length-append}
use mathlib.Core.List.{List, [], ◌∷◌, ◌++◌, append_assoc, append-nil}
use native.Mathlib.Omega.{arith}
use Rattle.std.proofs.Math.ListN.{length, drop}
use Rattle.std.proofs.Math.Seq.{drop-append_seam}
use Rattle.theory_basics.specs.Tests.{All}
use Rattle.theory_basics.specs.Refusals.{unless, ◌or_else◌}
use Rattle.records.specs.File.{got, Format, ended, split_up_to, split, first_fault, file_refusal, encode_all}

-- The bytes of a field give its value back.
pub h_back : (x : ℕ) → x < 65536 → x % 256 + x / 256 % 256 * 256 ≡ x
h_back x l = omega arith

pub w_back : (x : ℕ) → x < 4294967296 → x % 256 + x / 256 % 256 * 256 + (x / 65536 % 256 + x / 16777216 % 256 * 256) * 65536 ≡ x
w_back x l =
    let low : x % 256 + x / 256 % 256 * 256 ≡ x % 65536 = low_half x in
    let high : x / 65536 / 256 ≡ x / 16777216 = omega arith in
    let top : x / 65536 % 256 + x / 16777216 % 256 * 256 ≡ x / 65536 = rw (← high) (h_back (x / 65536) (omega arith)) in
    joined (x % 256 + x / 256 % 256 * 256) (x / 65536 % 256 + x / 16777216 % 256 * 256) x low top
  where
    low_half : (x : ℕ) → x % 256 + x / 256 % 256 * 256 ≡ x % 65536
    low_half x = omega arith

    joined : (a b x : ℕ) → a ≡ x % 65536 → b ≡ x / 65536 → a + b * 65536 ≡ x
    joined a b x p q = omega arith

module _ {R : Type 0} (F : Format R) (encode : R → List ℕ) where
  -- The bytes of a record give it back, whatever follows.
  pub record ReadsBack (r : R) : Type 0 where
    pub front_is : (rest : List ℕ) → F.front (encode r ++ rest) ≡ got r (length (encode r))
    pub some : 0 < length (encode r)

  -- A record other than EN that reads back.
  pub record Plain (r : R) : Type 0 where
    pub back : ReadsBack r
    pub not_end : F.is_end r ≡ false

  module _ (en : R) (en_back : ReadsBack en) (en_ends : F.is_end en ≡ true) where
    split_step : (k : ℕ) (rs : List R) → All Plain rs → length rs < k → split_up_to F k (encode_all encode rs ++ encode en) ≡ record { records = rs; stop = ended 0 }
    unfolding split_up_to
    split_step zero rs a h = absurd (omega arith)
    split_step (suc k) [] a h =
        let e : F.front (encode en) ≡ got en (length (encode en)) = rw append-nil at (en_back.front_is []) in
        let z : length (encode en) - length (encode en) ≡ 0 = omega arith in
        rw (e, en_ends, z)
    split_step (suc k) (r ∷ rs) a h =
        let e : F.front ((encode r ++ encode_all encode rs) ++ encode en) ≡ got r (length (encode r)) = rw append_assoc (a.0.back.front_is (encode_all encode rs ++ encode en)) in
        let d : drop (length (encode r)) ((encode r ++ encode_all encode rs) ++ encode en) ≡ encode_all encode rs ++ encode en = rw append_assoc (drop-append_seam (encode r) (encode_all encode rs ++ encode en)) in
        rw (e, a.0.not_end, d, split_step k rs a.1 (omega arith))

    fewer : (rs : List R) → All Plain rs → length rs ≤ length (encode_all encode rs)
    fewer [] a = omega arith
    fewer (r ∷ rs) a = omega (arith, fewer rs a.1, a.0.back.some, length-append (encode r) (encode_all encode rs))

    -- A file written record by record, EN last, is split into those records, with nothing after EN.
    pub split_written : (rs : List R) → All Plain rs → split F (encode_all encode rs ++ encode en) ≡ record { records = rs; stop = ended 0 }
    split_written rs a = split_step (length (encode_all encode rs ++ encode en) + 1) rs a (omega (arith, fewer rs a, length-append (encode_all encode rs) (encode en)))

    -- Its refusal is 9 by its length, or the first fault, or what is lacking at EN.
    pub refusal_written : (rs : List R) → All Plain rs → file_refusal F (encode_all encode rs ++ encode en) ≡ unless 9 (leb (length (encode_all encode rs ++ encode en)) 65536) or_else first_fault F [] rs or_else F.lacking rs
    unfolding file_refusal
    refusal_written rs a = rw (split_written rs a)

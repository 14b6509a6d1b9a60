-- Lemmas. The walk by words and the walk by bytes: eight marks as a word, and what is counted so
-- far. Assumes nothing.
use Prim.Native.Nat.{ℕ, suc, ◌+◌, ◌*◌, ◌/◌, ◌≤◌, ◌<◌}
use mathlib.Core.Path.{◌≡◌, refl, sym, ap, ◌∙◌}
use mathlib.Core.Bool.{Bool, true, false, cond}
use mathlib.Core.List.{List, ◌∷◌}
use native.Mathlib.Omega.{arith}
use native.Mathlib.Numerals.{add-one, towards_suc}
use lib.ListN.{length, get_or, take, drop}
use lib.Seq.{drop-cons}
use Rattle.theory_basics.specs.Sums.{sum}
use Rattle.std.specs.List.{count_by}
use Rattle.std.proofs.lemmas.List.Recursion.{is_count_by}
use Rattle.fetch.specs.Marks.{bit}
use Rattle.fetch.specs.Counts.{mark_count, word_count, word_of, word_at, over_words}
use Rattle.fetch.specs.Words.{word_few}
use Rattle.fetch.specs.lemmas.Counts.{eight}

-- ---- eight marks as a word

from : (l : List ℕ) (k at : ℕ) → at + suc k ≤ length l → take (suc k) (drop at l) ≡ get_or l at 0 ∷ take k (drop (suc at) l)
from l k at h = rw (drop-cons l at 0 (omega arith))

pub eight_at : (l : List ℕ) (at : ℕ) → at + 8 ≤ length l → take 8 (drop at l) ≡ eight l at
eight_at l at h =
    simp towards_suc
    (rw (
      from l 7 at (omega arith),
      from l 6 (suc at) (omega arith),
      from l 5 (suc (suc at)) (omega arith),
      from l 4 (suc (suc (suc at))) (omega arith),
      from l 3 (suc (suc (suc (suc at)))) (omega arith),
      from l 2 (suc (suc (suc (suc (suc at))))) (omega arith),
      from l 1 (suc (suc (suc (suc (suc (suc at)))))) (omega arith),
      from l 0 (suc (suc (suc (suc (suc (suc (suc at))))))) (omega arith),
    ))

-- ---- by words

pub record ByWords (marks : List ℕ) (n sum' k : ℕ) : Type 0 where
  pub within : k ≤ length marks / 8
  pub says : sum' ≡ sum (λ i. word_count (word_at marks i) n) k
  pub small : sum' ≤ k * 8

module _ {l : List ℕ} {n s k : ℕ} (b : ByWords l n s k) where
  pub words_more : {w r : ℕ} → k < length l / 8 → w ≡ word_of (eight l (k * 8)) → r ≡ word_count w n → ByWords l n (s + r) (k + 1)
  words_more {w = w} {r = r} h e c =
      let same : w ≡ word_at l k = e ∙ ap word_of (sym (eight_at l (k * 8) (omega arith))) in
      let one : r ≡ word_count (word_at l k) n = c ∙ ap (λ (x : ℕ). word_count x n) same in
      record {
        within = omega arith;
        says = rw add-one (omega (arith, b.says, one));
        small = omega (arith, b.small, c, word_few w n);
      }

  pub words_end : length l / 8 ≤ k → s ≡ over_words n l
  unfolding over_words
  words_end h = let e : k ≡ length l / 8 = omega (arith, b.within) in rw e at b.says

-- ---- by bytes

one_more : (b : Bool) (k : ℕ) → cond b 1 0 + k ≡ cond b (1 + k) k
one_more true k = refl
one_more false k = omega arith

pub counted_by_bit : (n : ℕ) (l : List ℕ) → mark_count n l ≡ count_by (λ m. bit m n) l
counted_by_bit n = is_count_by (mark_count n) (λ m. bit m n) refl (λ m ms. one_more (bit m n) (mark_count n ms))

-- Theorems. A word is its eight bytes, and for marks of any length every count is the sum over
-- words and rest: document 02, request 7.
use Rattle.std.specs.Prelude.{ℕ, zero, suc, ◌+◌, ◌*◌, ◌/◌, ◌^◌, ◌≤◌, ◌<◌, ◌≡◌, refl, List, length, take, drop, ltb}
use Rattle.std.proofs.Common.{sym, ap, ◌∙◌, ⊎_elim, arith, length-take, length-drop, ltb→lt, nltb→le, lt-ltb, le-ltb}
use Rattle.theory_basics.specs.Tests.{All}
use Rattle.theory_basics.specs.Sums.{sum}
use Rattle.theory_basics.specs.lemmas.Tests.{test}
use Rattle.theory_basics.specs.lemmas.Tables.{all_take, all_drop}
use Rattle.fetch.specs.Counts.{mark_count, low_bytes, word_bytes, word_count, word_of, word_at, over_words, over_rest}
use Rattle.fetch.specs.lemmas.Counts.{Byte, bytes_small, number_of_bytes, bytes_of_number, count_none, eight_more, count_le}

-- ---- a word is its bytes, and its bytes are it

pub word_length : (w : ℕ) → length (word_bytes w) ≡ 8
unfolding word_bytes
word_length w = refl

pub word_small : (w : ℕ) → All (λ b. b < 256) (word_bytes w)
unfolding word_bytes
word_small w = bytes_small 8 w

pub word_of_bytes : (w : ℕ) → w < 2 ^ 64 → word_of (word_bytes w) ≡ w
unfolding word_bytes
word_of_bytes w h = number_of_bytes 8 w h

pub bytes_of_word : (l : List ℕ) → length l ≡ 8 → All (λ b. b < 256) l → word_bytes (word_of l) ≡ l
unfolding word_bytes
bytes_of_word l e a = ap (λ (k : ℕ). low_bytes k (word_of l)) (sym e) ∙ bytes_of_number l a

-- A word's count is that of its eight bytes for every n, above 7 too: a byte has no bit there.
pub word_count_lem : (w n : ℕ) → word_count w n ≡ mark_count n (word_bytes w)
unfolding word_count
word_count_lem w n =
    ⊎_elim
    (λ t. rw (lt-ltb n 8 (ltb→lt n 8 t)))
    (λ t. let h = nltb→le n 8 t in rw (le-ltb n 8 h, count_none n (word_bytes w) h (word_small w)))
    (test (ltb n 8))

-- A word has eight bytes, so its count is at most 8.
pub word_few : (w n : ℕ) → word_count w n ≤ 8
word_few w n = omega (arith, word_count_lem w n, count_le n (word_bytes w), word_length w)

-- ---- marks of any length

-- No mark has a bit above 7.
pub none_above : (n : ℕ) (marks : List ℕ) → 8 ≤ n → All (λ m. m < 256) marks → mark_count n marks ≡ 0
none_above = count_none

word_of_eight : (n : ℕ) (l : List ℕ) (at : ℕ) → All Byte l → at + 8 ≤ length l → word_count (word_of (take 8 (drop at l))) n ≡ mark_count n (take 8 (drop at l))
word_of_eight n l at a h =
    let e : length (take 8 (drop at l)) ≡ 8 = simp (length-take, length-drop) (omega arith) in
    word_count_lem (word_of (take 8 (drop at l))) n
    ∙ ap (mark_count n) (bytes_of_word (take 8 (drop at l)) e (all_take Byte 8 (drop at l) (all_drop Byte at l a)))

some_words : (n : ℕ) (l : List ℕ) (k : ℕ) → All Byte l → k * 8 ≤ length l → mark_count n l ≡ sum (λ i. word_count (word_at l i) n) k + mark_count n (drop (k * 8) l)
some_words n l zero a h = omega arith
some_words n l (suc k) a h =
    let e : k * 8 + 8 ≡ suc k * 8 = omega arith in
    omega (arith, some_words n l k a (omega arith), rw e at (eight_more n l (k * 8)), word_of_eight n l (k * 8) a (omega arith))

-- "For marks of any length every count is the sum over words and rest"
pub words_and_rest : (n : ℕ) (marks : List ℕ) → All (λ m. m < 256) marks → mark_count n marks ≡ over_words n marks + over_rest n marks
unfolding over_words over_rest
words_and_rest n marks a = some_words n marks (length marks / 8) a (omega arith)

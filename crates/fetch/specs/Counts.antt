-- Meaning. Marks counted: document 02, request 7, "take eight marks together as a 64-bit word, and
-- the odd rest by bytes".
use Rattle.std.specs.Prelude.{ℕ, zero, suc, ◌+◌, ◌*◌, ◌/◌, ◌%◌, ◌≡◌, cond, List, [], ◌∷◌, length, take, drop, ltb}
use Rattle.theory_basics.specs.Sums.{sum}
use Rattle.fetch.specs.Marks.{bit}

-- How many marks have layer n.
abbrev pub mark_count : ℕ → List ℕ → ℕ
mark_count n [] = 0
mark_count n (m ∷ ms) = cond (bit m n) 1 0 + mark_count n ms

-- The k lowest bytes of a number, the lowest first, and the eight of a word.
abbrev pub low_bytes : ℕ → ℕ → List ℕ
low_bytes zero w = []
low_bytes (suc k) w = w % 256 ∷ low_bytes k (w / 256)

unfoldable pub word_bytes : ℕ → List ℕ
word_bytes w = low_bytes 8 w

-- "how many of its eight bytes have bit n set, for n from 0 to 7, and 0 above"
unfoldable pub word_count : ℕ → ℕ → ℕ
word_count w n = cond (ltb n 8) (mark_count n (word_bytes w)) 0

-- The number that bytes make, the lowest first, and the k-th eight marks, from 0, together as a
-- word.
abbrev pub word_of : List ℕ → ℕ
word_of [] = 0
word_of (b ∷ bs) = b + 256 * word_of bs

abbrev pub word_at : List ℕ → ℕ → ℕ
word_at marks k = word_of (take 8 (drop (k * 8) marks))

-- The sum over words, and over the odd rest.
unfoldable pub over_words : ℕ → List ℕ → ℕ
over_words n marks = sum (λ k. word_count (word_at marks k) n) (length marks / 8)

unfoldable pub over_rest : ℕ → List ℕ → ℕ
over_rest n marks = mark_count n (drop (length marks / 8 * 8) marks)

-- What `count_marks` answers.
pub record CountMarksPromise (marks : List ℕ) (n r : ℕ) : Type 0 where
  -- How many marks have layer n, one by one.
  pub counted : r ≡ mark_count n marks
  -- "For marks of any length every count is the sum over words and rest"
  pub summed : r ≡ over_words n marks + over_rest n marks

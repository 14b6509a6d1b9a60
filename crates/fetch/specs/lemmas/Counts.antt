-- Lemmas. Counts of marks taken apart, and bytes together as a number. Assumes nothing.
use Rattle.std.specs.Prelude.{ℕ, zero, suc, ◌+◌, ◌*◌, ◌/◌, ◌%◌, ◌^◌, ◌≤◌, ◌<◌, ◌≡◌, refl, Bool, cond, List, [], ◌∷◌, ◌++◌, length, get_or, take, drop}
use Rattle.std.proofs.Common.{sym, ap, ◌∙◌, arith, pow-suc, take-append-drop, drop-drop}
use Rattle.theory_basics.specs.Tests.{All}
use Rattle.theory_basics.specs.Sums.{count}
use Rattle.theory_basics.specs.Lists.{up_to}
use Rattle.theory_basics.specs.lemmas.Ranges.{cond_most}
use Rattle.fetch.specs.Marks.{bit}
use Rattle.fetch.specs.Counts.{mark_count, low_bytes, word_of}
use Rattle.fetch.specs.lemmas.Marks.{high_bit}

-- A byte.
abbrev pub Byte : ℕ → Type 0
Byte b = b < 256

-- ---- bytes and the number that they make

pub bytes_small : (k w : ℕ) → All Byte (low_bytes k w)
bytes_small zero w = tt
bytes_small (suc k) w = (omega arith, bytes_small k (w / 256))

pub number_of_bytes : (k w : ℕ) → w < 256 ^ k → word_of (low_bytes k w) ≡ w
number_of_bytes zero w h = omega arith
number_of_bytes (suc k) w h = omega (arith, number_of_bytes k (w / 256) (omega (arith, pow-suc 256 k)))

pub bytes_of_number : (l : List ℕ) → All Byte l → low_bytes (length l) (word_of l) ≡ l
bytes_of_number [] a = refl
bytes_of_number (b ∷ bs) a =
    let h = a.0 in
    let low : (b + 256 * word_of bs) % 256 ≡ b = omega arith in
    let high : (b + 256 * word_of bs) / 256 ≡ word_of bs = omega arith in
    rw (low, high, bytes_of_number bs a.1)

-- ---- counts

pub count_append : (n : ℕ) (a b : List ℕ) → mark_count n (a ++ b) ≡ mark_count n a + mark_count n b
count_append n [] b = omega arith
count_append n (x ∷ a) b = omega (arith, count_append n a b)

pub count_le : (n : ℕ) (l : List ℕ) → mark_count n l ≤ length l
count_le n [] = omega arith
count_le n (x ∷ l) = omega (arith, count_le n l, cond_most (bit x n) 1 1 (omega arith))

pub count_none : (n : ℕ) (l : List ℕ) → 8 ≤ n → All Byte l → mark_count n l ≡ 0
count_none n [] h a = refl
count_none n (x ∷ l) h a = let u = a.0 in rw (high_bit x 8 n u h, count_none n l h a.1)

-- Marks given by the index, as a count of the numbers that pass.
pub count_up_to : (n : ℕ) (g : ℕ → ℕ) (q : ℕ → Bool) (c : ℕ) → ((k : ℕ) → k < c → bit (g k) n ≡ q (suc k)) → mark_count n (up_to g c) ≡ count q c
count_up_to n g q zero h = refl
count_up_to n g q (suc c) h =
    let one : Bool → ℕ = λ b. cond b 1 0 in
    let e = ap one (h c (omega arith)) in
    omega (arith, count_append n (up_to g c) (g c ∷ []), count_up_to n g q c (λ k u. h k (omega arith)), e)

-- Eight marks from a place on, and the others after them.
pub eight_more : (n : ℕ) (l : List ℕ) (at : ℕ) → mark_count n (drop at l) ≡ mark_count n (take 8 (drop at l)) + mark_count n (drop (at + 8) l)
eight_more n l at =
    ap (mark_count n) (sym (take-append-drop 8 (drop at l)))
    ∙ count_append n (take 8 (drop at l)) (drop 8 (drop at l))
    ∙ rw (drop-drop 8 at l)

-- The eight marks from a place on, each by its own.
abbrev pub eight : List ℕ → ℕ → List ℕ
eight l at = get_or l at 0 ∷ get_or l (at + 1) 0 ∷ get_or l (at + 2) 0 ∷ get_or l (at + 3) 0 ∷ get_or l (at + 4) 0 ∷ get_or l (at + 5) 0 ∷ get_or l (at + 6) 0 ∷ get_or l (at + 7) 0 ∷ []

-- Meaning. "The sentence can be read back into its numbers in one way only": a reader that gives
-- the lines back from the text. It knows nothing but digits and line feeds: a text is cut after
-- each line feed, and the numbers of a line are its runs of digits, six in a line of the first kind
-- and three in one of the second. That it gives back what was written says Theorems
-- (`sentence_read`, `text_read`).
use Rattle.std.specs.Prelude.{ℕ, ◌+◌, ◌*◌, ◌-◌, Bool, cond, ◌&&◌, List, [], ◌∷◌, map, eqb, leb, length, get_or}
use Rattle.theory_reasons.specs.Statement.{Line, lower, short}

-- 48 to 57: the ASCII digits.
abbrev pub is_digit : ℕ → Bool
is_digit x = leb 48 x && leb x 57

-- A number that is being read, or none.
pub data Reading : Type 0 where
  outside : Reading
  inside : ℕ → Reading

-- The number so far with one more digit.
abbrev pub digit_on : Reading → ℕ → ℕ
digit_on outside x = x - 48
digit_on (inside n) x = n * 10 + (x - 48)

-- A number that ends here, in front of the rest.
abbrev pub closed : Reading → List ℕ → List ℕ
closed outside rest = rest
closed (inside n) rest = n ∷ rest

-- The numbers in a text: its runs of digits.
abbrev pub numbers_from : Reading → List ℕ → List ℕ
numbers_from s [] = closed s []
numbers_from s (x ∷ xs) = cond (is_digit x) (numbers_from (inside (digit_on s x)) xs) (closed s (numbers_from outside xs))

abbrev pub numbers_in : List ℕ → List ℕ
numbers_in xs = numbers_from outside xs

-- A line from its numbers: three are of the second kind.
abbrev pub line_of : List ℕ → Line
line_of xs =
    cond
    (eqb (length xs) 3)
    (lower (get_or xs 0 0) (get_or xs 1 0) (get_or xs 2 0))
    (short (get_or xs 0 0) (get_or xs 1 0) (get_or xs 2 0) (get_or xs 3 0) (get_or xs 4 0) (get_or xs 5 0))

-- A byte in front of the first line.
abbrev pub front : ℕ → List (List ℕ) → List (List ℕ)
front x [] = (x ∷ []) ∷ []
front x (l ∷ ls) = (x ∷ l) ∷ ls

-- The lines of a text, each with its line feed.
abbrev pub lines_in : List ℕ → List (List ℕ)
lines_in [] = []
lines_in (x ∷ xs) = cond (eqb x 10) ((x ∷ []) ∷ lines_in xs) (front x (lines_in xs))

-- One line, and the whole output.
abbrev pub read_line : List ℕ → Line
read_line xs = line_of (numbers_in xs)

abbrev pub read_reasons : List ℕ → List Line
read_reasons xs = map read_line (lines_in xs)

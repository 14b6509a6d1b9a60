-- Meaning. Text as bytes: words, decimal numbers and lines: document 01, "it prints, each line
-- ended by a line feed".
use Rattle.std.specs.Prelude.{ℕ, zero, suc, ◌+◌, ◌*◌, ◌-◌, ◌/◌, ◌%◌, cond, List, [], ◌∷◌, ◌++◌, ltb}
use Prim.Native.Char.{code}
use Prim.Native.String.{String, [] as none, ◌∷◌ as ◌then◌}

-- The bytes of an ASCII text.
abbrev pub ascii : String → List ℕ
ascii none = []
ascii (c then s) = code c ∷ ascii s

-- The last so many decimal digits of n at most, in ASCII, without leading zeros.
abbrev pub digits_in : ℕ → ℕ → List ℕ
digits_in zero n = []
digits_in (suc places) n = cond (ltb n 10) ((48 + n) ∷ []) (digits_in places (n / 10) ++ ((48 + n % 10) ∷ []))

-- The decimal digits of n, without leading zeros: no number has more digits than n + 1.
unfoldable pub digits : ℕ → List ℕ
digits n = digits_in (suc n) n

-- The number that a text of digits says, after the digits read before it.
abbrev pub read_on : ℕ → List ℕ → ℕ
read_on n [] = n
read_on n (d ∷ ds) = read_on (n * 10 + (d - 48)) ds

-- Each word or number after a space, then a line feed.
abbrev pub ended : List (List ℕ) → List ℕ
ended [] = 10 ∷ []
ended (x ∷ xs) = 32 ∷ (x ++ ended xs)

-- A line is words and numbers with a space between two, ended by a line feed.
abbrev pub line : List ℕ → List (List ℕ) → List ℕ
line first others = first ++ ended others

-- Lines one after the other.
abbrev pub text : List (List ℕ) → List ℕ
text [] = []
text (x ∷ xs) = x ++ text xs

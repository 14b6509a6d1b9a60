-- Lemmas. How many bytes a line has. Assumes nothing.
use Rattle.std.specs.Prelude.{ℕ, suc, ◌+◌, ◌≡◌, refl, List, [], ◌∷◌, length}
use Rattle.std.proofs.Common.{ap, ◌∙◌, arith, length-append}
use Rattle.theory_basics.specs.Text.{ended, line}

-- The bytes after a line's first word: a space before each word, and the line feed.
abbrev pub width : List (List ℕ) → ℕ
width [] = 1
width (x ∷ xs) = suc (length x) + width xs

ended_width : (xs : List (List ℕ)) → length (ended xs) ≡ width xs
ended_width [] = refl
ended_width (x ∷ xs) = omega (arith, length-append x (ended xs), ended_width xs)

pub line_width : (x : List ℕ) (xs : List (List ℕ)) → length (line x xs) ≡ length x + width xs
line_width x xs = length-append x (ended xs) ∙ ap (λ (n : ℕ). length x + n) (ended_width xs)

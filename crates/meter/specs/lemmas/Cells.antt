-- Lemmas. How ten cells take one more: what the private function over slots and over bytes answers.
use Rattle.std.specs.Prelude.{ℕ, cond, List, [], ◌∷◌, ◌++◌, set, drop, ltb}

-- v goes into the cell n; where all ten are taken, each moves by one and v comes last.
abbrev pub next_cells : {A : Type 0} → List A → ℕ → A → List A
next_cells cells n v = cond (ltb n 10) (set cells n v) (drop 1 cells ++ (v ∷ []))

-- Lemmas. The sentences as the code puts them: words with a number after each.
use Rattle.std.specs.Prelude.{ℕ, ◌≡◌, List, [], ◌∷◌, ◌++◌}
use Rattle.std.proofs.Common.{sym, ap, ◌∙◌, append_assoc}
use Rattle.theory_reasons.specs.Statement.{Line, lower, sentence, short}
use Rattle.theory_basics.specs.Text.{ascii, digits}
use Rattle.core_reasons.specs.declared.passes.Stretch.{Stretch}

-- The line of the first kind with a stretch's numbers.
abbrev pub short_of : ℕ → ℕ → Stretch → Line
short_of i n s = short i n s.first s.last s.carry s.need

-- Two words, each with a number after it.
abbrev pub two : List ℕ → ℕ → List ℕ → ℕ → List ℕ
two v n w m = (v ++ digits n) ++ (w ++ digits m)

two_then : (v : List ℕ) (n : ℕ) (w : List ℕ) (m : ℕ) (r : List ℕ) → two v n w m ++ r ≡ v ++ (digits n ++ (w ++ (digits m ++ r)))
two_then v n w m r = simp append_assoc

short_flat :
    (i n a b c m : ℕ) →
    sentence (short i n a b c m)
    ≡ ascii "chunk " ++ (digits i ++ (ascii " layer " ++ (digits n ++ (ascii ": slots " ++ (digits a ++ (ascii " to " ++ (digits b ++ (ascii " carry " ++ (digits c ++ (ascii ", need " ++ (digits m ++ (10 ∷ []))))))))))))
unfolding sentence
short_flat i n a b c m = simp append_assoc

pub short_is :
    (i n a b c m : ℕ) →
    sentence (short i n a b c m)
    ≡ two (ascii "chunk ") i (ascii " layer ") n ++ (two (ascii ": slots ") a (ascii " to ") b ++ (two (ascii " carry ") c (ascii ", need ") m ++ (10 ∷ [])))
short_is i n a b c m =
    let r₂ = two (ascii " carry ") c (ascii ", need ") m ++ (10 ∷ []) in
    let r₁ = two (ascii ": slots ") a (ascii " to ") b ++ r₂ in
    short_flat i n a b c m
    ∙ sym
    (two_then (ascii "chunk ") i (ascii " layer ") n r₁
    ∙ ap (λ (l : List ℕ). ascii "chunk " ++ (digits i ++ (ascii " layer " ++ (digits n ++ l))))
    (two_then (ascii ": slots ") a (ascii " to ") b r₂
    ∙ ap (λ (l : List ℕ). ascii ": slots " ++ (digits a ++ (ascii " to " ++ (digits b ++ l)))) (two_then (ascii " carry ") c (ascii ", need ") m (10 ∷ []))))

lower_flat :
    (i n k : ℕ) →
    sentence (lower i n k)
    ≡ ascii "chunk " ++ (digits i ++ (ascii " layer " ++ (digits n ++ (ascii ": layer " ++ (digits k ++ (ascii " is missing" ++ (10 ∷ [])))))))
unfolding sentence
lower_flat i n k = simp append_assoc

pub lower_is :
    (i n k : ℕ) →
    sentence (lower i n k) ≡ two (ascii "chunk ") i (ascii " layer ") n ++ ((ascii ": layer " ++ digits k) ++ (ascii " is missing" ++ (10 ∷ [])))
lower_is i n k =
    let r = (ascii ": layer " ++ digits k) ++ (ascii " is missing" ++ (10 ∷ [])) in
    lower_flat i n k
    ∙ sym
    (two_then (ascii "chunk ") i (ascii " layer ") n r
    ∙ ap (λ (l : List ℕ). ascii "chunk " ++ (digits i ++ (ascii " layer " ++ (digits n ++ l)))) (append_assoc (ascii ": layer ") (digits k) (ascii " is missing" ++ (10 ∷ []))))

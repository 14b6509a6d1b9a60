-- Lemmas. The first of the sets of most chunks: the best so far, carried along, is it, and there is
-- only one.
use Rattle.std.specs.Prelude.{ℕ, ◌≤◌, ◌<◌, ◌≡◌, refl, List, [], ◌∷◌, ◌++◌, length, ltb}
use Rattle.std.proofs.Common.{sym, ap, ◌∙◌, subst, ⊎_elim, arith, lt-ltb, le-ltb, ltb→lt, nltb→le}
use Rattle.theory_basics.specs.Tests.{All}
use Rattle.theory_basics.specs.lemmas.Tests.{test}
use Rattle.theory_search.specs.Statement.{FirstOfMost}
use Rattle.theory_search.proofs.Walk.{best_more, best_of}

abbrev Sets : Type 0
Sets = List (List ℕ)

-- ---- the best so far, carried along

-- A set that is no better than the one before it changes nothing.
first_skip : (b k best : List ℕ) (sets before behind : Sets) → length k ≤ length b → b ∷ sets ≡ before ++ (best ∷ behind) → All (λ ks. length ks < length best) before → All (λ ks. length ks ≤ length best) behind → FirstOfMost (b ∷ (k ∷ sets)) best
first_skip b k best sets [] behind h e l m =
    let e₁ : b ≡ best = cc in
    let e₂ : sets ≡ behind = cc in
    record { before = []; behind = k ∷ behind; here = cc; fewer = tt; no_more_lem = (rw (← e₁) h, m) }
first_skip b k best sets (c ∷ before) behind h e l m =
    let e₁ : b ≡ c = cc in
    let e₂ : sets ≡ before ++ (best ∷ behind) = cc in
    let l₁ : length b < length best = rw e₁ l.0 in
    record { before = b ∷ (k ∷ before); behind = behind; here = rw e₂; fewer = (l₁, (omega arith, l.1)); no_more_lem = m }

pub first_of_most : (b : List ℕ) (sets : Sets) → FirstOfMost (b ∷ sets) (best_of b sets)
first_of_most b [] = record { before = []; behind = []; here = refl; fewer = tt; no_more_lem = tt }
first_of_most b (k ∷ sets) =
    ⊎_elim
    (λ t.
    let u = ltb→lt (length b) (length k) t in
    rw (lt-ltb (length b) (length k) u)
    (let r = first_of_most k sets in
    record { before = b ∷ r.before; behind = r.behind; here = ap (λ (l : Sets). b ∷ l) r.here; fewer = (omega (arith, best_more k sets), r.fewer); no_more_lem = r.no_more_lem }))
    (λ t.
    let u = nltb→le (length b) (length k) t in
    rw (le-ltb (length b) (length k) u)
    (let r = first_of_most b sets in first_skip b k (best_of b sets) sets r.before r.behind u r.here r.fewer r.no_more_lem))
    (test (ltb (length b) (length k)))

-- ---- there is only one

all_mid : (P : List ℕ → Type 0) (a : Sets) (x : List ℕ) (b : Sets) → All P (a ++ (x ∷ b)) → P x
all_mid P [] x b h = h.0
all_mid P (y ∷ a) x b h = all_mid P a x b h.1

only_first :
    (a₁ a₂ c₁ c₂ : Sets) (x y : List ℕ) → a₁ ++ (x ∷ c₁) ≡ a₂ ++ (y ∷ c₂) →
    All (λ ks. length ks < length x) a₁ → All (λ ks. length ks ≤ length x) c₁ →
    All (λ ks. length ks < length y) a₂ → All (λ ks. length ks ≤ length y) c₂ → x ≡ y
only_first [] [] c₁ c₂ x y e l₁ m₁ l₂ m₂ = cc
only_first [] (z ∷ a₂) c₁ c₂ x y e l₁ m₁ l₂ m₂ =
    let e₁ : x ≡ z = cc in
    let e₂ : c₁ ≡ a₂ ++ (y ∷ c₂) = cc in
    let u : length y ≤ length x = all_mid (λ ks. length ks ≤ length x) a₂ y c₂ (subst (All (λ ks. length ks ≤ length x)) e₂ m₁) in
    let v : length x < length y = rw e₁ l₂.0 in
    absurd (omega arith)
only_first (z ∷ a₁) [] c₁ c₂ x y e l₁ m₁ l₂ m₂ =
    let e₁ : y ≡ z = cc in
    let e₂ : c₂ ≡ a₁ ++ (x ∷ c₁) = cc in
    let u : length x ≤ length y = all_mid (λ ks. length ks ≤ length y) a₁ x c₁ (subst (All (λ ks. length ks ≤ length y)) e₂ m₂) in
    let v : length y < length x = rw e₁ l₁.0 in
    absurd (omega arith)
only_first (z ∷ a₁) (w ∷ a₂) c₁ c₂ x y e l₁ m₁ l₂ m₂ =
    let e₂ : a₁ ++ (x ∷ c₁) ≡ a₂ ++ (y ∷ c₂) = cc in
    only_first a₁ a₂ c₁ c₂ x y e₂ l₁.1 m₁ l₂.1 m₂

pub first_unique : (sets : Sets) (x y : List ℕ) → FirstOfMost sets x → FirstOfMost sets y → x ≡ y
first_unique sets x y f g =
    only_first f.before g.before f.behind g.behind x y (sym f.here ∙ g.here) f.fewer f.no_more_lem g.fewer g.no_more_lem

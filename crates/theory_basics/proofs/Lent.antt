-- Lemmas. A result that stands at the start of a lent slice. Assumes nothing.
use Rattle.std.specs.Prelude.{◌≡◌, refl, List, [], ◌∷◌, ◌++◌, map, ℕ, suc, ◌+◌, ◌≤◌, ◌<◌, length, set}
use Rattle.std.proofs.Common.{ap, arith, length-append}
use Rattle.std.proofs.lemmas.List.{length-map}
use Rattle.theory_basics.specs.Lent.{over}

pub length_snoc : {A : Type 0} (t : List A) (v : A) → length (t ++ (v ∷ [])) ≡ length t + 1
length_snoc t v = length-append t (v ∷ [])

pub map_snoc : {A : Type 0} (g : A → ℕ) (m : List A) (r : A) → map g (m ++ (r ∷ [])) ≡ map g m ++ (g r ∷ [])
map_snoc g [] r = refl
map_snoc g (x ∷ m) r = ap (λ (t : List ℕ). g x ∷ t) (map_snoc g m r)

-- The next element of a result.
pub over_next : (t l : List ℕ) (v : ℕ) → length t < length l → set (over t l) (length t) v ≡ over (t ++ (v ∷ [])) l
over_next [] [] v h = absurd (omega arith)
over_next [] (x ∷ l) v h = refl
over_next (y ∷ t) [] v h = absurd (omega arith)
over_next (y ∷ t) (x ∷ l) v h = ap (λ (k : List ℕ). y ∷ k) (over_next t l v (omega arith))

pub over_long : (t l : List ℕ) → length t ≤ length l → length (over t l) ≡ length l
over_long [] l h = refl
over_long (y ∷ t) [] h = absurd (omega arith)
over_long (y ∷ t) (x ∷ l) h = ap suc (over_long t l (omega arith))

-- A store of one field of the next row.
pub stored : {A : Type 0} (g : A → ℕ) (l l' : List ℕ) (m : List A) (r : A) (n : ℕ) → n ≡ length m → n < length l' → l' ≡ over (map g m) l → length l' ≡ length l → set l' n (g r) ≡ over (map g (m ++ (r ∷ []))) l
stored g l l' m r n e h w k =
    let s : n ≡ length (map g m) = omega (arith, length-map m g) in
    rw (w, s, map_snoc g m r) (over_next (map g m) l (g r) (omega (arith, length-map m g)))

-- Lemmas. Lists by index, and one element again and again. Assumes nothing.
use Rattle.std.specs.Prelude.{ℕ, zero, suc, ◌≤◌, ◌≡◌, refl, Bool, List, [], ◌∷◌, ◌++◌, map, replicate, take}
use Rattle.std.proofs.Common.{sym, ap, ◌∙◌, ⊎_elim, arith, take_all}
use Rattle.std.proofs.lemmas.List.{take-append-le}
use Rattle.std.specs.List.{list_all}
use Rattle.theory_basics.specs.Lists.{up_to}
use Rattle.theory_basics.proofs.Lent.{map_snoc}
use Rattle.theory_basics.specs.lemmas.Lists.{length_up_to}
use Rattle.theory_basics.specs.Tests.{All, all}
use Rattle.theory_basics.specs.lemmas.Tests.{last, all_snoc}

module _ {A : Type 0} where
  pub All_replicate : (P : A → Type 0) (n : ℕ) (x : A) → P x → All P (replicate n x)
  All_replicate P zero x p = tt
  All_replicate P (suc n) x p = (p, All_replicate P n x p)

  pub take_up_to : (f : ℕ → A) (m n : ℕ) → m ≤ n → take m (up_to f n) ≡ up_to f m
  take_up_to f m zero h = let e : m ≡ 0 = omega arith in rw e
  take_up_to f m (suc n) h =
      ⊎_elim
      (λ l. take-append-le m (up_to f n) (f n ∷ []) (omega (arith, length_up_to f n)) ∙ take_up_to f m n l)
      (λ e. rw e (take_all (suc n) (up_to f (suc n)) (omega (arith, length_up_to f (suc n)))))
      (last m n h)

  pub map_up_to : (g : A → ℕ) (f : ℕ → A) (n : ℕ) → map g (up_to f n) ≡ up_to (λ k. g (f k)) n
  map_up_to g f zero = refl
  map_up_to g f (suc n) = map_snoc g (up_to f n) (f n) ∙ ap (λ (l : List ℕ). l ++ (g (f n) ∷ [])) (map_up_to g f n)

pub all_up_to : {A B : Type 0} (p : A → Bool) (q : B → Bool) (f : ℕ → A) (g : ℕ → B) (n : ℕ) → ((k : ℕ) → p (f k) ≡ q (g k)) → all p (up_to f n) ≡ all q (up_to g n)
all_up_to p q f g zero h = refl
all_up_to p q f g (suc n) h = all_snoc p (up_to f n) (f n) ∙ rw (all_up_to p q f g n h, h n) (sym (all_snoc q (up_to g n) (g n)))

-- std's test of each element is the one of the meaning.
pub all_same : {A : Type 0} (p : A → Bool) (xs : List A) → list_all p xs ≡ all p xs
all_same p [] = refl
all_same p (x ∷ xs) = rw (all_same p xs)

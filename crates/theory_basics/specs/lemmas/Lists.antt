-- Lemmas. Lists given by the value at each index, maps, and what is past a front. Assumes
-- nothing.
use Rattle.std.specs.Prelude.{ℕ, zero, suc, ◌+◌, ◌-◌, ◌≤◌, ◌<◌, ◌≡◌, refl, List, [], ◌∷◌, ◌++◌, map, length, get_or, drop, ltb}
use Rattle.std.proofs.Common.{sym, ap, ◌∙◌, ⊎_elim, arith, length-append, ltb→lt, nltb→le}
use Rattle.std.proofs.Math.ListN.{get_or-append}
use Rattle.std.proofs.Math.Seq.{drop-append-add}
use Rattle.std.proofs.lemmas.List.{get_or_at}
use Rattle.theory_basics.specs.Lists.{up_to}
use Rattle.theory_basics.specs.lemmas.Tests.{test}
use Rattle.theory_basics.specs.Tests.{All}

module _ {A : Type 0} where
  pub length_up_to : (f : ℕ → A) (n : ℕ) → length (up_to f n) ≡ n
  length_up_to f zero = refl
  length_up_to f (suc n) = omega (arith, length-append (up_to f n) (f n ∷ []), length_up_to f n)

  pub get_d_up_to : (f : ℕ → A) (n k : ℕ) (d : A) → k < n → get_or (up_to f n) k d ≡ f k
  get_d_up_to f zero k d h = absurd (omega arith)
  get_d_up_to f (suc n) k d h =
      ⊎_elim
      (λ t. let u = ltb→lt k n t in get_or-append (up_to f n) (f n ∷ []) d k (omega (arith, length_up_to f n)) ∙ get_d_up_to f n k d u)
      (λ t. let e : k ≡ n = omega (arith, nltb→le k n t) in rw e (get_or_at (up_to f n) (f n) [] d n (length_up_to f n)))
      (test (ltb k n))

  pub up_to_cong : (f g : ℕ → A) (n : ℕ) → ((k : ℕ) → k < n → f k ≡ g k) → up_to f n ≡ up_to g n
  up_to_cong f g zero h = refl
  up_to_cong f g (suc n) h = rw (up_to_cong f g n (λ k u. h k (omega arith)), h n (omega arith))

-- ---- maps

-- Functions that agree on a list map it alike.
pub map_cong : {A B : Type 0} (f g : A → B) (l : List A) → All (λ x. f x ≡ g x) l → map f l ≡ map g l
map_cong f g [] a = refl
map_cong f g (x ∷ l) a = rw (a.0, map_cong f g l a.1)

pub all_of_map : {A B : Type 0} (P : B → Type 0) (f : A → B) (l : List A) → All (λ x. P (f x)) l → All P (map f l)
all_of_map P f [] a = tt
all_of_map P f (x ∷ l) a = (a.0, all_of_map P f l a.1)

pub each_of_map : {A B : Type 0} (P : B → Type 0) (f : A → B) → ((x : A) → P (f x)) → (l : List A) → All P (map f l)
each_of_map P f h [] = tt
each_of_map P f h (x ∷ l) = (h x, each_of_map P f h l)

pub get_d_map : (f : ℕ → ℕ) (l : List ℕ) (q : ℕ) → q < length l → get_or (map f l) q 0 ≡ f (get_or l q 0)
get_d_map f [] q h = absurd (omega arith)
get_d_map f (x ∷ l) zero h = refl
get_d_map f (x ∷ l) (suc q) h = get_d_map f l q (omega arith)

-- ---- past a front

pub drop_past : {A : Type 0} (a b : List A) (n : ℕ) → length a ≤ n → drop n (a ++ b) ≡ drop (n - length a) b
drop_past a b n h = let e : length a + (n - length a) ≡ n = omega arith in ap (λ (k : ℕ). drop k (a ++ b)) (sym e) ∙ drop-append-add a b (n - length a)

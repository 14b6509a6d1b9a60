-- Lemmas. Sums and tests over rows: in another order, with one row more, of a row that stands in
-- the list, of a base. Assumes nothing.
use Rattle.std.specs.Prelude.{ℕ, zero, suc, ◌+◌, ◌≤◌, ◌≡◌, refl, Bool, true, false, not, cond, ◌&&◌, ◌||◌, List, [], ◌∷◌, ◌++◌, T, eqb}
use Rattle.std.proofs.Common.{ap, ◌∙◌, ⊎_elim, arith}
use Rattle.theory_basics.specs.Tests.{all, any, In, here, there}
use Rattle.theory_basics.specs.lemmas.Tests.{by_cond, test, T_or_iff}
use Rattle.job.specs.Job.{Job, Layer, Accepted, size}
use Rattle.job.specs.lemmas.Within.{size_least}
use Rattle.fetch.specs.Rows.{Row, bytes_if, Carried, Permuted, none, keep, swap, next}
use Rattle.fetch.specs.Rules.{LowerCarried}
use Rattle.fetch.specs.Verdict.{lower_carried}

-- ---- rows after rows, and rows none of which pass

pub bytes_append : (p : Row → Bool) (a b : List Row) → bytes_if p (a ++ b) ≡ bytes_if p a + bytes_if p b
bytes_append p [] b = omega arith
bytes_append p (x ∷ xs) b = omega (arith, bytes_append p xs b)

pub bytes_none : (p : Row → Bool) (l : List Row) → ((x : Row) → In x l → T (p x) → ⊥) → bytes_if p l ≡ 0
bytes_none p [] f = refl
bytes_none p (x ∷ xs) f =
    omega (arith, bytes_none p xs (λ y i. f y (there i)), by_cond (λ n. n ≤ 0) (p x) {x = x.bytes} {y = 0} (λ t. absurd (f x here t)) (λ t. omega arith))

-- ---- the same rows in another order

pub bytes_permuted : (p : Row → Bool) {a b : List Row} → Permuted a b → bytes_if p a ≡ bytes_if p b
bytes_permuted p none = refl
bytes_permuted p (keep {x = x} h) = ap (λ (n : ℕ). cond (p x) x.bytes 0 + n) (bytes_permuted p h)
bytes_permuted p swap = omega arith
bytes_permuted p (next h k) = bytes_permuted p h ∙ bytes_permuted p k

and_swap : (a b c : Bool) → a && (b && c) ≡ b && (a && c)
and_swap true b c = refl
and_swap false true c = refl
and_swap false false c = refl

or_swap : (a b c : Bool) → a || (b || c) ≡ b || (a || c)
or_swap true true c = refl
or_swap true false c = refl
or_swap false b c = refl

pub all_permuted : (p : Row → Bool) {a b : List Row} → Permuted a b → all p a ≡ all p b
all_permuted p none = refl
all_permuted p (keep {x = x} h) = ap (λ (t : Bool). p x && t) (all_permuted p h)
all_permuted p (swap {x = x} {y = y} {a = a}) = and_swap (p x) (p y) (all p a)
all_permuted p (next h k) = all_permuted p h ∙ all_permuted p k

pub any_permuted : (p : Row → Bool) {a b : List Row} → Permuted a b → any p a ≡ any p b
any_permuted p none = refl
any_permuted p (keep {x = x} h) = ap (λ (t : Bool). p x || t) (any_permuted p h)
any_permuted p (swap {x = x} {y = y} {a = a}) = or_swap (p x) (p y) (any p a)
any_permuted p (next h k) = any_permuted p h ∙ any_permuted p k

pub lower_permuted : (j : Job) {a b : List Row} → Permuted a b → (i n : ℕ) → lower_carried j a i n ≡ lower_carried j b i n
lower_permuted j h i zero = refl
lower_permuted j h i (suc n) = ap (λ (s : ℕ). eqb s (size j i n)) (bytes_permuted (λ x. eqb x.chunk i && eqb x.layer n) h)

-- ---- one row more

pub bytes_snoc : (p : Row → Bool) (l : List Row) (x : Row) → bytes_if p (l ++ (x ∷ [])) ≡ bytes_if p l + cond (p x) x.bytes 0
bytes_snoc p [] x = omega arith
bytes_snoc p (y ∷ l) x = omega (arith, bytes_snoc p l x)

-- ---- a row of the list

add_up : (b : Bool) (n s r : ℕ) → r ≤ s → r ≤ cond b n 0 + s
add_up true n s r h = omega arith
add_up false n s r h = omega arith

-- A sum is at least the bytes of each of its rows.
pub row_counts : (p : Row → Bool) {x : Row} {l : List Row} → In x l → T (p x) → x.bytes ≤ bytes_if p l
row_counts p {x = x} (here {xs = xs}) t = at (p x) t where
  at : (b : Bool) → T b → x.bytes ≤ cond b x.bytes 0 + bytes_if p xs
  at true t = omega arith
  at false t = absurd t
row_counts p (there {y = y} {xs = xs} i) t = add_up (p y) y.bytes (bytes_if p xs) _ (row_counts p i t)

-- A row of the list that passes.
pub record Some (p : Row → Bool) (l : List Row) : Type 0 where
  pub row : Row
  pub listed : In row l
  pub passes : T (p row)

later : (p : Row → Bool) {x : Row} {l : List Row} → Some p l → Some p (x ∷ l)
later p s = record { row = s.row; listed = there s.listed; passes = s.passes }

pub any_some : (p : Row → Bool) (l : List Row) → T (any p l) → Some p l
any_some p [] t = absurd t
any_some p (x ∷ l) t = ⊎_elim (λ u. record { row = x; listed = here; passes = u }) (λ u. later p (any_some p l u)) ((T_or_iff (p x) (any p l)).0 t)

-- A sum above 0 has a row.
pub some_row : (p : Row → Bool) (l : List Row) → 1 ≤ bytes_if p l → Some p l
some_row p [] h = absurd (omega arith)
some_row p (x ∷ l) h = ⊎_elim (λ t. record { row = x; listed = here; passes = t }) (λ t. later p (some_row p l (rest (p x) t h))) (test (p x)) where
  rest : (b : Bool) → T (not b) → 1 ≤ cond b x.bytes 0 + bytes_if p l → 1 ≤ bytes_if p l
  rest true t h = absurd t
  rest false t h = omega arith

-- ---- the base

-- The base of a chunk with any layer carried is carried.
pub base_carried : (j : Job) (rows : List Row) → LowerCarried j rows → (i n : ℕ) → Layer j i n → Carried j rows i n → Carried j rows i 0
base_carried j rows f i zero r c = c
base_carried j rows f i (suc n) r c =
    base_carried j rows f i n (record { chunk_low = r.chunk_low; chunk_high = r.chunk_high; layer_in = omega (arith, r.layer_in) }) (f i n r c)

-- A base of an accepted job has at least a byte.
pub base_low : (j : Job) → Accepted j → (i : ℕ) → 1 ≤ size j i 0
base_low j ok i = size_least j ok i 0 ok.layers_in.low

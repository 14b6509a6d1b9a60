-- Lemmas. Tables: lists that stand at the end of a table, stores, what holds of each place. Assumes
-- nothing.
use Rattle.std.specs.Prelude.{◌≡◌, List, [], ◌∷◌, ℕ, zero, suc, ◌+◌, ◌-◌, ◌≤◌, ◌<◌, length, get_or, set, take, drop, ltb, eqb}
use Rattle.std.proofs.Common.{sym, ◌∙◌, ap, ⊎_elim, arith, add-one, length-set, length-drop, drop-cons, get_or-set_same, get_or-set_other, drop-set-lt, get_or-drop, ltb→lt, nltb→le, eqb→eq}
use Rattle.theory_basics.specs.Tests.{All}
use Rattle.theory_basics.specs.lemmas.Tests.{test, neqb_ne}

-- ---- the end of a table

pub drop_next : (l : List ℕ) (q : ℕ) → q < length l → drop q l ≡ get_or l q 0 ∷ drop (q + 1) l
drop_next l q h = rw (add-one, drop-cons l q 0)

pub drop_set : (l : List ℕ) (q v : ℕ) → q < length l → drop q (set l q v) ≡ v ∷ drop (q + 1) l
drop_set l q v h =
    let k : q < length (set l q v) = simp length-set h in
    drop_next (set l q v) q k ∙ rw (get_or-set_same l q v 0 h, drop-set-lt (q + 1) l q v (omega arith))

-- The same one place before q.
pub drop_before : (l : List ℕ) (q : ℕ) → 0 < q → q ≤ length l → drop (q - 1) l ≡ get_or l (q - 1) 0 ∷ drop q l
drop_before l q h k = let e : q - 1 + 1 ≡ q = omega arith in drop_next l (q - 1) (omega arith) ∙ rw e

pub set_before : (l : List ℕ) (q v : ℕ) → 0 < q → q ≤ length l → drop (q - 1) (set l (q - 1) v) ≡ v ∷ drop q l
set_before l q v h k = let e : q - 1 + 1 ≡ q = omega arith in drop_set l (q - 1) v (omega arith) ∙ rw e

-- A place of the end, once v is written before q.
pub written_before : (l : List ℕ) (q v k : ℕ) → 0 < q → q ≤ length l → get_or (set l (q - 1) v) (q - 1 + k) 0 ≡ get_or (v ∷ drop q l) k 0
written_before l q v k h u = sym (get_or-drop (q - 1) (set l (q - 1) v) k 0) ∙ ap (λ (s : List ℕ). get_or s k 0) (set_before l q v h u)

-- ---- a store

-- What holds at the place of a store, and elsewhere.
pub at_set : (P : ℕ → Type 0) (l : List ℕ) (q v k : ℕ) → q < length l → (k ≡ q → P v) → ((k ≡ q → ⊥) → P (get_or l k 0)) → P (get_or (set l q v) k 0)
at_set P l q v k h f g =
    ⊎_elim
    (λ t. let e = eqb→eq k q t in rw (e, get_or-set_same l q v 0 h) (f e))
    (λ t. let o : k ≡ q → ⊥ = neqb_ne k q t in rw (get_or-set_other l q k v 0 o) (g o))
    (test (eqb k q))

-- ---- neighbours

pub ne_lt : (m n : ℕ) → m ≤ n → (m ≡ n → ⊥) → m < n
ne_lt m n h o = ⊎_elim (λ t. ltb→lt m n t) (λ t. absurd (o (omega (arith, nltb→le m n t)))) (test (ltb m n))

pub below_next : (k q : ℕ) → k < q + 1 → (k ≡ q → ⊥) → k < q
below_next k q h o = ne_lt k q (omega arith) o

pub above_next : (k q : ℕ) → q ≤ k → (k ≡ q → ⊥) → q + 1 ≤ k
above_next k q h o = omega (arith, ne_lt q k h (λ e. o (sym e)))

-- One place fewer is left of a table.
pub fewer : (n q : ℕ) → q < n → n - (q + 1) < n - q
fewer n q h = omega arith

-- ---- what holds of each

pub all_at : (P : ℕ → Type 0) (l : List ℕ) (k : ℕ) → k < length l → All P l → P (get_or l k 0)
all_at P [] k h a = absurd (omega arith)
all_at P (x ∷ l) zero h a = a.0
all_at P (x ∷ l) (suc k) h a = all_at P l k (omega arith) a.1

pub all_from : (P : ℕ → Type 0) (l : List ℕ) (first k : ℕ) → All P (drop first l) → first ≤ k → k < length l → P (get_or l k 0)
all_from P l first k a h u =
    let e : first + (k - first) ≡ k = omega arith in
    rw e at (rw (get_or-drop first l (k - first) 0) at (all_at P (drop first l) (k - first) (rw length-drop (omega arith)) a))

pub all_take : (P : ℕ → Type 0) (n : ℕ) (l : List ℕ) → All P l → All P (take n l)
all_take P zero l a = tt
all_take P (suc n) [] a = tt
all_take P (suc n) (x ∷ l) a = (a.0, all_take P n l a.1)

pub all_drop : (P : ℕ → Type 0) (n : ℕ) (l : List ℕ) → All P l → All P (drop n l)
all_drop P zero l a = a
all_drop P (suc n) [] a = tt
all_drop P (suc n) (x ∷ l) a = all_drop P n l a.1

pub all_each : (P : ℕ → Type 0) (l : List ℕ) → ((k : ℕ) → P (get_or l k 0)) → All P l
all_each P [] h = tt
all_each P (x ∷ l) h = (h 0, all_each P l (λ k. h (suc k)))

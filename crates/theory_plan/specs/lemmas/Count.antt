-- Lemmas. Sums over the rows of a list: rows that pass a test, rows between two slots (double
-- counting), the rows of a chunk by layer. Section 2 of the argument.
use Rattle.std.specs.Prelude.{ℕ, ◌+◌, ◌≤◌, ◌<◌, ◌≡◌, Bool, true, false, cond, ◌&&◌, List, [], ◌∷◌, T, eqb}
use Rattle.std.proofs.Common.{sym, ⊎_elim, inl, inr, arith, T_not}
use Rattle.theory_basics.specs.Sums.{pre, sum}
use Rattle.theory_basics.specs.lemmas.Ranges.{pre_add, pre_mono, point, point_in, point_out, sum_add, sum_at, sum_zero}
use Rattle.theory_basics.specs.Tests.{All, In, any, here, there}
use Rattle.theory_basics.specs.lemmas.Tests.{T_or_iff, by_cond, test}
use Rattle.fetch.specs.Rows.{Row, bytes_if, bytes_in_slot, bytes_of_layer}
use Rattle.theory_plan.specs.lemmas.Words.{bytes_of_chunk}

-- ---- rows that pass a test

-- A row that passes, where some row does.
pub some_row : (p : Row → Bool) (l : List Row) → T (any p l) → (x : Row) × In x l × T (p x)
some_row p [] t = absurd t
some_row p (x ∷ xs) t =
    ⊎_elim
    (λ u. (x, here, u))
    (λ u. let r = some_row p xs u in (r.0, there r.1, r.2))
    ((T_or_iff (p x) (any p xs)).0 t)

-- Where rows that pass have bytes, some row passes.
pub sum_any : (p q : Row → Bool) → ((x : Row) → T (p x) → T (q x)) → (l : List Row) → 1 ≤ bytes_if p l → T (any q l)
sum_any p q f [] h = absurd (omega arith)
sum_any p q f (x ∷ xs) h =
    (T_or_iff (q x) (any q xs)).1
    (⊎_elim
    (λ t. inl (f x t))
    (λ t. inr (sum_any p q f xs (omega (arith, by_cond (λ n. n ≤ 0) (p x) {x = x.bytes} {y = 0} (λ u. absurd (T_not (p x) t u)) (λ u. omega arith)))))
    (test (p x)))

-- Two tests that exclude each other and each imply a third.
bytes_disjoint_row : (p q r : Bool) (b : ℕ) → (T p → T r) → (T q → T r) → (T p → T q → ⊥) → cond p b 0 + cond q b 0 ≤ cond r b 0
bytes_disjoint_row true true r b f g h = absurd (h tt tt)
bytes_disjoint_row true false true b f g h = omega arith
bytes_disjoint_row true false false b f g h = absurd (f tt)
bytes_disjoint_row false true true b f g h = omega arith
bytes_disjoint_row false true false b f g h = absurd (g tt)
bytes_disjoint_row false false r b f g h = omega arith

pub bytes_disjoint :
    (P Q R : Row → Bool) → ((x : Row) → T (P x) → T (R x)) → ((x : Row) → T (Q x) → T (R x)) → ((x : Row) → T (P x) → T (Q x) → ⊥) →
    (l : List Row) → bytes_if P l + bytes_if Q l ≤ bytes_if R l
bytes_disjoint P Q R f g h [] = omega arith
bytes_disjoint P Q R f g h (x ∷ xs) =
    omega (arith, bytes_disjoint_row (P x) (Q x) (R x) x.bytes (f x) (g x) (h x), bytes_disjoint P Q R f g h xs)

pub bytes_mono : (P R : Row → Bool) → ((x : Row) → T (P x) → T (R x)) → (l : List Row) → bytes_if P l ≤ bytes_if R l
bytes_mono P R f l = omega (arith, bytes_disjoint P (λ x. false) R f (λ x u. absurd u) (λ x t u. u) l)

-- ---- rows by their slot

between_row : (c : Bool) (s b q d : ℕ) → q ≤ d → (T c → (q < s) × (s ≤ d)) → cond c b 0 + pre (point s b) q ≤ pre (point s b) d
between_row true s b q d l h = let i = h tt in omega (arith, point_out s b q i.0, point_in s b d (omega arith) i.1)
between_row false s b q d l h = omega (arith, pre_mono (point s b) q d l)

-- Double counting: rows that pass P and lie in the slots q + 1 .. d sum to at most what those slots
-- hold.
pub bytes_between :
    (P : Row → Bool) (q d : ℕ) (l : List Row) → q ≤ d → All (λ x. T (P x) → (q < x.slot) × (x.slot ≤ d)) l →
    bytes_if P l + pre (bytes_in_slot l) q ≤ pre (bytes_in_slot l) d
bytes_between P q d [] h a = omega (arith, pre_mono (bytes_in_slot []) q d h)
bytes_between P q d (x ∷ xs) h a =
    omega (
      arith,
      between_row (P x) x.slot x.bytes q d h a.0,
      bytes_between P q d xs h a.1,
      pre_add (point x.slot x.bytes) (bytes_in_slot xs) q,
      pre_add (point x.slot x.bytes) (bytes_in_slot xs) d,
    )

-- ---- the rows of a chunk by their layer

pub chunk_by_layers : (i n : ℕ) (l : List Row) → All (λ x. x.layer < n) l → bytes_of_chunk l i ≡ sum (bytes_of_layer l i) n
chunk_by_layers i n [] a = sym (sum_zero n)
chunk_by_layers i n (x ∷ xs) a =
    omega (
      arith,
      sum_at (eqb x.chunk i) x.layer x.bytes n a.0,
      chunk_by_layers i n xs a.1,
      sum_add (λ t. cond (eqb x.chunk i && eqb x.layer t) x.bytes 0) (bytes_of_layer xs i) n,
    )

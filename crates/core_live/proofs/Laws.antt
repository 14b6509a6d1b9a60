-- Laws on the scans over the chunks, of plain tests and lists. Assumes nothing.
use Prim.Native.Nat.{ℕ, suc, ◌+◌, ◌≤◌}
use mathlib.Core.Path.{◌≡◌, refl}
use mathlib.Core.Bool.{Bool, true, false, cond, not}
use mathlib.Core.Logic.{⊎_elim}
use native.Mathlib.Omega.{arith}
use native.Mathlib.Numerals.{add-one}
use mir.Val.{bool_byte}
use lib.Dec.{T, eqb, T_not, ltb, ltb→lt, nltb→le}
use Rattle.theory_basics.specs.lemmas.Tests.{last, test}
use Rattle.theory_live.specs.Statement.{first_that}
use Rattle.theory_live.specs.lemmas.Firsts.{found}

-- ---- a test as a number

pub byte_is : (b : Bool) → bool_byte b ≡ cond b 1 0
byte_is true = refl
byte_is false = refl

pub byte_says : (b : Bool) → eqb (bool_byte b) 1 ≡ b
byte_says true = refl
byte_says false = refl

-- ---- the first that passes

-- None of 1 .. i passes.
abbrev pub Clear : (ℕ → Bool) → ℕ → Type 0
Clear f i = (n : ℕ) → 1 ≤ n → n ≤ i → T (not (f n))

pub clear_more : (f : ℕ → Bool) (i : ℕ) → Clear f i → f (i + 1) ≡ false → Clear f (i + 1)
clear_more f i h e n u v =
    ⊎_elim
    (λ l. h n u l)
    (λ (q : n ≡ suc i). let z : n ≡ i + 1 = omega (arith, add-one i) in rw (z, e) tt)
    (last n i (omega (arith, add-one i)))

-- The next one passes: it is the first.
pub first_here : (f : ℕ → Bool) (i n : ℕ) → Clear f i → T (f (i + 1)) → i + 1 ≤ n → i + 1 ≡ first_that f n
first_here f i n h t l =
    let w = found f n in
    let k = first_that f n in
    let up : k ≤ i + 1 =
    ⊎_elim (λ u. absurd (T_not (f (i + 1)) (w.before (i + 1) (omega arith) (ltb→lt (i + 1) k u)) t)) (λ u. nltb→le (i + 1) k u) (test (ltb (i + 1) k)) in
    let down : i + 1 ≤ k =
    ⊎_elim
    (λ u. let m = ltb→lt k (i + 1) u in absurd (T_not (f k) (h k w.low (omega arith)) (w.passes (omega arith))))
    (λ u. nltb→le k (i + 1) u)
    (test (ltb k (i + 1))) in
    omega (arith, up, down)

-- None passes.
pub first_none : (f : ℕ → Bool) (n : ℕ) → Clear f n → n + 1 ≡ first_that f n
first_none f n h =
    let w = found f n in
    let k = first_that f n in
    let down : n + 1 ≤ k =
    ⊎_elim
    (λ u. let m = ltb→lt k (n + 1) u in absurd (T_not (f k) (h k w.low (omega arith)) (w.passes (omega arith))))
    (λ u. nltb→le k (n + 1) u)
    (test (ltb k (n + 1))) in
    omega (arith, w.at_most, down)

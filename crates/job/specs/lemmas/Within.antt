-- Lemmas. Numbers within a range: what a table of them has at each place, and the least and the
-- most size of an accepted job. Assumes nothing.
use Rattle.std.specs.Prelude.{ℕ, zero, suc, ◌≤◌, ◌<◌, ◌&&◌, List, [], ◌∷◌, length, get_or, eqb}
use Rattle.std.proofs.Common.{arith}
use Rattle.theory_basics.specs.Tests.{All}
use Rattle.theory_basics.specs.lemmas.Tests.{by_cond}
use Rattle.job.specs.Job.{Accepted, Job, Override, Within, layers, size, size_in}

-- Past the end it has 0.
pub all_most : (lo most : ℕ) (l : List ℕ) → All (Within lo most) l → (k : ℕ) → get_or l k 0 ≤ most
all_most lo most [] a k = omega arith
all_most lo most (x ∷ l) a zero = a.0.high
all_most lo most (x ∷ l) a (suc k) = all_most lo most l a.1 k

pub all_least : (lo most : ℕ) (l : List ℕ) → All (Within lo most) l → (k : ℕ) → k < length l → lo ≤ get_or l k 0
all_least lo most [] a k h = absurd (omega arith)
all_least lo most (x ∷ l) a zero h = a.0.low
all_least lo most (x ∷ l) a (suc k) h = all_least lo most l a.1 k (omega arith)

abbrev Sizes : List Override → Type 0
Sizes os = All (λ (o : Override). Within 1 16777216 o.bytes) os

size_in_least : (sizes : List ℕ) (os : List Override) (i n : ℕ) → All (Within 1 16777216) sizes → Sizes os → n < length sizes → 1 ≤ size_in sizes os i n
unfolding size_in
size_in_least sizes [] i n a b h = all_least 1 16777216 sizes a n h
size_in_least sizes (o ∷ os) i n a b h =
    by_cond (λ (m : ℕ). 1 ≤ m) (eqb o.chunk i && eqb o.layer n) (λ t. b.0.low) (λ t. size_in_least sizes os i n a b.1 h)

size_in_most : (sizes : List ℕ) (os : List Override) (i n : ℕ) → All (Within 1 16777216) sizes → Sizes os → size_in sizes os i n ≤ 16777216
unfolding size_in
size_in_most sizes [] i n a b = all_most 1 16777216 sizes a n
size_in_most sizes (o ∷ os) i n a b =
    by_cond (λ (m : ℕ). m ≤ 16777216) (eqb o.chunk i && eqb o.layer n) (λ t. b.0.high) (λ t. size_in_most sizes os i n a b.1)

-- Every layer of an accepted job has at least a byte, in each chunk,
pub size_least : (j : Job) → Accepted j → (i n : ℕ) → n < layers j → 1 ≤ size j i n
size_least j a i n h = size_in_least j.sizes j.overrides i n a.sizes_in_lem a.overrides_in_lem h

-- and none has more than 16,777,216.
pub size_most : (j : Job) → Accepted j → (i n : ℕ) → size j i n ≤ 16777216
size_most j a i n = size_in_most j.sizes j.overrides i n a.sizes_in_lem a.overrides_in_lem

-- Lemmas. Ascending lists of numbers: where their elements lie, and that each counts.
use Rattle.std.specs.Prelude.{ℕ, zero, suc, ◌+◌, ◌≤◌, ◌<◌, Bool, List, [], ◌∷◌, T, length, get_or, drop}
use Rattle.std.proofs.Common.{arith}
use Rattle.theory_basics.specs.Sums.{count}
use Rattle.theory_basics.specs.lemmas.Ranges.{pre_mono, bit, count_step}
use Rattle.theory_basics.specs.Tests.{All}
use Rattle.job.specs.Job.{Within}
pub use Rattle.theory_plan.specs.Bases.{Asc}

pub asc_lower : (lo lo' hi : ℕ) (ks : List ℕ) → lo ≤ lo' → Asc lo' hi ks → Asc lo hi ks
asc_lower lo lo' hi [] h a = tt
asc_lower lo lo' hi (k ∷ ks) h a = (omega arith, a.1, a.2)

-- Each lies in a range that holds lo .. hi.
pub asc_within : (lo hi low high : ℕ) (ks : List ℕ) → low ≤ lo → hi ≤ high → Asc lo hi ks → All (Within low high) ks
asc_within lo hi low high [] l h a = tt
asc_within lo hi low high (k ∷ ks) l h a = (record { low = omega arith; high = omega arith }, asc_within (suc k) hi low high ks (omega arith) h a.2)

pub asc_nth : (lo hi : ℕ) (ks : List ℕ) (n : ℕ) → n < length ks → Asc lo hi ks → (lo ≤ get_or ks n 0) × (get_or ks n 0 ≤ hi)
asc_nth lo hi [] n h a = absurd (omega arith)
asc_nth lo hi (k ∷ ks) zero h a = (a.0, a.1)
asc_nth lo hi (k ∷ ks) (suc n) h a = let r = asc_nth (suc k) hi ks n (omega arith) a.2 in omega arith

-- From its n-th element on, a list ascends from that element.
pub asc_drop : (lo hi : ℕ) (ks : List ℕ) (n : ℕ) → Asc lo hi ks → Asc (get_or ks n 0) hi (drop n ks)
asc_drop lo hi [] zero a = tt
asc_drop lo hi [] (suc n) a = tt
asc_drop lo hi (k ∷ ks) zero a = (omega arith, a.1, a.2)
asc_drop lo hi (k ∷ ks) (suc n) a = asc_drop (suc k) hi ks n a.2

-- Without its first elements it still ascends from lo.
pub asc_without : (lo hi : ℕ) (ks : List ℕ) (n : ℕ) → Asc lo hi ks → Asc lo hi (drop n ks)
asc_without lo hi ks zero a = a
asc_without lo hi [] (suc n) a = tt
asc_without lo hi (k ∷ ks) (suc n) a = asc_without lo hi ks n (asc_lower lo (suc k) hi ks (omega arith) a.2)

-- Each element lies in lo .. hi.
pub asc_each : (lo hi : ℕ) (ks : List ℕ) → Asc lo hi ks → All (λ k. (lo ≤ k) × (k ≤ hi)) ks
asc_each lo hi [] a = tt
asc_each lo hi (k ∷ ks) a = ((a.0, a.1), asc_each lo hi ks (asc_lower lo (suc k) hi ks (omega arith) a.2))

-- The elements up to the n-th count, if a test passes at each of them.
pub count_to_nth :
    (p : ℕ → Bool) (P : ℕ → Type 0) (lo hi : ℕ) (ks : List ℕ) (n : ℕ) → n < length ks → Asc (suc lo) hi ks → All P ks →
    ((e : ℕ) → lo < e → e ≤ get_or ks n 0 → P e → T (p e)) → suc n + count p lo ≤ count p hi
count_to_nth p P lo hi [] n h a m f = absurd (omega arith)
count_to_nth p P lo hi (k ∷ ks) zero h a m f =
    omega (arith, count_step p lo k a.0 (f k a.0 (omega arith) m.0), pre_mono (λ i. bit (p i)) k hi a.1)
count_to_nth p P lo hi (k ∷ ks) (suc n) h a m f =
    let r = asc_nth (suc k) hi ks n (omega arith) a.2 in
    omega (
      arith,
      count_step p lo k a.0 (f k a.0 (omega arith) m.0),
      count_to_nth p P k hi ks n (omega arith) a.2 m.1 (λ e u v w. f e (omega arith) v w),
    )

-- All elements count, if a test passes at each of them.
pub count_all :
    (p : ℕ → Bool) (lo hi : ℕ) (ks : List ℕ) → lo ≤ hi → Asc (suc lo) hi ks → All (λ e. T (p e)) ks →
    length ks + count p lo ≤ count p hi
count_all p lo hi [] h a m = omega (arith, pre_mono (λ i. bit (p i)) lo hi h)
count_all p lo hi (k ∷ ks) h a m = count_to_nth p (λ e. T (p e)) lo hi (k ∷ ks) (length ks) (omega arith) a m (λ e u v t. t)

-- Lemmas. When kept chunks fit: the need of a list of chunks, first to last, and the test by
-- suffixes. Section 1 of the argument. Throughout, w k are the bytes of chunk k, d k its due slot,
-- A t what is forecast after slot t, and h how many chunks may be held.
use Rattle.std.specs.Prelude.{ℕ, zero, suc, ◌*◌, ◌-◌, ◌≤◌, max, List, [], ◌∷◌, ◌↔◌, drop, length, T}
use Rattle.std.proofs.Common.{arith, drop_of_length-le}
use Rattle.theory_basics.specs.Tests.{All}
use Rattle.theory_basics.specs.lemmas.Tests.{tests}
use Rattle.theory_basics.specs.lemmas.Tables.{all_drop}
use Rattle.theory_plan.specs.lemmas.Feasible.{feas, need_of, tails}

-- For each chunk, those from h places behind it on fit into the slots from its due slot on.
abbrev pub Tails : (w d A : ℕ → ℕ) (h : ℕ) → List ℕ → Type 0
Tails w d A h [] = Unit {0}
Tails w d A h (k ∷ ks) = (need_of w d A (drop h (k ∷ ks)) ≤ A (d k - 1)) × Tails w d A h ks

-- The chunks fit: all of them into the whole forecast, and each behind the chunk that must be gone
-- when it begins.
pub record Feas (w d A : ℕ → ℕ) (h : ℕ) (ks : List ℕ) : Type 0 where
  pub whole : need_of w d A ks ≤ A 0
  pub tails : Tails w d A h ks

-- ---- as tests

tails_iff : (w d A : ℕ → ℕ) (h : ℕ) (ks : List ℕ) → T (tails w d A h ks) ↔ Tails w d A h ks
tails_iff w d A h [] = (λ t. tt, λ t. tt)
tails_iff w d A h (k ∷ ks) =
    let r = tails_iff w d A h ks in (
      λ t. let u = simp tests at t in (u.0, r.0 u.1),
      λ u. simp tests (u.0, r.1 u.1),
    )

pub feas_iff : (w d A : ℕ → ℕ) (h : ℕ) (ks : List ℕ) → T (feas w d A h ks) ↔ Feas w d A h ks
unfolding feas
feas_iff w d A h ks =
    let r = tails_iff w d A h ks in (
      λ t. let u = simp tests at t in record { whole = u.0; tails = r.0 u.1 },
      λ f. simp tests (f.whole, r.1 f.tails),
    )

-- ---- fewer and lighter chunks need less

-- Without its first n chunks, of at least z bytes each, a list needs n × z bytes less, or nothing.
pub need_without :
    (w d A : ℕ → ℕ) (z : ℕ) → ((k : ℕ) → z ≤ w k) → (ks : List ℕ) (n : ℕ) → need_of w d A (drop n ks) ≤ need_of w d A ks - n * z
need_without w d A z f ks zero = omega arith
need_without w d A z f [] (suc n) = omega arith
need_without w d A z f (k ∷ ks) (suc n) = omega (arith, need_without w d A z f ks n, f k)

pub need_drop : (w d A : ℕ → ℕ) (ks : List ℕ) (n : ℕ) → need_of w d A (drop n ks) ≤ need_of w d A ks
need_drop w d A ks n = omega (arith, need_without w d A 0 (λ k. omega arith) ks n)

pub tails_drop : (w d A : ℕ → ℕ) (h : ℕ) (ks : List ℕ) (n : ℕ) → Tails w d A h ks → Tails w d A h (drop n ks)
tails_drop w d A h ks zero f = f
tails_drop w d A h [] (suc n) f = tt
tails_drop w d A h (k ∷ ks) (suc n) f = tails_drop w d A h ks n f.1

-- What fits, fits without its first chunk.
pub feas_tail : (w d A : ℕ → ℕ) (h k : ℕ) (ks : List ℕ) → Feas w d A h (k ∷ ks) → Feas w d A h ks
feas_tail w d A h k ks f = record { whole = omega (arith, f.whole); tails = f.tails.1 }

pub need_mono : (v w d A : ℕ → ℕ) (ks : List ℕ) → All (λ k. v k ≤ w k) ks → need_of v d A ks ≤ need_of w d A ks
need_mono v w d A [] a = omega arith
need_mono v w d A (k ∷ ks) a = omega (arith, need_mono v w d A ks a.1, a.0)

tails_mono : (v w d A : ℕ → ℕ) (h : ℕ) (ks : List ℕ) → All (λ k. v k ≤ w k) ks → Tails w d A h ks → Tails v d A h ks
tails_mono v w d A h [] a t = tt
tails_mono v w d A h (k ∷ ks) a t =
    (omega (arith, need_mono v w d A (drop h (k ∷ ks)) (all_drop (λ k. v k ≤ w k) h (k ∷ ks) a), t.0), tails_mono v w d A h ks a.1 t.1)

pub feas_mono : (v w d A : ℕ → ℕ) (h : ℕ) (ks : List ℕ) → All (λ k. v k ≤ w k) ks → Feas w d A h ks → Feas v d A h ks
feas_mono v w d A h ks a f = record { whole = omega (arith, need_mono v w d A ks a, f.whole); tails = tails_mono v w d A h ks a f.tails }

-- Chunks that need, from each place on, no more than one or the other of two that fit.
tails_max :
    (t u v d A : ℕ → ℕ) (h : ℕ) (ks : List ℕ) →
    ((m : ℕ) → need_of t d A (drop m ks) ≤ max (need_of u d A (drop m ks)) (need_of v d A (drop m ks))) → Tails u d A h ks →
    Tails v d A h ks → Tails t d A h ks
tails_max t u v d A h [] f a b = tt
tails_max t u v d A h (k ∷ ks) f a b = (omega (arith, f h, a.0, b.0), tails_max t u v d A h ks (λ m. f (suc m)) a.1 b.1)

pub feas_max :
    (t u v d A : ℕ → ℕ) (h : ℕ) (ks : List ℕ) →
    ((m : ℕ) → need_of t d A (drop m ks) ≤ max (need_of u d A (drop m ks)) (need_of v d A (drop m ks))) → Feas u d A h ks → Feas v d A h ks →
    Feas t d A h ks
feas_max t u v d A h ks f a b = record { whole = omega (arith, f 0, a.whole, b.whole); tails = tails_max t u v d A h ks f a.tails b.tails }

-- No more chunks than may be held: nothing is asked but the whole.
pub tails_few : (w d A : ℕ → ℕ) (h : ℕ) (ks : List ℕ) → length ks ≤ h → Tails w d A h ks
tails_few w d A h [] l = tt
tails_few w d A h (k ∷ ks) l = (rw (drop_of_length-le (k ∷ ks) l) (omega arith), tails_few w d A h ks (omega arith))

-- Lemmas. The numbers of a range that pass a test, as an ascending list: the kept chunks are those.
use Rattle.std.specs.Prelude.{ℕ, zero, suc, ◌+◌, ◌≤◌, ◌<◌, ◌≡◌, refl, Bool, true, false, cond, List, [], ◌∷◌, length, drop, T, leb}
use Rattle.std.proofs.Common.{ap, ◌∙◌, ⊎_elim, arith, eq-eqb, ne_eqb, leb→le, subst, sym}
use Rattle.std.proofs.Math.Dec.{nleb→lt}
use Rattle.theory_basics.specs.Sums.{count}
use Rattle.theory_basics.specs.Tests.{All}
use Rattle.theory_basics.specs.lemmas.Tests.{by_cond, test}
use Rattle.theory_plan.specs.lemmas.Ascending.{asc_lower}
use Rattle.theory_basics.specs.lemmas.Ranges.{bit}
use Rattle.theory_plan.specs.lemmas.Need.{Feas}
use Rattle.theory_plan.specs.Plan.{picked}
use Rattle.theory_plan.specs.lemmas.Feasible.{need_of}
pub use Rattle.theory_plan.specs.lemmas.Need.{feas_mono, need_mono}
use Rattle.theory_basics.specs.Lists.{has}
use Rattle.theory_plan.specs.Bases.{Asc}
use Rattle.theory_plan.specs.lemmas.Queue.{has_low}

-- ---- what is picked

pub picked_asc : (p : ℕ → Bool) (lo n c : ℕ) → n + lo ≤ c → Asc (suc lo) c (picked p lo n)
picked_asc p lo zero c h = tt
picked_asc p lo (suc n) c h =
    let r = picked_asc p (suc lo) n c (omega arith) in
    by_cond (Asc (suc lo) c) (p (suc lo)) (λ t. (omega arith, omega arith, r)) (λ t. asc_lower (suc lo) (suc (suc lo)) c (picked p (suc lo) n) (omega arith) r)

pub picked_each : (p : ℕ → Bool) (P : ℕ → Type 0) (lo n : ℕ) → ((i : ℕ) → lo < i → i ≤ n + lo → T (p i) → P i) → All P (picked p lo n)
picked_each p P lo zero f = tt
picked_each p P lo (suc n) f =
    let r = picked_each p P (suc lo) n (λ i u v t. f i (omega arith) (omega arith) t) in
    by_cond (All P) (p (suc lo)) (λ t. (f (suc lo) (omega arith) (omega arith) t, r)) (λ t. r)

pub has_picked : (p : ℕ → Bool) (lo n i : ℕ) → lo < i → i ≤ n + lo → has (picked p lo n) i ≡ p i
has_picked p lo zero i g h = absurd (omega arith)
has_picked p lo (suc n) i g h =
    ⊎_elim
    (λ t.
    let e : suc lo ≡ i = omega (arith, leb→le i (suc lo) t) in
    let a = picked_asc p (suc lo) n (n + suc lo) (omega arith) in
    rw (← e) (front (p (suc lo)) (has_low (suc (suc lo)) (n + suc lo) (picked p (suc lo) n) (suc lo) a (omega arith))))
    (λ t. let u : suc lo < i = nleb→lt i (suc lo) t in behind (p (suc lo)) u (has_picked p (suc lo) n i u (omega arith)))
    (test (leb i (suc lo)))
  where
    front :
        (b : Bool) → has (picked p (suc lo) n) (suc lo) ≡ false →
        has (cond b (suc lo ∷ picked p (suc lo) n) (picked p (suc lo) n)) (suc lo) ≡ b
    front true e = rw (eq-eqb (suc lo) (suc lo) refl)
    front false e = e

    behind :
        (b : Bool) → suc lo < i → has (picked p (suc lo) n) i ≡ p i →
        has (cond b (suc lo ∷ picked p (suc lo) n) (picked p (suc lo) n)) i ≡ p i
    behind true u e = rw (ne_eqb (suc lo) i (omega arith)) e
    behind false u e = e

-- What is picked depends on the test within the range alone.
pub picked_cong : (p q : ℕ → Bool) (lo n : ℕ) → ((i : ℕ) → lo < i → i ≤ n + lo → p i ≡ q i) → picked p lo n ≡ picked q lo n
picked_cong p q lo zero f = refl
picked_cong p q lo (suc n) f =
    rw (f (suc lo) (omega arith) (omega arith), picked_cong p q (suc lo) n (λ i u v. f i (omega arith) (omega arith)))

-- An ascending list is what its members pick.
pub picked_has : (lo n hi : ℕ) (ks : List ℕ) → hi ≤ n + lo → Asc (suc lo) hi ks → picked (has ks) lo n ≡ ks
picked_has lo zero hi [] h a = refl
picked_has lo zero hi (k ∷ ks) h a = absurd (omega (arith, a.0, a.1))
picked_has lo (suc n) hi [] h a = picked_has (suc lo) n hi [] (omega arith) tt
picked_has lo (suc n) hi (k ∷ ks) h a =
    ⊎_elim
    (λ t.
    let e : k ≡ suc lo = omega (arith, leb→le k (suc lo) t, a.0) in
    let r : picked (has ks) (suc lo) n ≡ ks = picked_has (suc lo) n hi ks (omega arith) (rw e at a.2) in
    subst
    (λ (x : ℕ). picked (has (x ∷ ks)) lo (suc n) ≡ x ∷ ks)
    (sym e)
    (rw (eq-eqb (suc lo) (suc lo) refl) (ap (λ (l : List ℕ). suc lo ∷ l) (behind ks ∙ r))))
    (λ t.
    let b : Asc (suc (suc lo)) hi (k ∷ ks) = (nleb→lt k (suc lo) t, a.1, a.2) in
    rw (has_low (suc (suc lo)) hi (k ∷ ks) (suc lo) b (omega arith)) (picked_has (suc lo) n hi (k ∷ ks) (omega arith) b))
    (test (leb k (suc lo)))
  where
    behind : (ks : List ℕ) → picked (has (suc lo ∷ ks)) (suc lo) n ≡ picked (has ks) (suc lo) n
    behind ks = picked_cong (has (suc lo ∷ ks)) (has ks) (suc lo) n (λ i u v. rw (ne_eqb (suc lo) i (omega arith)))

-- ---- picked chunks that are lighter need less

pub need_picked :
    (v w d A : ℕ → ℕ) (p : ℕ → Bool) (lo n : ℕ) → ((i : ℕ) → lo < i → i ≤ n + lo → T (p i) → v i ≤ w i) →
    need_of v d A (picked p lo n) ≤ need_of w d A (picked p lo n)
need_picked v w d A p lo n f = need_mono v w d A (picked p lo n) (picked_each p (λ k. v k ≤ w k) lo n f)

pub feas_picked :
    (v w d A : ℕ → ℕ) (h : ℕ) (p : ℕ → Bool) (lo n : ℕ) → ((i : ℕ) → lo < i → i ≤ n + lo → T (p i) → v i ≤ w i) →
    Feas w d A h (picked p lo n) → Feas v d A h (picked p lo n)
feas_picked v w d A h p lo n f = feas_mono v w d A h (picked p lo n) (picked_each p (λ k. v k ≤ w k) lo n f)

-- ---- how many

pub length_picked_le : (p : ℕ → Bool) (lo n : ℕ) → length (picked p lo n) ≤ n
length_picked_le p lo zero = omega arith
length_picked_le p lo (suc n) =
    let r = length_picked_le p (suc lo) n in
    by_cond (λ (ks : List ℕ). length ks ≤ suc n) (p (suc lo)) {x = suc lo ∷ picked p (suc lo) n} {y = picked p (suc lo) n} (λ t. omega arith) (λ t. omega arith)

pub length_picked : (p : ℕ → Bool) (lo n : ℕ) → count p (n + lo) ≡ length (picked p lo n) + count p lo
length_picked p lo zero = let e : 0 + lo ≡ lo = omega arith in rw e (omega arith)
length_picked p lo (suc n) =
    let e : suc n + lo ≡ n + suc lo = omega arith in
    rw e (omega (arith, length_picked p (suc lo) n, one_more (p (suc lo))))
  where
    one_more : (b : Bool) → length (picked p (suc lo) n) + bit b ≡ length (cond b (suc lo ∷ picked p (suc lo) n) (picked p (suc lo) n))
    one_more true = omega arith
    one_more false = omega arith

-- ---- parts of what is picked

-- Where nothing passes at the front, the front may be left out.
pub picked_skip :
    (p : ℕ → Bool) (lo m n : ℕ) → ((i : ℕ) → lo < i → i ≤ m + lo → p i ≡ false) → picked p lo (m + n) ≡ picked p (m + lo) n
picked_skip p lo zero n f = let e : 0 + n ≡ n = omega arith in let e' : 0 + lo ≡ lo = omega arith in rw (e, e')
picked_skip p lo (suc m) n f =
    let e : suc m + n ≡ suc (m + n) = omega arith in
    let e' : suc m + lo ≡ m + suc lo = omega arith in
    rw (e, e', f (suc lo) (omega arith) (omega arith)) (picked_skip p (suc lo) m n (λ i u v. f i (omega arith) (omega arith)))

-- Each suffix of what is picked is what is picked behind some number.
abbrev PickedBehind : (ℕ → Bool) → List ℕ → ℕ → ℕ → Type 0
PickedBehind p ks lo n = (b : ℕ) × (k : ℕ) × (b + k ≡ lo + n) × (lo ≤ b) × (ks ≡ picked p b k)

behind_either :
    (p : ℕ → Bool) (m lo n : ℕ) (c : Bool) → PickedBehind p (drop m (picked p (suc lo) n)) (suc lo) n →
    PickedBehind p (drop (suc m) (picked p (suc lo) n)) (suc lo) n →
    PickedBehind p (drop (suc m) (cond c (suc lo ∷ picked p (suc lo) n) (picked p (suc lo) n))) lo (suc n)
behind_either p m lo n true r s = (r.0, r.1, omega (arith, r.2), omega (arith, r.3), r.4)
behind_either p m lo n false r s = (s.0, s.1, omega (arith, s.2), omega (arith, s.3), s.4)

pub picked_drop : (p : ℕ → Bool) (m lo n : ℕ) → PickedBehind p (drop m (picked p lo n)) lo n
picked_drop p zero lo n = (lo, n, refl, omega arith, refl)
picked_drop p (suc m) lo zero = (lo, 0, refl, omega arith, refl)
picked_drop p (suc m) lo (suc n) = behind_either p m lo n (p (suc lo)) (picked_drop p m (suc lo) n) (picked_drop p (suc m) (suc lo) n)

-- Lemmas. The stack of Trials.antt keeps the bases that the plan keeps, for any sizes; what fits
-- behind releases, and marks of levels. Assumes nothing. Section 4 of the argument.
use Rattle.std.specs.Prelude.{ℕ, zero, suc, ◌+◌, ◌-◌, ◌≤◌, ◌<◌, min, ◌≡◌, refl, Bool, true, false, cond, List, [], ◌∷◌, ◌++◌, map, ◌↔◌, get_or, drop, T, leb, ltb, eqb}
use Rattle.std.proofs.Common.{ap, ◌∙◌, ⊎_elim, arith, add-one, eq-eqb, ne_eqb, lt-ltb, le-ltb, drop-drop, ltb→lt, nltb→le, eqb→eq, subst, sym}
use Rattle.theory_basics.specs.Sums.{sum}
use Rattle.theory_basics.specs.lemmas.Ranges.{sum_cong}
use Rattle.theory_basics.specs.lemmas.Tests.{by_cond, same_test, test, tests, neqb_ne}
use Rattle.theory_basics.specs.lemmas.Tables.{ne_lt}
use Rattle.theory_basics.specs.Tests.{All}
use Rattle.job.specs.Job.{Job, chunks, due, held_most, size}
use Rattle.fetch.specs.Marks.{bit, with_layer}
use Rattle.fetch.specs.Rows.{mark_byte}
use Rattle.fetch.specs.lemmas.Marks.{mark_bit, mark_cong, mark_high, with_next}
use Rattle.theory_plan.specs.lemmas.Base.{base_picks}
use Rattle.theory_plan.specs.lemmas.Choice.{Fits}
use Rattle.theory_plan.specs.Plan.{picked, tried, after}
use Rattle.theory_plan.specs.lemmas.Feasible.{need_of}
use Rattle.theory_plan.specs.lemmas.Need.{Feas, Tails, need_mono}
use Rattle.theory_plan.specs.lemmas.Trials.{Stack, candidate, keeps, push, bases, level_mark}
use Rattle.theory_plan.specs.lemmas.Queue.{RelOk, feas_relok, ones, releases}

-- ---- the base

-- What the stack holds.
abbrev pub needs_of_lem : (w d A : ℕ → ℕ) → List ℕ → List ℕ
needs_of_lem w d A [] = []
needs_of_lem w d A (k ∷ ks) = need_of w d A (k ∷ ks) ∷ needs_of_lem w d A ks

pub needs_at : (w d A : ℕ → ℕ) (ks : List ℕ) (h : ℕ) → get_or (needs_of_lem w d A ks) h 0 ≡ need_of w d A (drop h ks)
needs_at w d A [] zero = refl
needs_at w d A [] (suc h) = refl
needs_at w d A (k ∷ ks) zero = refl
needs_at w d A (k ∷ ks) (suc h) = needs_at w d A ks h

-- The need of a chunk in front of a set, from the set's stack.
pub candidate_is : (s d A : ℕ → ℕ) (ks : List ℕ) (i : ℕ) → candidate s d A (needs_of_lem s d A ks) i ≡ need_of s d A (i ∷ ks)
candidate_is s d A ks i = omega (arith, needs_at s d A ks 0)

-- Beside a set that fits, the chunk in front fits exactly if the test says so.
pub keeps_iff_feas :
    (s d A : ℕ → ℕ) (h i : ℕ) (ks : List ℕ) → Feas s d A h ks → T (keeps s d A h (needs_of_lem s d A ks) i) ↔ Feas s d A h (i ∷ ks)
keeps_iff_feas s d A h i ks g =
    let ns = needs_of_lem s d A ks in
    let c = candidate_is s d A ks i in
    let e : get_or (candidate s d A ns i ∷ ns) h 0 ≡ need_of s d A (drop h (i ∷ ks)) = rw c (needs_at s d A (i ∷ ks) h) in (
      λ t. let u = simp tests at t in record { whole = omega (arith, u.0); tails = (omega (arith, u.1), g.tails) },
      λ f. simp tests (omega (arith, f.whole), omega (arith, f.tails.0)),
    )

module _ (j : Job) (p : ℕ → ℕ) (accepts : (i : ℕ) → 1 ≤ i → i ≤ chunks j → (0 < p i) ↔ Fits j (tried p 0 i)) where
  abbrev base : ℕ → Bool
  base i = leb 1 (p i)

  abbrev one : ℕ → ℕ
  one k = size j k 0

  abbrev Good : List ℕ → Type 0
  Good = Feas one (due j) (after j) (held_most j)

  abbrev needed : List ℕ → List ℕ
  needed = needs_of_lem one (due j) (after j)

  good : (lo m : ℕ) → lo + m ≡ chunks j → Good (picked base lo m)
  good lo zero h = record { whole = omega arith; tails = tt }
  good lo (suc m) h = by_cond Good (base (suc lo)) (λ t. (base_picks j p accepts (suc lo) m (omega arith) (omega arith)).0 t) (λ t. good (suc lo) m (omega arith))

  keeps_iff : (i m : ℕ) → i + m ≡ chunks j → 1 ≤ i → T (keeps one (due j) (after j) (held_most j) (needed (picked base i m)) i) ↔ T (base i)
  keeps_iff i m h g =
      let b = base_picks j p accepts i m h g in
      let k = keeps_iff_feas one (due j) (after j) (held_most j) i (picked base i m) (good i m h) in
      (λ t. b.1 (k.0 t), λ t. k.1 (b.0 t))

  abbrev exact : List ℕ → Stack
  exact ks = record { needs = needed ks; chunks = ks }

  pushed : (i : ℕ) (ks : List ℕ) (b : Bool) → cond b (record { needs = candidate one (due j) (after j) (needed ks) i ∷ needed ks; chunks = i ∷ ks }) (exact ks) ≡ exact (cond b (i ∷ ks) ks)
  pushed i ks true = ap (λ (n : ℕ). record { needs = n ∷ needed ks; chunks = i ∷ ks }) (candidate_is one (due j) (after j) ks i)
  pushed i ks false = refl

  -- The scan keeps the plan's chunks.
  pub bases_are : (lo m : ℕ) → lo + m ≡ chunks j → bases one (due j) (after j) (held_most j) lo m ≡ exact (picked base lo m)
  bases_are lo zero h = refl
  bases_are lo (suc m) h =
      let i = suc lo in
      let ks = picked base i m in
      let iff = keeps_iff i m (omega arith) (omega arith) in
      let k = same_test (keeps one (due j) (after j) (held_most j) (needed ks) i) (base i) iff.0 iff.1 in
      ap (λ (s : Stack). push one (due j) (after j) (held_most j) s i) (bases_are i m (omega arith)) ∙ rw k (pushed i ks (base i))

-- ---- releases and tails

relok_uncons : (w d A : ℕ → ℕ) (gs : List ℕ) (r : ℕ) (rs : List ℕ) → RelOk w d A gs (r ∷ rs) → (need_of w d A gs ≤ A (r - 1)) × RelOk w d A (drop 1 gs) rs
relok_uncons w d A [] r rs t = (omega arith, tt)
relok_uncons w d A (g ∷ gs) r rs t = (t.0, t.1)

tails_if : (w d A : ℕ → ℕ) (h : ℕ) (ks : List ℕ) → RelOk w d A (drop h ks) (map d ks) → Tails w d A h ks
tails_if w d A zero [] t = tt
tails_if w d A (suc h) [] t = tt
tails_if w d A zero (k ∷ ks) t = (t.0, tails_if w d A zero ks t.1)
tails_if w d A (suc h) (k ∷ ks) t =
    let u = relok_uncons w d A (drop h ks) (d k) (map d ks) t in
    (u.0, tails_if w d A (suc h) ks (rw (drop-drop, add-one) at u.1))

relok_rest : (w d A : ℕ → ℕ) (h : ℕ) (gs rs : List ℕ) → RelOk w d A gs (ones h ++ rs) → RelOk w d A (drop h gs) rs
relok_rest w d A zero gs rs t = t
relok_rest w d A (suc h) [] rs t = tt
relok_rest w d A (suc h) (g ∷ gs) rs t = relok_rest w d A h gs rs t.1

-- The chunks ks fit behind their releases and into the room.
pub record Roomy (w d A : ℕ → ℕ) (room : ℕ) (ks rs : List ℕ) : Type 0 where
  pub within : need_of w d A ks ≤ room
  pub released : RelOk w d A ks rs

pub feas_roomy : (w d A : ℕ → ℕ) (h : ℕ) (ks : List ℕ) → Feas w d A h ks ↔ Roomy w d A (A 0) ks (releases d h ks)
feas_roomy w d A h ks = (
  λ f. record { within = f.whole; released = feas_relok w d A h ks f },
  λ r. record { whole = r.within; tails = tails_if w d A h ks (relok_rest w d A h ks (map d ks) r.released) },
)

-- A front chunk that has its own room leaves the rest of the room.
pub front : (w d A : ℕ → ℕ) (room k r : ℕ) (ks rs : List ℕ) → w k + A (d k) ≤ min room (A (r - 1)) → Roomy w d A room (k ∷ ks) (r ∷ rs) ↔ Roomy w d A (min room (A (r - 1)) - w k) ks rs
front w d A room k r ks rs h = (
  λ f. record { within = omega (arith, f.within, f.released.0); released = f.released.1 },
  λ f. record { within = omega (arith, f.within); released = (omega (arith, f.within), f.released) },
)

pub relok_mono : (v w d A : ℕ → ℕ) (ks rs : List ℕ) → All (λ k. v k ≤ w k) ks → RelOk w d A ks rs → RelOk v d A ks rs
relok_mono v w d A [] rs a t = tt
relok_mono v w d A (k ∷ ks) [] a t = t
relok_mono v w d A (k ∷ ks) (r ∷ rs) a t = (omega (arith, need_mono v w d A (k ∷ ks) a, t.0), relok_mono v w d A ks rs a.1 t.1)

-- ---- marks of levels

-- A mark of m layers has bit n set exactly if n < m.
pub level_bit : (m n : ℕ) → bit (level_mark m) n ≡ ltb n m
level_bit m n =
    ⊎_elim
    (λ t. let l = ltb→lt n m t in rw (lt-ltb n m l) (mark_bit (λ i. true) m n l))
    (λ t. let l = nltb→le n m t in rw (le-ltb n m l) (mark_high (λ i. true) m n l))
    (test (ltb n m))

pub level_next : (n : ℕ) → n < 8 → with_layer (level_mark n) n ≡ level_mark (suc n)
level_next n h = with_next (λ i. true) n h refl

level_sum : (m b : ℕ) → sum (λ n. cond (ltb n m) 1 0) b ≡ min b m
level_sum m zero = omega arith
level_sum m (suc b) =
    ⊎_elim
    (λ t. let l = ltb→lt b m t in rw (lt-ltb b m l) (omega (arith, level_sum m b)))
    (λ t. let l = nltb→le b m t in rw (le-ltb b m l) (omega (arith, level_sum m b)))
    (test (ltb b m))

-- It says so many layers.
pub level_of_lem : (m : ℕ) → m ≤ 8 → sum (λ n. cond (bit (level_mark m) n) 1 0) 8 ≡ m
level_of_lem m h = sum_cong _ _ 8 (λ n u. ap (λ (b : Bool). cond b 1 0) (level_bit m n)) ∙ level_sum m 8 ∙ omega arith

-- The mark byte of a chunk that carries c of k layers.
pub mark_level : (c k : ℕ) → c ≤ k → mark_byte (λ n. ltb n c) k ≡ level_mark c
mark_level c zero h = let e : c ≡ 0 = omega arith in rw e
mark_level c (suc k) h =
    ⊎_elim
    (λ t. let l = ltb→lt k c t in let e : c ≡ suc k = omega arith in subst (λ (x : ℕ). mark_byte (λ n. ltb n x) (suc k) ≡ level_mark x) (sym e) (mark_cong (λ n. ltb n (suc k)) (λ n. true) (suc k) (λ n u. lt-ltb n (suc k) u)))
    (λ t. let l = nltb→le k c t in rw (le-ltb k c l) (omega (arith, mark_level c k l)))
    (test (ltb k c))

pub level_top : (m n : ℕ) → 1 ≤ n → m ≤ n → ltb (n - 1) m ≡ eqb m n
level_top m n u h =
    ⊎_elim
    (λ t. let e = eqb→eq m n t in rw (e, eq-eqb n n refl) (lt-ltb (n - 1) n (omega arith)))
    (λ t. let o : m ≡ n → ⊥ = neqb_ne m n t in rw (ne_eqb m n o) (le-ltb (n - 1) m (omega (arith, ne_lt m n h o))))
    (test (eqb m n))

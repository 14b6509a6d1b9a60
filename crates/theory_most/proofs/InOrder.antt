-- Lemmas. In playing order: what fits needs at least what the rows say, so no list carries more
-- bases than the bound.
use Rattle.std.specs.Prelude.{ℕ, zero, suc, ◌+◌, ◌-◌, ◌≤◌, ◌<◌, ◌≡◌, refl, List, [], ◌∷◌, length, drop, leb, ltb}
use Rattle.std.proofs.Common.{sym, subst, ⊎_elim, arith, le-leb, length-drop, leb→le, ltb→lt, nltb→le}
use Rattle.std.proofs.Math.Dec.{nleb→lt}
use Rattle.theory_basics.specs.lemmas.Tests.{by_cond, test}
use Rattle.job.specs.Job.{Job, chunks, due, held_most}
use Rattle.theory_plan.specs.Bases.{Asc, base_size}
use Rattle.theory_plan.specs.Plan.{after}
use Rattle.theory_plan.specs.lemmas.Ascending.{asc_lower}
use Rattle.theory_plan.specs.lemmas.Feasible.{need_of}
use Rattle.theory_plan.specs.lemmas.Need.{Tails, tails_drop}
use Rattle.theory_most.specs.Statement.{in_front, least}
use Rattle.theory_most.proofs.Bounds.{behind_next, least_next, least_zero}

-- Without the next chunk no less is needed.
pub least_skip : (j : Job) (i c : ℕ) → i < chunks j → least j i (suc c) ≤ least j (suc i) (suc c)
least_skip j i c h = omega (arith, least_next j i c h)

-- The next chunk in front, if those behind it fit.
pub least_keep :
    (j : Job) (i c : ℕ) → i < chunks j → behind_next j i c ≤ after j (due j (suc i) - 1) →
    least j i (suc c) ≤ in_front j (suc i) (least j (suc i) c)
least_keep j i c h b =
    let e = rw (le-leb (behind_next j i c) (after j (due j (suc i) - 1)) b) at (least_next j i c h) in
    omega (arith, e)

-- From its n-th element on, an ascending list lies n places further.
asc_further : (lo hi : ℕ) (ks : List ℕ) (n : ℕ) → Asc lo hi ks → Asc (lo + n) hi (drop n ks)
asc_further lo hi ks zero a = let e : lo + 0 ≡ lo = omega arith in rw e a
asc_further lo hi [] (suc n) a = tt
asc_further lo hi (k ∷ ks) (suc n) a =
    let e : lo + suc n ≡ suc lo + n = omega arith in
    rw e (asc_further (suc lo) hi ks n (asc_lower (suc lo) (suc k) hi ks (omega arith) a.2))

pub drop_behind : (h k : ℕ) (ks : List ℕ) → 0 < h → drop h (k ∷ ks) ≡ drop (h - 1) ks
drop_behind zero k ks p = absurd (omega arith)
drop_behind (suc h) k ks p = let e : suc h - 1 ≡ h = omega arith in rw e

pub drop_none : (h k : ℕ) (ks : List ℕ) → h ≤ 0 → drop h (k ∷ ks) ≡ k ∷ ks
drop_none zero k ks p = refl
drop_none (suc h) k ks p = absurd (omega arith)

-- Chunks of i + 1 .. C need at least what the row says.
abbrev Under : Job → ℕ → List ℕ → Type 0
Under j i ks = least j i (length ks) ≤ need_of (base_size j) (due j) (after j) ks

-- With chunk i + 1 in front.
under_front :
    (j : Job) (i : ℕ) (ks : List ℕ) → i < chunks j → Under j (suc i) ks →
    (0 < held_most j → Under j (i + held_most j) (drop (held_most j - 1) ks)) →
    need_of (base_size j) (due j) (after j) (drop (held_most j) (suc i ∷ ks)) ≤ after j (due j (suc i) - 1) → Under j i (suc i ∷ ks)
under_front j i ks h near far t =
    let behind : behind_next j i (length ks) ≤ after j (due j (suc i) - 1) =
    by_cond
    (λ (x : ℕ). x ≤ after j (due j (suc i) - 1))
    (ltb 0 (held_most j))
    (λ u.
    let p = ltb→lt 0 (held_most j) u in
    let e : length ks - (held_most j - 1) ≡ suc (length ks) - held_most j = omega arith in
    let f = rw (length-drop, e) at (far p) in
    let g = rw (drop_behind (held_most j) (suc i) ks p) at t in
    omega (arith, f, g))
    (λ u.
    let g = rw (drop_none (held_most j) (suc i) ks (nltb→le 0 (held_most j) u)) at t in
    omega (arith, g, near)) in
    omega (arith, least_keep j i (length ks) h behind, near)

-- Of chunks i + 1 .. C that fit behind each other, as many need at least what the row says.
abbrev UnderAll : Job → ℕ → Type 0
UnderAll j n =
    (i : ℕ) → chunks j ≤ i + n → (ks : List ℕ) → Asc (suc i) (chunks j) ks →
    Tails (base_size j) (due j) (after j) (held_most j) ks → Under j i ks

under_none : (j : Job) → UnderAll j 0
under_none j i h [] a t = omega (arith, least_zero j i)
under_none j i h (k ∷ ks) a t = absurd (omega (arith, a.0, a.1))

under_more : (j : Job) (n : ℕ) → UnderAll j n → UnderAll j (suc n)
under_more j n all i h [] a t = omega (arith, least_zero j i)
under_more j n all i h (k ∷ ks) a t =
    ⊎_elim
    (λ u.
    let e : k ≡ suc i = omega (arith, leb→le k (suc i) u, a.0) in
    let a' = rw e at a.2 in
    let far : 0 < held_most j → Under j (i + held_most j) (drop (held_most j - 1) ks) = λ p.
    let q : suc (suc i) + (held_most j - 1) ≡ suc (i + held_most j) = omega arith in
    all (i + held_most j) (omega arith) (drop (held_most j - 1) ks) (rw q at (asc_further (suc (suc i)) (chunks j) ks (held_most j - 1) a'))
    (tails_drop (base_size j) (due j) (after j) (held_most j) ks (held_most j - 1) t.1) in
    let r = under_front j i ks (omega (arith, a.0, a.1)) (all (suc i) (omega arith) ks a' t.1) far (rw e at t.0) in
    subst (λ (x : ℕ). Under j i (x ∷ ks)) (sym e) r)
    (λ u.
    let b = all (suc i) (omega arith) (k ∷ ks) (nleb→lt k (suc i) u, a.1, a.2) t in
    omega (arith, b, least_skip j i (length ks) (omega (arith, a.0, a.1))))
    (test (leb k (suc i)))

pub least_under : (j : Job) (n : ℕ) → UnderAll j n
least_under j zero = under_none j
least_under j (suc n) = under_more j n (least_under j n)

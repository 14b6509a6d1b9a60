-- Lemmas. More bases need no less: so the rows rise, the bound can be found by a scan from either
-- side, and with a chunk the rows allow so many and no more (one number a chunk).
use Rattle.std.specs.Prelude.{ℕ, zero, suc, ◌+◌, ◌-◌, ◌≤◌, ◌<◌, ◌≡◌, refl, cond, ◌↔◌, leb, ltb}
use Rattle.std.proofs.Common.{⊎_elim, arith, le-leb, le-ltb, lt-ltb, leb→le, ltb→lt, nltb→le, le→leb}
use Rattle.std.proofs.Math.Dec.{nleb→lt}
use Rattle.theory_basics.specs.lemmas.Tests.{by_cond, last, test}
use Rattle.job.specs.Job.{Job, chunks, due, held_most}
use Rattle.theory_plan.specs.Plan.{after}
use Rattle.theory_most.specs.Statement.{any_row, bound, bound_any, cut_from, in_front, largest, least, most_from, too_much, with_or_without}
use Rattle.theory_most.proofs.Bounds.{behind_next, largest_most, largest_passes, least_end, least_next, least_zero}
use Rattle.theory_most.proofs.InOrder.{least_keep, least_skip}

-- ---- in playing order

least_top_by : (j : Job) (n i : ℕ) → chunks j ≤ i + n → (c : ℕ) → least j i c ≤ too_much j
least_top_by j n i h zero = omega (arith, least_zero j i)
least_top_by j zero i h (suc c) = omega (arith, least_end j i c (omega arith))
least_top_by j (suc n) i h (suc c) =
    ⊎_elim
    (λ t. omega (arith, least_skip j i c (ltb→lt i (chunks j) t), least_top_by j n (suc i) (omega arith) (suc c)))
    (λ t. omega (arith, least_end j i c (nltb→le i (chunks j) t)))
    (test (ltb i (chunks j)))

pub least_top : (j : Job) (i c : ℕ) → least j i c ≤ too_much j
least_top j i c = least_top_by j (chunks j) i (omega arith) c

abbrev Rises : Job → ℕ → Type 0
Rises j n = (i : ℕ) → chunks j ≤ i + n → (c : ℕ) → least j i c ≤ least j i (suc c)

behind_rises : (j : Job) (n i c : ℕ) → chunks j ≤ i + suc n → Rises j n → behind_next j i c ≤ behind_next j i (suc c)
behind_rises j n i c h r =
    ⊎_elim
    (λ t.
    let p = ltb→lt 0 (held_most j) t in
    rw (lt-ltb 0 (held_most j) p)
    (⊎_elim
    (λ u. let e : suc (suc c) - held_most j ≡ suc (suc c - held_most j) = omega (arith, leb→le (held_most j) (suc c) u) in rw e (r (i + held_most j) (omega arith) (suc c - held_most j)))
    (λ u.
    let e : suc c - held_most j ≡ 0 = omega (arith, nleb→lt (held_most j) (suc c) u) in
    let e' : suc (suc c) - held_most j ≡ 0 = omega (arith, nleb→lt (held_most j) (suc c) u) in
    let z : least j (i + held_most j) 0 ≤ least j (i + held_most j) 0 = omega arith in
    rw (e, e') z)
    (test (leb (held_most j) (suc c)))))
    (λ t. rw (le-ltb 0 (held_most j) (nltb→le 0 (held_most j) t)) (omega (arith, r (suc i) (omega arith) c)))
    (test (ltb 0 (held_most j)))

rises_next : (j : Job) (n i c : ℕ) → chunks j ≤ i + suc n → i < chunks j → Rises j n → least j i (suc c) ≤ least j i (suc (suc c))
rises_next j n i c h l r =
    let skip = r (suc i) (omega arith) (suc c) in
    let near = r (suc i) (omega arith) c in
    let other : least j i (suc c) ≤ cond (leb (behind_next j i (suc c)) (after j (due j (suc i) - 1))) (in_front j (suc i) (least j (suc i) (suc c))) (too_much j) =
    by_cond
    (λ (x : ℕ). least j i (suc c) ≤ x)
    (leb (behind_next j i (suc c)) (after j (due j (suc i) - 1)))
    (λ t.
    let b : behind_next j i c ≤ after j (due j (suc i) - 1) = omega (arith, behind_rises j n i c h r, leb→le (behind_next j i (suc c)) (after j (due j (suc i) - 1)) t) in
    omega (arith, least_keep j i c l b, near))
    (λ t. least_top j i (suc c)) in
    omega (arith, least_next j i (suc c) l, least_skip j i c l, skip, other)

rises : (j : Job) (n : ℕ) → Rises j n
rises j zero i h zero = omega (arith, least_zero j i)
rises j zero i h (suc c) = omega (arith, least_end j i c (omega arith), least_end j i (suc c) (omega arith))
rises j (suc n) i h zero = omega (arith, least_zero j i)
rises j (suc n) i h (suc c) =
    ⊎_elim
    (λ t. rises_next j n i c h (ltb→lt i (chunks j) t) (rises j n))
    (λ t. let l = nltb→le i (chunks j) t in omega (arith, least_end j i c l, least_end j i (suc c) l))
    (test (ltb i (chunks j)))

-- What rises by each step rises.
rises_far : (f : ℕ → ℕ) → ((c : ℕ) → f c ≤ f (suc c)) → (c d : ℕ) → c ≤ d → f c ≤ f d
rises_far f r c zero h = let e : c ≡ 0 = omega arith in rw e (omega arith)
rises_far f r c (suc d) h = ⊎_elim (λ l. omega (arith, rises_far f r c d l, r d)) (λ e. rw e (omega arith)) (last c d h)

pub least_rises : (j : Job) (i c d : ℕ) → c ≤ d → least j i c ≤ least j i d
least_rises j i c d h = rises_far (least j i) (λ c. rises j (chunks j) i (omega arith) c) c d h

-- What rises is below a level exactly up to the largest that is.
largest_iff : (f : ℕ → ℕ) (most n c : ℕ) → ((c d : ℕ) → c ≤ d → f c ≤ f d) → f 0 ≤ most → c ≤ n → (f c ≤ most) ↔ (c ≤ largest (λ c. leb (f c) most) n)
largest_iff f most n c r z h = (
  λ l. largest_most (λ c. leb (f c) most) n c h (le→leb (f c) most l),
  λ l.
      ⊎_elim
      (λ t.
      let m = largest (λ c. leb (f c) most) n in
      let p = leb→le (f m) most (largest_passes (λ c. leb (f c) most) n (leb→le 1 m t)) in
      omega (arith, r c m l, p))
      (λ t.
      let m = largest (λ c. leb (f c) most) n in
      let e : c ≡ 0 = omega (arith, nleb→lt 1 m t) in
      rw e z)
      (test (leb 1 (largest (λ c. leb (f c) most) n))),
)

pub bound_iff : (j : Job) (c : ℕ) → c ≤ chunks j → (least j 0 c ≤ after j 0) ↔ (c ≤ bound j)
unfolding bound
bound_iff j c h = largest_iff (least j 0) (after j 0) (chunks j) c (least_rises j 0) (omega (arith, least_zero j 0)) h

-- With chunk i + 1 at most so many from it on, where H is at least 1.
abbrev pub cap : Job → ℕ → ℕ
cap j i = held_most j + largest (λ x. leb (least j (i + held_most j) x) (after j (due j (suc i) - 1))) (chunks j)

pub cap_iff :
    (j : Job) (i c : ℕ) → 0 < held_most j → suc c ≤ chunks j → (behind_next j i c ≤ after j (due j (suc i) - 1)) ↔ (suc c ≤ cap j i)
cap_iff j i c p h =
    let f = least j (i + held_most j) in
    let l = largest_iff f (after j (due j (suc i) - 1)) (chunks j) (suc c - held_most j) (least_rises j (i + held_most j)) (omega (arith, least_zero j (i + held_most j))) (omega arith) in
    rw (lt-ltb 0 (held_most j) p) (
      λ b. omega (arith, l.0 b),
      λ b. l.1 (omega (arith, b)),
    )

-- ---- in any order

any_zero : (j : Job) (n : ℕ) → any_row j n 0 ≡ 0
any_zero j zero = refl
any_zero j (suc n) = let k = chunks j - n in rw (le-leb 0 (most_from j k (with_or_without j k (any_row j n))) (omega arith))

raw_top : (j : Job) (k : ℕ) (row : ℕ → ℕ) → ((c : ℕ) → row c ≤ too_much j) → (c : ℕ) → with_or_without j k row c ≤ too_much j
raw_top j k row r zero = omega arith
raw_top j k row r (suc c) = omega (arith, r (suc c))

pub any_top : (j : Job) (n c : ℕ) → any_row j n c ≤ too_much j
any_top j zero zero = omega arith
any_top j zero (suc c) = omega arith
any_top j (suc n) c =
    let k = chunks j - n in
    by_cond (λ (x : ℕ). x ≤ too_much j) (leb c (most_from j k (with_or_without j k (any_row j n)))) (λ t. raw_top j k (any_row j n) (any_top j n) c) (λ t. omega arith)

raw_rises : (j : Job) (k : ℕ) (row : ℕ → ℕ) → ((c : ℕ) → row c ≤ row (suc c)) → (c : ℕ) → with_or_without j k row c ≤ with_or_without j k row (suc c)
raw_rises j k row r zero = omega arith
raw_rises j k row r (suc c) = omega (arith, r (suc c), r c)

cut_rises :
    (j : Job) (k : ℕ) (row : ℕ → ℕ) → ((c : ℕ) → row c ≤ row (suc c)) → ((c : ℕ) → row c ≤ too_much j) → (c : ℕ) →
    cut_from j k row c ≤ cut_from j k row (suc c)
cut_rises j k row r top c =
    by_cond
    (λ (x : ℕ). cut_from j k row c ≤ x)
    (leb (suc c) (most_from j k row))
    (λ t. rw (le-leb c (most_from j k row) (omega (arith, leb→le (suc c) (most_from j k row) t))) (r c))
    (λ t. by_cond (λ (x : ℕ). x ≤ too_much j) (leb c (most_from j k row)) (λ u. top c) (λ u. omega arith))

any_rises_step : (j : Job) (n c : ℕ) → any_row j n c ≤ any_row j n (suc c)
any_rises_step j zero zero = omega arith
any_rises_step j zero (suc c) = omega arith
any_rises_step j (suc n) c =
    let k = chunks j - n in
    cut_rises j k (with_or_without j k (any_row j n)) (raw_rises j k (any_row j n) (any_rises_step j n)) (raw_top j k (any_row j n) (any_top j n)) c

pub any_rises : (j : Job) (n c d : ℕ) → c ≤ d → any_row j n c ≤ any_row j n d
any_rises j n c d h = rises_far (any_row j n) (any_rises_step j n) c d h

pub bound_any_iff : (j : Job) (c : ℕ) → c ≤ chunks j → (any_row j (chunks j) c ≤ after j 0) ↔ (c ≤ bound_any j)
unfolding bound_any
bound_any_iff j c h = largest_iff (any_row j (chunks j)) (after j 0) (chunks j) c (any_rises j (chunks j)) (omega (arith, any_zero j (chunks j))) h

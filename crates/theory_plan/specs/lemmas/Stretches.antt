-- Lemmas. When kept chunks fit, said by stretches: the bytes of each run of kept chunks are at most
-- the forecast of the slots from the release of the first to the due slot of the last. The bridge
-- of section 1 of the argument.
use Rattle.std.specs.Prelude.{ℕ, zero, suc, ◌+◌, ◌-◌, ◌≤◌, ◌<◌, ◌≡◌, false, cond, List, [], ◌∷◌, ◌↔◌, length, get_or, take, drop, ltb}
use Rattle.std.proofs.Common.{⊎_elim, arith, le-ltb, drop_of_length-le, length-drop, drop-drop, get_or-drop, ltb→lt, nltb→le}
use Rattle.theory_basics.specs.lemmas.Tests.{by_cond, test}
use Rattle.theory_plan.specs.lemmas.Need.{Feas, Tails, need_drop}
use Rattle.theory_plan.specs.lemmas.Feasible.{need_of}

-- The bytes of the chunks together.
abbrev pub total : (ℕ → ℕ) → List ℕ → ℕ
total w [] = 0
total w (k ∷ ks) = w k + total w ks

-- The release of the m-th kept chunk, counted from 0: slot 1 for the first h, then the due slot of
-- the chunk h places before.
abbrev pub release : (d : ℕ → ℕ) (h : ℕ) (ks : List ℕ) (m : ℕ) → ℕ
release d h ks m = cond (ltb m h) 1 (d (get_or ks (m - h) 0))

-- The kept chunks a .. a + n fit between the release of the first and the due slot of the last.
unfoldable pub Stretches : (w d A : ℕ → ℕ) (h : ℕ) → List ℕ → Type 0
Stretches w d A h ks = (a n : ℕ) → a + n < length ks → total w (take (suc n) (drop a ks)) + A (d (get_or ks (a + n) 0)) ≤ A (release d h ks a - 1)

-- ---- a need is bounded exactly if each run from the first chunk is

run_under_need : (w d A : ℕ → ℕ) (ks : List ℕ) (n : ℕ) → n < length ks → total w (take (suc n) ks) + A (d (get_or ks n 0)) ≤ need_of w d A ks
run_under_need w d A [] n h = absurd (omega arith)
run_under_need w d A (k ∷ ks) zero h = omega arith
run_under_need w d A (k ∷ ks) (suc n) h = omega (arith, run_under_need w d A ks n (omega arith))

need_least :
    (w d A : ℕ → ℕ) (ks : List ℕ) (c x : ℕ) → c ≤ x →
    ((n : ℕ) → n < length ks → c + total w (take (suc n) ks) + A (d (get_or ks n 0)) ≤ x) → c + need_of w d A ks ≤ x
need_least w d A [] c x g h = omega arith
need_least w d A (k ∷ ks) c x g h =
    let h₀ = h 0 (omega arith) in
    omega (arith, need_least w d A ks (c + w k) x (omega arith) (λ n l. omega (arith, h (suc n) (omega arith))))

need_iff_runs :
    (w d A : ℕ → ℕ) (ks : List ℕ) (x : ℕ) →
    (need_of w d A ks ≤ x) ↔ ((n : ℕ) → n < length ks → total w (take (suc n) ks) + A (d (get_or ks n 0)) ≤ x)
need_iff_runs w d A ks x = (
  λ u n h. omega (arith, run_under_need w d A ks n h),
  λ f. omega (arith, need_least w d A ks 0 x (omega arith) (λ n h. omega (arith, f n h))),
)

-- ---- the chunks fit exactly if each, with those behind it, fits behind its release

-- Each kept chunk, with those behind it, fits into the slots from its release on.
abbrev FitsReleases : (w d A : ℕ → ℕ) (h : ℕ) → List ℕ → Type 0
FitsReleases w d A h ks = (m : ℕ) → m < length ks → need_of w d A (drop m ks) ≤ A (release d h ks m - 1)

module _ (w d A : ℕ → ℕ) (h : ℕ) where
  tails_at : (ks : List ℕ) (m : ℕ) → m < length ks → Tails w d A h ks → need_of w d A (drop h (drop m ks)) ≤ A (d (get_or ks m 0) - 1)
  tails_at [] m l f = absurd (omega arith)
  tails_at (k ∷ ks) zero l f = f.0
  tails_at (k ∷ ks) (suc m) l f = tails_at ks m (omega arith) f.1

  tails_from : (ks : List ℕ) → ((m : ℕ) → m < length ks → need_of w d A (drop h (drop m ks)) ≤ A (d (get_or ks m 0) - 1)) → Tails w d A h ks
  tails_from [] f = tt
  tails_from (k ∷ ks) f = (f 0 (omega arith), tails_from ks (λ m l. f (suc m) (omega arith)))

  feas_released : (ks : List ℕ) → Feas w d A h ks → FitsReleases w d A h ks
  feas_released ks f m l =
      by_cond
      (λ r. need_of w d A (drop m ks) ≤ A (r - 1))
      (ltb m h)
      (λ t. omega (arith, need_drop w d A ks m, f.whole))
      (λ t.
      let e : m - h + h ≡ m = omega (arith, nltb→le m h t) in
      rw e at (rw drop-drop at (tails_at ks (m - h) (omega arith) f.tails)))

  module _ (A-anti : (x y : ℕ) → x ≤ y → A y ≤ A x) where
    released_whole : (ks : List ℕ) → FitsReleases w d A h ks → need_of w d A ks ≤ A 0
    released_whole [] f = omega arith
    released_whole (k ∷ ks) f = omega (arith, f 0 (omega arith), A-anti 0 (release d h (k ∷ ks) 0 - 1) (omega arith))

    released_tail :
        (ks : List ℕ) → FitsReleases w d A h ks → (m : ℕ) → m < length ks → need_of w d A (drop h (drop m ks)) ≤ A (d (get_or ks m 0) - 1)
    released_tail ks f m l =
        rw drop-drop
        (⊎_elim
        (λ t.
        let e : ltb (m + h) h ≡ false = le-ltb (m + h) h (omega arith) in
        let e' : m + h - h ≡ m = omega arith in
        rw e' at (rw e at (f (m + h) (ltb→lt (m + h) (length ks) t))))
        (λ t. rw (drop_of_length-le ks (nltb→le (m + h) (length ks) t)) (omega arith))
        (test (ltb (m + h) (length ks))))

    released_feas : (ks : List ℕ) → FitsReleases w d A h ks → Feas w d A h ks
    released_feas ks f = record { whole = released_whole ks f; tails = tails_from ks (released_tail ks f) }

pub stretches_iff : (w d A : ℕ → ℕ) (h : ℕ) → ((x y : ℕ) → x ≤ y → A y ≤ A x) → (ks : List ℕ) → Feas w d A h ks ↔ Stretches w d A h ks
unfolding Stretches
stretches_iff w d A h anti ks = (
  λ f a n l.
      let e = get_or-drop a ks n 0 in
      rw e at ((need_iff_runs w d A (drop a ks) (A (release d h ks a - 1))).0 (feas_released w d A h ks f a (omega arith)) n (rw length-drop (omega arith))),
  λ f.
      released_feas w d A h anti ks (λ a l.
      (need_iff_runs w d A (drop a ks) (A (release d h ks a - 1))).1 (λ n m. let e = get_or-drop a ks n 0 in rw e (f a n (let m' = rw length-drop at m in omega arith)))),
)

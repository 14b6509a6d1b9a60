-- Lemmas. From the places of Runs to the kept chunks of a choice: their slots rise, carry is a
-- difference of forecasts, and no stretch needs more than it carries exactly if the choice fits.
use Prim.Native.Nat.{ℕ, zero, suc, ◌+◌, ◌-◌, ◌≤◌, ◌<◌}
use Rattle.std.specs.Prelude.{◌≡◌, refl, cond, not, List, [], ◌∷◌, T, leb, ltb, length, get_or, take, drop}
use Rattle.std.proofs.Common.{ap, ⊎_elim, le-leb, le-ltb, ltb→lt, nltb→le, length-drop, get_or-drop}
use native.Mathlib.Omega.{arith}
use Rattle.std.proofs.lemmas.Bool.{lt-leb}
use Rattle.theory_basics.specs.Sums.{pre, sum}
use Rattle.theory_basics.specs.lemmas.Ranges.{pre_mono, sum_cong}
use Rattle.theory_basics.specs.lemmas.Tests.{by_cond, last, test}
use Rattle.job.specs.Job.{Accepted, Job, chunks, due, forecast, held_most, last_slot}
use Rattle.theory_plan.specs.lemmas.Ascending.{asc_nth}
use Rattle.theory_plan.specs.Plan.{after, bytes, kept}
use Rattle.theory_plan.specs.lemmas.Choice.{Fits, kept_asc}
use Rattle.theory_plan.specs.lemmas.Stretches.{Stretches, stretches_iff, total}
use Rattle.theory_plan.specs.lemmas.Words.{after_anti, due_mono, due_rises}
use Rattle.theory_reasons.proofs.Kept.{need_sum, sum_front, can_begin, kept_chunk, kept_count}
use Rattle.theory_reasons.specs.lemmas.First.{Exceeds, Found, Rising, breaks_says, exceeds_breaks, found_exceeds, found_first, found_last, late, used, used_covers}
use Rattle.theory_reasons.specs.Statement.{Named, Short, carry, need}
use Rattle.theory_plan.specs.Bases.{Asc}

-- ---- the kept chunks as places

-- The bytes and the due slot of the m-th kept chunk, and what is forecast up to slot t.
abbrev pub kept_bytes : Job → (ℕ → ℕ) → ℕ → ℕ
kept_bytes j choice m = bytes j choice (kept_chunk j choice m)

abbrev pub kept_due : Job → (ℕ → ℕ) → ℕ → ℕ
kept_due j choice m = due j (kept_chunk j choice m)

abbrev pub up_to_slot : Job → ℕ → ℕ
up_to_slot j t = pre (forecast j) t

asc_rises : (lo hi : ℕ) (ks : List ℕ) (p q : ℕ) → Asc lo hi ks → p < q → q < length ks → get_or ks p 0 < get_or ks q 0
asc_rises lo hi [] p q a h l = absurd (omega arith)
asc_rises lo hi (k ∷ ks) p zero a h l = absurd (omega arith)
asc_rises lo hi (k ∷ ks) zero (suc q) a h l = (asc_nth (suc k) hi ks q (omega arith) a.2).0
asc_rises lo hi (k ∷ ks) (suc p) (suc q) a h l = asc_rises (suc k) hi ks p q a.2 (omega arith) (omega arith)

module _ (j : Job) (a : Accepted j) (choice : ℕ → ℕ) where
  kept_in : (q : ℕ) → q < kept_count j choice → (1 ≤ kept_chunk j choice q) × (kept_chunk j choice q ≤ chunks j)
  kept_in q h = asc_nth 1 (chunks j) (kept j choice) q h (kept_asc j choice)

  kept_due_rises : (p q : ℕ) → p < q → q < kept_count j choice → kept_due j choice p < kept_due j choice q
  kept_due_rises p q h l =
      due_rises j a.span_in.low (kept_chunk j choice p) (kept_chunk j choice q) (kept_in p (omega arith)).0 (asc_rises 1 (chunks j) (kept j choice) p q (kept_asc j choice) h l)

  kept_due_le : (p q : ℕ) → p ≤ q → q < kept_count j choice → kept_due j choice p ≤ kept_due j choice q
  kept_due_le p q h l =
      ⊎_elim
      (λ t. omega (arith, kept_due_rises p q (ltb→lt p q t) l))
      (λ t. let e : p ≡ q = omega (arith, nltb→le p q t) in omega (arith, ap (kept_due j choice) e))
      (test (ltb p q))

  due_low : (x : ℕ) → 1 ≤ due j x
  due_low x = omega (arith, a.delay_in.low)

  pub begin_low : (q : ℕ) → 1 ≤ can_begin j choice q
  begin_low q = by_cond (λ (x : ℕ). 1 ≤ x) (ltb q (held_most j)) (λ t. omega arith) (λ t. due_low (kept_chunk j choice (q - held_most j)))

  begin_le : (p q : ℕ) → p ≤ q → q < kept_count j choice → can_begin j choice p ≤ can_begin j choice q
  begin_le p q h l =
      by_cond
      (λ (x : ℕ). x ≤ can_begin j choice q)
      (ltb p (held_most j))
      (λ t. begin_low q)
      (λ t.
      let g = nltb→le p (held_most j) t in
      rw (le-ltb q (held_most j) (omega arith)) (kept_due_le (p - held_most j) (q - held_most j) (omega arith) (omega arith)))

  begin_by_due : (q : ℕ) → q < kept_count j choice → can_begin j choice q ≤ kept_due j choice q
  begin_by_due q l =
      by_cond (λ (x : ℕ). x ≤ kept_due j choice q) (ltb q (held_most j)) (λ t. due_low (kept_chunk j choice q)) (λ t. kept_due_le (q - held_most j) q (omega arith) l)

  pub due_in : (q : ℕ) → q < kept_count j choice → kept_due j choice q ≤ last_slot j
  due_in q l = due_mono j (kept_chunk j choice q) (chunks j) (kept_in q l).1

  pub rising : Rising (kept_due j choice) (can_begin j choice) (up_to_slot j) (kept_count j choice)
  rising =
      record {
        due_rises = kept_due_rises;
        begin_rises = begin_le;
        begin_due = begin_by_due;
        forecast_rises = pre_mono (forecast j);
      }

-- ---- carry

pre_none : (f : ℕ → ℕ) (a b : ℕ) → b < a → pre (λ t. cond (leb a t) (f t) 0) b ≡ 0
pre_none f a zero h = refl
pre_none f a (suc b) h = rw (lt-leb a (suc b) h) (omega (arith, pre_none f a b (omega arith)))

pre_from : (f : ℕ → ℕ) (a b : ℕ) → 1 ≤ a → a - 1 ≤ b → pre (λ t. cond (leb a t) (f t) 0) b + pre f (a - 1) ≡ pre f b
pre_from f a zero g h = let e : a - 1 ≡ 0 = omega arith in rw e
pre_from f a (suc b) g h =
    ⊎_elim
    (λ l. rw (le-leb a (suc b) (omega arith)) (omega (arith, pre_from f a b g l)))
    (λ e. omega (arith, pre_none f a (suc b) (omega arith), ap (pre f) e))
    (last (a - 1) b h)

-- What the slots a to b carry, what is forecast before them and what is forecast up to b.
pub carry_from : (j : Job) (a b : ℕ) → 1 ≤ a → a ≤ b → carry j a b + up_to_slot j (a - 1) ≡ up_to_slot j b
unfolding carry
carry_from j a b g h = pre_from (forecast j) a b g (omega arith)

-- ---- stretches of slots and of places

pub short_exceeds :
    (j : Job) (choice : ℕ → ℕ) (a b : ℕ) → Short j choice a b →
    Exceeds (kept_bytes j choice) (kept_due j choice) (can_begin j choice) (up_to_slot j) (kept_count j choice) a b
short_exceeds j choice a b s = omega (arith, need_sum j choice a b, carry_from j a b s.first_slot s.in_order, s.exceeds)

pub exceeds_short :
    (j : Job) (choice : ℕ → ℕ) (a b : ℕ) → 1 ≤ a → a ≤ b → b ≤ last_slot j →
    Exceeds (kept_bytes j choice) (kept_due j choice) (can_begin j choice) (up_to_slot j) (kept_count j choice) a b → Short j choice a b
exceeds_short j choice a b g h l x =
    record { first_slot = g; in_order = h; last_slot_lem = l; exceeds = omega (arith, need_sum j choice a b, carry_from j a b g h) }

-- ---- runs of a list, as sums

total_take : (w : ℕ → ℕ) (l : List ℕ) (n : ℕ) → n ≤ length l → total w (take n l) ≡ sum (λ q. w (get_or l q 0)) n
total_take w l zero h = refl
total_take w [] (suc n) h = absurd (omega arith)
total_take w (k ∷ l) (suc n) h = omega (arith, total_take w l n (omega arith), sum_front (λ q. w (get_or (k ∷ l) q 0)) n)

sum_shift : (f : ℕ → ℕ) (a n : ℕ) → sum (λ q. f (a + q)) n + sum f a ≡ sum f (a + n)
sum_shift f a zero = let e : a + 0 ≡ a = omega arith in rw e (omega arith)
sum_shift f a (suc n) = let e : a + suc n ≡ suc (a + n) = omega arith in rw e (omega (arith, sum_shift f a n))

total_run :
    (w : ℕ → ℕ) (l : List ℕ) (a n : ℕ) → a + n ≤ length l →
    total w (take n (drop a l)) + sum (λ q. w (get_or l q 0)) a ≡ sum (λ q. w (get_or l q 0)) (a + n)
total_run w l a n h =
    omega (
      arith,
      total_take w (drop a l) n (rw length-drop (omega arith)),
      sum_cong (λ q. w (get_or (drop a l) q 0)) (λ q. w (get_or l (a + q) 0)) n (λ q u. ap w (get_or-drop a l q 0)),
      sum_shift (λ q. w (get_or l q 0)) a n,
    )

-- ---- the bridge

module _ (j : Job) (acc : Accepted j) (choice : ℕ → ℕ) where
  abbrev w : ℕ → ℕ
  w = kept_bytes j choice

  abbrev d : ℕ → ℕ
  d = kept_due j choice

  abbrev r : ℕ → ℕ
  r = can_begin j choice

  abbrev F : ℕ → ℕ
  F = up_to_slot j

  abbrev c : ℕ
  c = kept_count j choice

  abbrev Run : ℕ → ℕ → Type 0
  Run k m = F (r k - 1) + sum w (suc m) ≤ F (d m) + sum w k

  begin_in : (q : ℕ) → q < c → r q - 1 ≤ last_slot j
  begin_in q l = omega (arith, (rising j acc choice).begin_due q l, due_in j acc choice q l)

  -- The runs of kept chunks, said with sums and up to a slot.
  runs_fit : ((k m : ℕ) → k ≤ m → m < c → Run k m) → Fits j choice
  unfolding Stretches
  runs_fit f =
      (stretches_iff (bytes j choice) (due j) (after j) (held_most j) (after_anti j) (kept j choice)).1 (λ a n l.
      let e : a + suc n ≡ suc (a + n) = omega arith in
      let t = rw e at (total_run (bytes j choice) (kept j choice) a (suc n) (omega arith)) in
      omega (
        arith,
        t,
        f a (a + n) (omega arith) l,
        pre_mono (forecast j) (d (a + n)) (last_slot j) (due_in j acc choice (a + n) l),
        pre_mono (forecast j) (r a - 1) (last_slot j) (begin_in a (omega arith)),
      ))

  fit_runs : Fits j choice → (k m : ℕ) → k ≤ m → m < c → Run k m
  unfolding Stretches
  fit_runs f k m h l =
      let s = (stretches_iff (bytes j choice) (due j) (after j) (held_most j) (after_anti j) (kept j choice)).0 f k (m - k) (omega arith) in
      let e : k + (m - k) ≡ m = omega arith in
      let s' = rw e at s in
      let g : k + suc (m - k) ≡ suc m = omega arith in
      let t = rw g at (total_run (bytes j choice) (kept j choice) k (suc (m - k)) (omega arith)) in
      omega (
        arith,
        s',
        t,
        pre_mono (forecast j) (d m) (last_slot j) (due_in j acc choice m l),
        pre_mono (forecast j) (r k - 1) (last_slot j) (begin_in k (omega arith)),
      )

  -- A choice that fits has no stretch that needs more than it carries.
  pub fits_none_short : Fits j choice → (a b : ℕ) → Short j choice a b → ⊥
  fits_none_short f a b s =
      let p = exceeds_breaks w d r F c a b (rising j acc choice) s.in_order (short_exceeds j choice a b s) in
      omega (arith, fit_runs f p.0 p.1 p.2 p.3, (breaks_says w d r F p.1 p.0 p.6).1)

  -- If no kept chunk is late, the choice fits.
  pub none_late_fits : ((m : ℕ) → m < c → T (not (late w d r F m))) → Fits j choice
  none_late_fits f = runs_fit (λ k m h l. omega (arith, used_covers w d r F m k h, nltb→le (F (d m)) (used w d r F (suc m)) (f m l)))

  -- The stretch of the first late chunk, and of the last from which the run to it breaks the
  -- forecast, is the one named.
  pub found_named : (m k : ℕ) → Found w d r F c m k → Named j choice (r k) (d m)
  found_named m k f =
      let ok = rising j acc choice in
      let order : r k ≤ d m = omega (arith, ok.begin_rises k m f.run f.inside, ok.begin_due m f.inside) in
      record {
        short = exceeds_short j choice (r k) (d m) (begin_low j acc choice k) order (due_in j acc choice m f.inside) (found_exceeds w d r F c m k ok f);
        smallest_last = λ a b s. found_last w d r F c m k ok f a b s.in_order (short_exceeds j choice a b s);
        greatest_first = λ a s. found_first w d r F c m k ok f a s.in_order (short_exceeds j choice a (d m) s);
      }

-- Lemmas. Stretches over places 0, 1, .., c - 1, in general: place q has w q bytes, can begin in
-- slot r q and is due in slot d q, and F t is what is forecast up to slot t. Nothing here knows of
-- jobs.
use Rattle.std.specs.Prelude.{ℕ, zero, suc, ◌+◌, ◌-◌, ◌≤◌, ◌<◌, ◌≡◌, refl, Bool, true, false, not, cond, ◌&&◌, ◌⊎◌, T, leb, ltb}
use Rattle.std.proofs.Common.{⊎_elim, arith, le-leb, lt-ltb, le-ltb, T_not, leb→le, ltb→lt, nltb→le}
use Rattle.std.proofs.lemmas.Bool.{lt-leb}
use Rattle.std.proofs.Math.Dec.{nleb→lt}
use Rattle.theory_basics.specs.Sums.{sum}
use Rattle.theory_basics.specs.lemmas.Tests.{and_T, by_cond, last, test}
use Rattle.theory_basics.specs.lemmas.Ranges.{sum_add, sum_below, sum_cong, sum_le}
use Rattle.theory_reasons.specs.Lines.{greatest, smallest}

-- ---- sums over a window

pub sum_from : (w : ℕ → ℕ) (k e : ℕ) → k ≤ e → sum (λ q. cond (leb k q) (w q) 0) e + sum w k ≡ sum w e
sum_from w k e h =
    let whole : sum (λ q. cond (leb k q) (w q) 0 + cond (ltb q k) (w q) 0) e ≡ sum w e = sum_cong _ w e (λ q u. each q) in
    omega (arith, sum_add (λ q. cond (leb k q) (w q) 0) (λ q. cond (ltb q k) (w q) 0) e, sum_below w k e h)
  where
    each : (q : ℕ) → cond (leb k q) (w q) 0 + cond (ltb q k) (w q) 0 ≡ w q
    each q =
        ⊎_elim
        (λ t. let l = leb→le k q t in rw (le-leb k q l, le-ltb q k l) (omega arith))
        (λ t. let l = nleb→lt k q t in rw (lt-leb k q l, lt-ltb q k l) (omega arith))
        (test (leb k q))

pub sum_window : (w : ℕ → ℕ) (k e c : ℕ) → k ≤ e → e ≤ c → sum (λ q. cond (leb k q && ltb q e) (w q) 0) c + sum w k ≡ sum w e
sum_window w k e c g h =
    let same : sum (λ q. cond (leb k q && ltb q e) (w q) 0) c ≡ sum (λ q. cond (ltb q e) (cond (leb k q) (w q) 0) 0) c =
    sum_cong _ _ c (λ q u. each (leb k q) (ltb q e) (w q)) in
    omega (arith, sum_below (λ q. cond (leb k q) (w q) 0) e c h, sum_from w k e g)
  where
    each : (a b : Bool) (x : ℕ) → cond (a && b) x 0 ≡ cond b (cond a x 0) 0
    each true true x = refl
    each true false x = refl
    each false true x = refl
    each false false x = refl

-- A test that passes in the window alone, and one that passes there.
pub sum_inside :
    (w : ℕ → ℕ) (p : ℕ → Bool) (k e c : ℕ) → k ≤ e → e ≤ c → ((q : ℕ) → q < c → T (p q) → (k ≤ q) × (q < e)) →
    sum (λ q. cond (p q) (w q) 0) c + sum w k ≤ sum w e
sum_inside w p k e c g h f =
    omega (
      arith,
      sum_window w k e c g h,
      sum_le (λ q. cond (p q) (w q) 0) (λ q. cond (leb k q && ltb q e) (w q) 0) c (λ q u.
          by_cond (λ x. x ≤ cond (leb k q && ltb q e) (w q) 0) (p q) (λ t. let v = f q u t in rw (le-leb k q v.0, lt-ltb q e v.1) (omega arith)) (λ t. omega arith)),
    )

pub sum_outside :
    (w : ℕ → ℕ) (p : ℕ → Bool) (k e c : ℕ) → k ≤ e → e ≤ c → ((q : ℕ) → k ≤ q → q < e → T (p q)) →
    sum w e ≤ sum (λ q. cond (p q) (w q) 0) c + sum w k
sum_outside w p k e c g h f =
    omega (
      arith,
      sum_window w k e c g h,
      sum_le (λ q. cond (leb k q && ltb q e) (w q) 0) (λ q. cond (p q) (w q) 0) c (λ q u.
          by_cond
          (λ x. x ≤ cond (p q) (w q) 0)
          (leb k q && ltb q e)
          (λ t. let v = and_T (leb k q) (ltb q e) t in by_cond (λ x. w q ≤ x) (p q) (λ t. omega arith) (λ n. absurd (T_not (p q) n (f q (leb→le k q v.0) (ltb→lt q e v.1)))))
          (λ t. omega arith)),
    )

-- ---- the first place that passes

pub record Smallest (p : ℕ → Bool) (at n m : ℕ) : Type 0 where
  pub low : at ≤ m
  pub high : m ≤ at + n
  pub passes : m < at + n → T (p m)
  pub none_before : (q : ℕ) → at ≤ q → q < m → T (not (p q))

pub smallest_is : (p : ℕ → Bool) (at n : ℕ) → Smallest p at n (smallest p at n)
smallest_is p at zero = record { low = omega arith; high = omega arith; passes = λ h. absurd (omega arith); none_before = λ q u v. absurd (omega arith) }
smallest_is p at (suc n) =
    by_cond
    (Smallest p at (suc n))
    (p at)
    (λ t. record { low = omega arith; high = omega arith; passes = λ h. t; none_before = λ q u v. absurd (omega arith) })
    (λ t.
    let r = smallest_is p (suc at) n in
    let m = smallest p (suc at) n in
    record {
      low = omega (arith, r.low);
      high = omega (arith, r.high);
      passes = λ h. r.passes (omega arith);
      none_before = λ q u v. ⊎_elim (λ l. r.none_before q (ltb→lt at q l) v) (λ l. let e : q ≡ at = omega (arith, nltb→le at q l) in rw e t) (test (ltb at q));
    })

-- ---- the greatest number that passes

pub record Greatest (p : ℕ → Bool) (n m : ℕ) : Type 0 where
  pub high : m ≤ n
  pub passes : 1 ≤ m → T (p m)
  pub none_after : (q : ℕ) → m < q → q ≤ n → T (not (p q))

pub greatest_is : (p : ℕ → Bool) (n : ℕ) → Greatest p n (greatest p n)
greatest_is p zero = record { high = omega arith; passes = λ h. absurd (omega arith); none_after = λ q u v. absurd (omega arith) }
greatest_is p (suc n) =
    by_cond
    (Greatest p (suc n))
    (p (suc n))
    (λ t. record { high = omega arith; passes = λ h. t; none_after = λ q u v. absurd (omega arith) })
    (λ t.
    let r = greatest_is p n in
    record {
      high = omega (arith, r.high);
      passes = r.passes;
      none_after = λ q u v. ⊎_elim (λ l. r.none_after q u l) (λ e. rw e t) (last q n v);
    })

-- Where some number passes, it does.
pub greatest_some : (p : ℕ → Bool) (n q : ℕ) → 1 ≤ q → q ≤ n → T (p q) → q ≤ greatest p n
greatest_some p n q u v t =
    let r = greatest_is p n in
    ⊎_elim (λ l. leb→le q (greatest p n) l) (λ l. absurd (T_not (p q) (r.none_after q (nleb→lt q (greatest p n) l) v) t)) (test (leb q (greatest p n)))

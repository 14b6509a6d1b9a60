-- Lemmas. Why no set has more: after chunk i, every set of chunks 1 to i that fits at every place
-- is matched by some of the kept ones, as many and of no more bytes. (Moore and Hodgson's exchange,
-- over any sizes.)
use Rattle.std.specs.Prelude.{ℕ, zero, suc, ◌≤◌, ◌<◌, ◌≡◌, refl, Bool, true, false, not, cond, ◌||◌, List, T, eqb}
use Rattle.std.proofs.Common.{sym, inl, inr, ⊎_elim, arith, eq-eqb, ne_eqb, T_not, eqb→eq}
use Rattle.std.proofs.Math.Dec.{not_T}
use Rattle.theory_basics.specs.Sums.{count}
use Rattle.theory_basics.specs.lemmas.Tests.{T_and_iff, T_or_iff, if_iff, last, test, neqb_ne}
use Rattle.theory_plan.specs.lemmas.Ascending.{Asc}
use Rattle.theory_basics.specs.lemmas.Ranges.{last_that_fails}
use Rattle.theory_basics.specs.Lists.{has}
use Rattle.theory_plan.specs.Bases.{kept_bytes, kept_after, all_but}
use Rattle.theory_plan.specs.lemmas.Totals.{less, more, total, total_cong, total_less, total_list, total_mono, total_more}
use Rattle.theory_plan.specs.lemmas.KeepOrDrop.{Largest, Step, added, added_asc, added_has, drops, has_in, has_all_but, stays, step}

-- Some of the kept ones among 1 .. n match the set: as many, and no more bytes.
pub record Matched (s : ℕ → ℕ) (kept set : ℕ → Bool) (n : ℕ) : Type 0 where
  pub some : ℕ → Bool
  pub inside : (k : ℕ) → 1 ≤ k → k ≤ n → T (some k) → T (kept k)
  pub as_many : count some n ≡ count set n
  pub lighter : total s some n ≤ total s set n

-- A matched set has no more members than are kept.
pub matched_count : (s : ℕ → ℕ) (kept set : ℕ → Bool) (n : ℕ) → Matched s kept set n → count set n ≤ count kept n
matched_count s kept set n m = omega (arith, m.as_many, total_mono (λ k. 1) m.some kept n m.inside)

not_if : (a b : Bool) → T (not (not a || b)) → T a × T (not b)
not_if true b t = (tt, t)
not_if false b t = absurd t

-- ---- the largest is dropped

module _ (s : ℕ → ℕ) (set : ℕ → Bool) (n : ℕ) (ks : List ℕ) (asc : Asc 1 n ks) (m : ℕ) (big : Largest s ks m)
    (x : Matched s (has ks) set n) where
  -- Not needed for the match: it goes.
  drop_unused : T (not (x.some m)) → Matched s (has (all_but m ks)) set n
  drop_unused t =
      record {
        some = x.some;
        inside = λ k u v w. (has_all_but m 1 n ks k asc).1 (x.inside k u v w, λ e. T_not (x.some m) t (rw e w));
        as_many = x.as_many;
        lighter = x.lighter;
      }

  -- Needed, and u is not: u stands for it, and is no larger.
  drop_used : T (x.some m) → (u : ℕ) → T (has ks u) → T (not (x.some u)) → Matched s (has (all_but m ks)) set n
  drop_used t u h f =
      record {
        some = more (less x.some m) u;
        inside = λ k a b w.
            (has_all_but m 1 n ks k asc).1
            (⊎_elim
            (λ v.
            let p = (T_and_iff (x.some k) (not (eqb m k))).0 v in
            (x.inside k a b p.0, neqb_ne m k p.1))
            (λ v. let e = eqb→eq u k v in (rw e at h, λ d. T_not (x.some u) f (rw (e, ← d) t)))
            ((T_or_iff (less x.some m k) (eqb u k)).0 w));
        as_many = omega (arith, x.as_many, total_less (λ k. 1) x.some m n t m_in.0 m_in.1, total_more (λ k. 1) (less x.some m) u n free u_in.0 u_in.1);
        lighter = omega (arith, x.lighter, big.top u h, total_less s x.some m n t m_in.0 m_in.1, total_more s (less x.some m) u n free u_in.0 u_in.1);
      }
    where
      m_in : (1 ≤ m) × (m ≤ n)
      m_in = has_in 1 n ks m asc big.in_list

      u_in : (1 ≤ u) × (u ≤ n)
      u_in = has_in 1 n ks u asc h

      free : T (not (less x.some m u))
      free = not_T (less x.some m u) (λ w. T_not (x.some u) f ((T_and_iff (x.some u) (not (eqb m u))).0 w).0)

  -- If none is unused, all were needed; but together they exceed what the set's bytes don't.
  pub drop_matched : total s set n < kept_bytes s ks → Matched s (has (all_but m ks)) set n
  drop_matched over =
      ⊎_elim
      (λ t.
      ⊎_elim
      (λ all.
      absurd
      (omega (
        arith,
        x.lighter,
        total_list s 1 n ks (omega arith) asc,
        total_mono s (has ks) x.some n (λ k u v w. (if_iff (has ks k) (x.some k)).0 (all k u v) w),
      )))
      (λ r. let q = not_if (has ks r.0) (x.some r.0) r.3 in drop_used t r.0 q.0 q.1)
      (last_that_fails (λ k. not (has ks k) || x.some k) n))
      (λ t. drop_unused t)
      (test (x.some m))

-- ---- chunk by chunk

module _ (s room : ℕ → ℕ) (set : ℕ → Bool) where
  -- The match, with chunk i + 1 as the set has it.
  add_matched : (i : ℕ) → Matched s (has (kept_after s room i)) set i → Matched s (has (added s room i)) set (suc i)
  add_matched i x =
      record {
        some = some;
        inside = λ k u v t.
            (added_has s room i k).1
            (⊎_elim
            (λ l. inl (x.inside k u l (rw (below k l) at t)))
            (λ e. inr (sym e))
            (last k i v));
        as_many = rw here (omega (arith, x.as_many, total_cong (λ k. 1) some x.some i (λ k u v. below k v)));
        lighter = rw here (omega (arith, x.lighter, total_cong s some x.some i (λ k u v. below k v)));
      }
    where
      some : ℕ → Bool
      some k = cond (eqb k (suc i)) (set (suc i)) (x.some k)

      below : (k : ℕ) → k ≤ i → some k ≡ x.some k
      below k h = rw (ne_eqb k (suc i) (λ e. omega arith))

      here : some (suc i) ≡ set (suc i)
      here = rw (eq-eqb (suc i) (suc i) refl)

  -- Every set that fits at every place is matched.
  pub matched : (i : ℕ) → ((b : ℕ) → 1 ≤ b → b ≤ i → total s set b ≤ room b) → Matched s (has (kept_after s room i)) set i
  matched zero f = record { some = set; inside = λ k u v t. absurd (omega arith); as_many = refl; lighter = omega arith }
  matched (suc i) f = by_step (step s room i) (add_matched i (matched i (λ b u v. f b u (omega arith)))) (f (suc i) (omega arith) (omega arith))
    where
      by_step : Step s room i → Matched s (has (added s room i)) set (suc i) → total s set (suc i) ≤ room (suc i) → Matched s (has (kept_after s room (suc i))) set (suc i)
      by_step (stays h e) x l = rw e x
      by_step (drops h m b e) x l = rw e (drop_matched s set (suc i) (added s room i) (added_asc s room i) m b x (omega arith))

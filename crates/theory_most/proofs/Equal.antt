-- Lemmas. Where bases have one size the plan meets both bounds. The plan keeps, from the last chunk
-- down, each that fits: so of the chunks from i + 1 on its last c need least, and c more than it
-- keeps there need more than is there.
use Rattle.std.specs.Prelude.{ℕ, zero, suc, ◌+◌, ◌-◌, ◌≤◌, ◌<◌, ◌≡◌, Bool, true, false, cond, not, List, [], ◌∷◌, ◌⊎◌, ◌↔◌, length, drop, T, leb, ltb}
use Rattle.std.proofs.Common.{sym, subst, ap, ◌∙◌, ⊎_elim, inl, inr, arith, le-ltb, lt-ltb, length-drop, drop_of_length-le, drop-drop, T_not, leb→le, ltb→lt, nltb→le}
use Rattle.std.proofs.Math.Dec.{nleb→lt}
use Rattle.theory_basics.specs.lemmas.Tests.{T_true, by_cond, not_T_false, test}
use Rattle.job.specs.Job.{Job, chunks, due, held_most}
use Rattle.theory_plan.specs.Bases.{Asc, base_size}
use Rattle.theory_plan.specs.Plan.{after, picked}
use Rattle.theory_plan.specs.lemmas.Feasible.{need_of}
use Rattle.theory_plan.specs.lemmas.Kept.{picked_asc}
use Rattle.theory_plan.specs.lemmas.Need.{Feas}
use Rattle.theory_plan.specs.lemmas.Words.{after_anti, due_mono}
use Rattle.theory_most.specs.Statement.{any_row, bound, bound_any, cut_from, in_front, largest, least, most_from, no_chunks, too_much, with_or_without}
use Rattle.theory_most.proofs.Bounds.{behind_next, largest_le, largest_passes, least_end, least_next}
use Rattle.theory_most.proofs.InOrder.{drop_behind, drop_none}
use Rattle.theory_most.proofs.Rising.{any_rises, any_top, bound_any_iff, bound_iff, least_top}

bound_small : (j : Job) → bound j ≤ chunks j
unfolding bound
bound_small j = largest_le (λ c. leb (least j 0 c) (after j 0)) (chunks j)

bound_any_small : (j : Job) → bound_any j ≤ chunks j
unfolding bound_any
bound_any_small j = largest_le (λ c. leb (any_row j (chunks j) c) (after j 0)) (chunks j)

raw_rises_far : (j : Job) (k : ℕ) (row : ℕ → ℕ) → ((c d : ℕ) → c ≤ d → row c ≤ row d) → (c d : ℕ) → c ≤ d → with_or_without j k row c ≤ with_or_without j k row d
raw_rises_far j k row r zero d h = omega arith
raw_rises_far j k row r (suc c) zero h = absurd (omega arith)
raw_rises_far j k row r (suc c) (suc d) h = omega (arith, r (suc c) (suc d) h, r c d (omega arith))

-- ---- a chain that is ahead: cnt i chunks of i + 1 .. C, of which the last c need v c

-- What those from H places behind chunk i + 1 on need, in front of the chain.
abbrev pub behind_chain : Job → (cnt v : ℕ → ℕ) → ℕ → ℕ
behind_chain j cnt v i = cond (ltb 0 (held_most j)) (v (suc (cnt (suc i)) - held_most j)) (in_front j (suc i) (v (cnt (suc i))))

-- Chunk i + 1 is taken,
pub record Taken (j : Job) (cnt v : ℕ → ℕ) (i : ℕ) : Type 0 where
  pub one_more : cnt i ≡ suc (cnt (suc i))
  pub in_front_lem : v (cnt i) ≤ in_front j (suc i) (v (cnt (suc i)))
  pub fits : v (cnt i) ≤ after j 0

-- or it would not fit.
pub record Refused (j : Job) (cnt v : ℕ → ℕ) (i : ℕ) : Type 0 where
  pub as_many : cnt i ≡ cnt (suc i)
  pub unfit : in_front j (suc i) (v (cnt (suc i))) ≤ after j 0 → behind_chain j cnt v i ≤ after j (due j (suc i) - 1) → ⊥

pub record Chain (j : Job) (cnt v : ℕ → ℕ) : Type 0 where
  pub ends : (i : ℕ) → chunks j ≤ i → cnt i ≡ 0
  pub nothing : v 0 ≡ 0
  pub earlier : (i c : ℕ) → i < chunks j → c < cnt (suc i) → v (suc c) ≤ in_front j (suc i) (v c)
  pub each : (i : ℕ) → i < chunks j → Taken j cnt v i ⊎ Refused j cnt v i

-- A row says no less of as many as the chain has, and of more that they are too many.
record Over (j : Job) (cnt v : ℕ → ℕ) (i : ℕ) (row : ℕ → ℕ) (c : ℕ) : Type 0 where
  pub has : c ≤ cnt i → v c ≤ row c
  pub lacks : cnt i < c → after j 0 < row c

module _ (j : Job) (cnt v : ℕ → ℕ) (chain : Chain j cnt v) where
  after_top : (t : ℕ) → after j t ≤ after j 0
  after_top t = after_anti j 0 t (omega arith)

  -- ---- in playing order

  behind_over :
      (i : ℕ) → ((c : ℕ) → Over j cnt v (suc i) (least j (suc i)) c) → (0 < held_most j → (c : ℕ) → Over j cnt v (i + held_most j) (least j (i + held_most j)) c) →
      behind_next j i (cnt (suc i)) ≤ after j (due j (suc i) - 1) → behind_chain j cnt v i ≤ after j (due j (suc i) - 1)
  behind_over i near far b =
      ⊎_elim
      (λ t.
      let p = ltb→lt 0 (held_most j) t in
      let c = suc (cnt (suc i)) - held_most j in
      let o = far p c in
      let b' = rw (lt-ltb 0 (held_most j) p) at b in
      rw (lt-ltb 0 (held_most j) p)
      (⊎_elim
      (λ u. omega (arith, o.has (leb→le c (cnt (i + held_most j)) u), b'))
      (λ u. absurd (omega (arith, o.lacks (nleb→lt c (cnt (i + held_most j)) u), b', after_top (due j (suc i) - 1))))
      (test (leb c (cnt (i + held_most j))))))
      (λ t.
      let p = nltb→le 0 (held_most j) t in
      let b' = rw (le-ltb 0 (held_most j) p) at b in
      rw (le-ltb 0 (held_most j) p) (omega (arith, b', (near (cnt (suc i))).has (omega arith))))
      (test (ltb 0 (held_most j)))

  -- One more than the chain has behind chunk i + 1.
  over_at :
      (i : ℕ) → i < chunks j → ((c : ℕ) → Over j cnt v (suc i) (least j (suc i)) c) →
      (0 < held_most j → (c : ℕ) → Over j cnt v (i + held_most j) (least j (i + held_most j)) c) →
      Taken j cnt v i ⊎ Refused j cnt v i → Over j cnt v i (least j i) (suc (cnt (suc i)))
  over_at i l near far either =
      let c = cnt (suc i) in
      let n₀ = (near c).has (omega arith) in
      let n₁ = (near (suc c)).lacks (omega arith) in
      let e = least_next j i c l in
      ⊎_elim
      (λ t.
      let more = t.one_more in
      let same : v (suc c) ≤ in_front j (suc i) (v c) = rw more at t.in_front_lem in
      let fit : v (suc c) ≤ after j 0 = rw more at t.fits in
      let other : v (suc c) ≤ cond (leb (behind_next j i c) (after j (due j (suc i) - 1))) (in_front j (suc i) (least j (suc i) c)) (too_much j) =
      by_cond (λ (x : ℕ). v (suc c) ≤ x) (leb (behind_next j i c) (after j (due j (suc i) - 1))) (λ u. omega (arith, same, n₀)) (λ u. omega (arith, fit)) in
      record { has = λ h. omega (arith, e, other, n₁, fit); lacks = λ h. absurd (omega (arith, h, more)) })
      (λ t.
      let other : after j 0 < cond (leb (behind_next j i c) (after j (due j (suc i) - 1))) (in_front j (suc i) (least j (suc i) c)) (too_much j) =
      by_cond (λ (x : ℕ). after j 0 < x) (leb (behind_next j i c) (after j (due j (suc i) - 1)))
      (λ u.
      let b = behind_over i near far (leb→le (behind_next j i c) (after j (due j (suc i) - 1)) u) in
      ⊎_elim
      (λ w. absurd (t.unfit (omega (arith, leb→le (in_front j (suc i) (least j (suc i) c)) (after j 0) w, n₀)) b))
      (λ w. nleb→lt (in_front j (suc i) (least j (suc i) c)) (after j 0) w)
      (test (leb (in_front j (suc i) (least j (suc i) c)) (after j 0))))
      (λ u. omega arith) in
      record { has = λ h. absurd (omega (arith, h, t.as_many)); lacks = λ h. omega (arith, e, other, n₁) })
      either

  cnt_next : (i : ℕ) → i < chunks j → (cnt (suc i) ≤ cnt i) × (cnt i ≤ suc (cnt (suc i)))
  cnt_next i l =
      ⊎_elim
      (λ t. (omega (arith, t.one_more), omega (arith, t.one_more)))
      (λ t. (omega (arith, t.as_many), omega (arith, t.as_many)))
      (chain.each i l)

  over_next :
      (i c : ℕ) → i < chunks j → ((c : ℕ) → Over j cnt v (suc i) (least j (suc i)) c) →
      (0 < held_most j → (c : ℕ) → Over j cnt v (i + held_most j) (least j (i + held_most j)) c) → Over j cnt v i (least j i) (suc c)
  over_next i c l near far =
      let q = cnt_next i l in
      let e = least_next j i c l in
      ⊎_elim
      (λ t.
      -- as many as the chain has behind chunk i + 1
      let h = leb→le (suc c) (cnt (suc i)) t in
      let n₁ = (near (suc c)).has h in
      let n₀ = (near c).has (omega arith) in
      let step = chain.earlier i c l (omega arith) in
      let other : v (suc c) ≤ cond (leb (behind_next j i c) (after j (due j (suc i) - 1))) (in_front j (suc i) (least j (suc i) c)) (too_much j) =
      by_cond (λ (x : ℕ). v (suc c) ≤ x) (leb (behind_next j i c) (after j (due j (suc i) - 1))) (λ u. omega (arith, step, n₀)) (λ u. omega (arith, n₁, least_top j (suc i) (suc c))) in
      record { has = λ w. omega (arith, e, n₁, other); lacks = λ w. absurd (omega (arith, w, q.0, h)) })
      (λ t.
      let h = nleb→lt (suc c) (cnt (suc i)) t in
      ⊎_elim
      (λ u.
      -- one more
      let m : c ≡ cnt (suc i) = omega (arith, leb→le c (cnt (suc i)) u) in
      subst (λ (x : ℕ). Over j cnt v i (least j i) (suc x)) (sym m) (over_at i l near far (chain.each i l)))
      (λ u.
      -- more than one more
      let m = nleb→lt c (cnt (suc i)) u in
      let n₁ = (near (suc c)).lacks (omega arith) in
      let n₀ = (near c).lacks m in
      let other : after j 0 < cond (leb (behind_next j i c) (after j (due j (suc i) - 1))) (in_front j (suc i) (least j (suc i) c)) (too_much j) =
      by_cond (λ (x : ℕ). after j 0 < x) (leb (behind_next j i c) (after j (due j (suc i) - 1))) (λ w. omega (arith, n₀)) (λ w. omega arith) in
      record { has = λ w. absurd (omega (arith, w, q.1, m)); lacks = λ w. omega (arith, e, n₁, other) })
      (test (leb c (cnt (suc i)))))
      (test (leb (suc c) (cnt (suc i))))

  over_none : (i : ℕ) (row : ℕ → ℕ) → Over j cnt v i row 0
  over_none i row = record { has = λ h. omega (arith, chain.nothing); lacks = λ h. absurd (omega (arith, h)) }

  over_end : (i c : ℕ) → chunks j ≤ i → Over j cnt v i (least j i) (suc c)
  over_end i c h = record { has = λ w. absurd (omega (arith, w, chain.ends i h)); lacks = λ w. omega (arith, least_end j i c h) }

  over_row_end : (i : ℕ) → chunks j ≤ i → (c : ℕ) → Over j cnt v i (least j i) c
  over_row_end i h zero = over_none i (least j i)
  over_row_end i h (suc c) = over_end i c h

  over_row :
      (i : ℕ) → ((c : ℕ) → Over j cnt v (suc i) (least j (suc i)) c) →
      (0 < held_most j → (c : ℕ) → Over j cnt v (i + held_most j) (least j (i + held_most j)) c) → (c : ℕ) → Over j cnt v i (least j i) c
  over_row i near far zero = over_none i (least j i)
  over_row i near far (suc c) =
      ⊎_elim
      (λ t. over_next i c (ltb→lt i (chunks j) t) near far)
      (λ t. over_end i c (nltb→le i (chunks j) t))
      (test (ltb i (chunks j)))

  least_over : (n i : ℕ) → chunks j ≤ i + n → (c : ℕ) → Over j cnt v i (least j i) c
  least_over zero i h = over_row_end i (omega arith)
  least_over (suc n) i h = over_row i (least_over n (suc i) (omega arith)) (λ p. least_over n (i + held_most j) (omega arith))

  pub chain_bound : bound j ≤ cnt 0
  chain_bound =
      let l = (bound_iff j (bound j) (bound_small j)).1 (omega arith) in
      ⊎_elim
      (λ t. leb→le (bound j) (cnt 0) t)
      (λ t. absurd (omega (arith, l, (least_over (chunks j) 0 (omega arith) (bound j)).lacks (nleb→lt (bound j) (cnt 0) t))))
      (test (leb (bound j) (cnt 0)))

  -- ---- in any order

  -- Before the cut: one more than the chain has behind chunk i + 1 needs what it needs in front.
  raw_over :
      (i c : ℕ) (row : ℕ → ℕ) → i < chunks j → ((c : ℕ) → Over j cnt v (suc i) row c) → c ≤ cnt (suc i) → v c ≤ with_or_without j (suc i) row c
  raw_over i zero row l near h = omega (arith, chain.nothing)
  raw_over i (suc c) row l near h = omega (arith, (near (suc c)).has h, (near c).has (omega arith), chain.earlier i c l (omega arith))

  raw_one : (i : ℕ) (row : ℕ → ℕ) → ((c : ℕ) → Over j cnt v (suc i) row c) → with_or_without j (suc i) row (suc (cnt (suc i))) ≤ after j 0 → in_front j (suc i) (v (cnt (suc i))) ≤ with_or_without j (suc i) row (suc (cnt (suc i)))
  raw_one i row near h = omega (arith, (near (cnt (suc i))).has (omega arith), (near (suc (cnt (suc i)))).lacks (omega arith), h)

  raw_lacks : (i c : ℕ) (row : ℕ → ℕ) → ((c : ℕ) → Over j cnt v (suc i) row c) → cnt (suc i) < c → after j 0 < with_or_without j (suc i) row (suc c)
  raw_lacks i c row near h = omega (arith, (near (suc c)).lacks (omega arith), (near c).lacks h)

  -- Those from H places behind on are among what the cut allows.
  cut_behind :
      (i : ℕ) (row : ℕ → ℕ) → i < chunks j → ((c : ℕ) → Over j cnt v (suc i) row c) → ((c d : ℕ) → c ≤ d → row c ≤ row d) →
      suc (cnt (suc i)) ≤ most_from j (suc i) (with_or_without j (suc i) row) → behind_chain j cnt v i ≤ after j (due j (suc i) - 1)
  cut_behind i row l near rise h =
      let raw = with_or_without j (suc i) row in
      let most = after j (due j (suc i) - 1) in
      let x = largest (λ c. leb (raw c) most) (chunks j) in
      let rises : (c d : ℕ) → c ≤ d → raw c ≤ raw d = raw_rises_far j (suc i) row rise in
      let upto : (c : ℕ) → 1 ≤ c → c ≤ x → raw c ≤ most = λ c u w. omega (arith, rises c x w, leb→le (raw x) most (largest_passes (λ c. leb (raw c) most) (chunks j) (omega arith))) in
      ⊎_elim
      (λ t.
      let p = ltb→lt 0 (held_most j) t in
      let c = suc (cnt (suc i)) - held_most j in
      rw (lt-ltb 0 (held_most j) p)
      (⊎_elim
      (λ u. omega (arith, upto c (leb→le 1 c u) (omega arith), raw_over i c row l near (omega arith)))
      (λ u.
      let e : c ≡ 0 = omega (arith, nleb→lt 1 c u) in
      let z : v 0 ≤ most = omega (arith, chain.nothing) in
      rw e z)
      (test (leb 1 c))))
      (λ t.
      let p = nltb→le 0 (held_most j) t in
      let u = upto (suc (cnt (suc i))) (omega arith) (omega arith) in
      rw (le-ltb 0 (held_most j) p) (omega (arith, u, raw_one i row near (omega (arith, u, after_top (due j (suc i) - 1))))))
      (test (ltb 0 (held_most j)))

  -- The cut row.
  cut_at :
      (i : ℕ) (row : ℕ → ℕ) → i < chunks j → ((c : ℕ) → Over j cnt v (suc i) row c) → ((c d : ℕ) → c ≤ d → row c ≤ row d) →
      Taken j cnt v i ⊎ Refused j cnt v i → Over j cnt v i (cut_from j (suc i) (with_or_without j (suc i) row)) (suc (cnt (suc i)))
  cut_at i row l near rise either =
      let c = cnt (suc i) in
      let raw = with_or_without j (suc i) row in
      let b = leb (suc c) (most_from j (suc i) raw) in
      let n₀ = (near c).has (omega arith) in
      let n₁ = (near (suc c)).lacks (omega arith) in
      ⊎_elim
      (λ t.
      let more = t.one_more in
      let same : v (suc c) ≤ in_front j (suc i) (v c) = rw more at t.in_front_lem in
      let fit : v (suc c) ≤ after j 0 = rw more at t.fits in
      record {
        has = λ h. by_cond (λ (x : ℕ). v (suc c) ≤ x) b {x = raw (suc c)} {y = too_much j} (λ u. omega (arith, same, fit, n₀, n₁)) (λ u. omega (arith, fit));
        lacks = λ h. absurd (omega (arith, h, more));
      })
      (λ t.
      let refused : suc c ≤ most_from j (suc i) raw → after j 0 < raw (suc c) = λ u.
      ⊎_elim
      (λ w.
      let m = leb→le (raw (suc c)) (after j 0) w in
      absurd (t.unfit (omega (arith, m, raw_one i row near m)) (cut_behind i row l near rise u)))
      (λ w. nleb→lt (raw (suc c)) (after j 0) w)
      (test (leb (raw (suc c)) (after j 0))) in
      record {
        has = λ h. absurd (omega (arith, h, t.as_many));
        lacks = λ h. by_cond (λ (x : ℕ). after j 0 < x) b {x = raw (suc c)} {y = too_much j} (λ u. refused (leb→le (suc c) (most_from j (suc i) raw) u)) (λ u. omega arith);
      })
      either

  cut_over :
      (i c : ℕ) (row : ℕ → ℕ) → i < chunks j → ((c : ℕ) → Over j cnt v (suc i) row c) → ((c d : ℕ) → c ≤ d → row c ≤ row d) →
      ((c : ℕ) → row c ≤ too_much j) → Over j cnt v i (cut_from j (suc i) (with_or_without j (suc i) row)) c
  cut_over i zero row l near rise top = over_none i (cut_from j (suc i) (with_or_without j (suc i) row))
  cut_over i (suc c) row l near rise top =
      let q = cnt_next i l in
      let raw = with_or_without j (suc i) row in
      let b = leb (suc c) (most_from j (suc i) raw) in
      ⊎_elim
      (λ t.
      let h = leb→le (suc c) (cnt (suc i)) t in
      record {
        has = λ w. by_cond (λ (x : ℕ). v (suc c) ≤ x) b {x = raw (suc c)} {y = too_much j} (λ u. raw_over i (suc c) row l near h) (λ u. omega (arith, (near (suc c)).has h, top (suc c)));
        lacks = λ w. absurd (omega (arith, w, q.0, h));
      })
      (λ t.
      let h = nleb→lt (suc c) (cnt (suc i)) t in
      ⊎_elim
      (λ u.
      let m : c ≡ cnt (suc i) = omega (arith, leb→le c (cnt (suc i)) u) in
      subst (λ (x : ℕ). Over j cnt v i (cut_from j (suc i) (with_or_without j (suc i) row)) (suc x)) (sym m) (cut_at i row l near rise (chain.each i l)))
      (λ u.
      let m = nleb→lt c (cnt (suc i)) u in
      record {
        has = λ w. absurd (omega (arith, w, q.1, m));
        lacks = λ w. by_cond (λ (x : ℕ). after j 0 < x) b {x = raw (suc c)} {y = too_much j} (λ x. raw_lacks i c row near m) (λ x. omega arith);
      })
      (test (leb c (cnt (suc i)))))
      (test (leb (suc c) (cnt (suc i))))

  any_end : (c : ℕ) → Over j cnt v (chunks j) (no_chunks j) c
  any_end zero = over_none (chunks j) (no_chunks j)
  any_end (suc c) = record { has = λ w. absurd (omega (arith, w, chain.ends (chunks j) (omega arith))); lacks = λ w. omega arith }

  any_over : (n i : ℕ) → i + n ≡ chunks j → (c : ℕ) → Over j cnt v i (any_row j n) c
  any_over zero i e = let e' : chunks j ≡ i = omega arith in subst (λ (x : ℕ). (c : ℕ) → Over j cnt v x (no_chunks j) c) e' any_end
  any_over (suc n) i e =
      let k : suc i ≡ chunks j - n = omega arith in
      let near = any_over n (suc i) (omega arith) in
      subst (λ (x : ℕ). (c : ℕ) → Over j cnt v i (cut_from j x (with_or_without j x (any_row j n))) c) k
      (λ c. cut_over i c (any_row j n) (omega arith) near (any_rises j n) (any_top j n))

  pub chain_bound_any : bound_any j ≤ cnt 0
  chain_bound_any =
      let l = (bound_any_iff j (bound_any j) (bound_any_small j)).1 (omega arith) in
      ⊎_elim
      (λ t. leb→le (bound_any j) (cnt 0) t)
      (λ t. absurd (omega (arith, l, (any_over (chunks j) 0 (omega arith) (bound_any j)).lacks (nleb→lt (bound_any j) (cnt 0) t))))
      (test (leb (bound_any j) (cnt 0)))

-- ---- the chain of what is kept from the last chunk down

drop_next : (x a : ℕ) (ks gs : List ℕ) → x ∷ ks ≡ drop a gs → ks ≡ drop (suc a) gs
drop_next x a ks gs e =
    let f : ks ≡ drop 1 (drop a gs) = ap (drop {A = ℕ} 1) e in
    let n : a + 1 ≡ suc a = omega arith in
    f ∙ drop-drop 1 a gs ∙ ap (λ (m : ℕ). drop m gs) n

module _
    (j : Job) (equal : (i k : ℕ) → 1 ≤ i → i ≤ chunks j → 1 ≤ k → k ≤ chunks j → base_size j i ≡ base_size j k) (p : ℕ → Bool)
    (picks : (i m : ℕ) → i + m ≡ chunks j → 1 ≤ i → T (p i) ↔ Feas (base_size j) (due j) (after j) (held_most j) (i ∷ picked p i m)) where
  abbrev N : List ℕ → ℕ
  N = need_of (base_size j) (due j) (after j)

  -- All that is kept.
  abbrev all : List ℕ
  all = picked p 0 (chunks j)

  -- The last c of it.
  abbrev last_of : ℕ → List ℕ
  last_of c = drop (length all - c) all

  abbrev v : ℕ → ℕ
  v c = N (last_of c)

  abbrev cnt : ℕ → ℕ
  cnt i = length (picked p i (chunks j - i))

  -- What is kept behind chunk i is the last so many.
  suffix : (m n : ℕ) → m + n ≡ chunks j → picked p m n ≡ last_of (length (picked p m n))
  suffix zero n e =
      let n' : n ≡ chunks j = omega arith in
      let z : length all - length all ≡ 0 = omega arith in
      rw (n', z)
  suffix (suc m) n e = by (p (suc m)) (suffix m (suc n) (omega arith))
    where
      by :
          (b : Bool) → (let ks = cond b (suc m ∷ picked p (suc m) n) (picked p (suc m) n) in ks ≡ last_of (length ks)) →
          picked p (suc m) n ≡ last_of (length (picked p (suc m) n))
      by true f =
          let ks = picked p (suc m) n in
          let l : suc (length ks) ≡ length all - (length all - suc (length ks)) = ap (length {A = ℕ}) f ∙ length-drop (length all - suc (length ks)) all in
          let a : suc (length all - suc (length ks)) ≡ length all - length ks = omega (arith, l) in
          rw a at (drop_next (suc m) (length all - suc (length ks)) ks all f)
      by false f = f

  good : (lo n : ℕ) → lo + n ≡ chunks j → Feas (base_size j) (due j) (after j) (held_most j) (picked p lo n)
  good lo zero e = record { whole = omega arith; tails = tt }
  good lo (suc n) e =
      by_cond (Feas (base_size j) (due j) (after j) (held_most j)) (p (suc lo)) (λ t. (picks (suc lo) n (omega arith) (omega arith)).0 t) (λ t. good (suc lo) n (omega arith))

  -- A chunk that plays before a list's needs, in front of the same, no less.
  later_less :
      (ks : List ℕ) (k lo m : ℕ) → 1 ≤ k → k ≤ chunks j → k < lo → Asc lo (chunks j) ks → m < length ks →
      N (drop m ks) ≤ in_front j k (N (drop (suc m) ks))
  later_less [] k lo m u w h a l = absurd (omega arith)
  later_less (x ∷ ks) k lo zero u w h a l = omega (arith, equal x k (omega (arith, a.0)) a.1 u w, after_anti j (due j k) (due j x) (due_mono j k x (omega (arith, a.0))))
  later_less (x ∷ ks) k lo (suc m) u w h a l = later_less ks k (suc x) m u w (omega (arith, a.0)) a.2 (omega arith)

  -- The last c of what is kept behind chunk i.
  last_of_lem : (i n c : ℕ) → i + n ≡ chunks j → c ≤ length (picked p i n) → drop (length (picked p i n) - c) (picked p i n) ≡ last_of c
  last_of_lem i n c e h =
      let ks = picked p i n in
      let s = suffix i n e in
      let l : length ks ≡ length all - (length all - length ks) = ap (length {A = ℕ}) s ∙ length-drop (length all - length ks) all in
      let a : length all - length ks + (length ks - c) ≡ length all - c = omega (arith, l) in
      ap (drop {A = ℕ} (length ks - c)) s ∙ drop-drop (length ks - c) (length all - length ks) all ∙ ap (λ (m : ℕ). drop m all) a

  -- ---- it is a chain

  need_at : (i n : ℕ) → i + n ≡ chunks j → v (length (picked p i n)) ≡ N (picked p i n)
  need_at i n e = ap N (sym (suffix i n e))

  earlier_at : (i n c : ℕ) → suc i + n ≡ chunks j → c < length (picked p (suc i) n) → v (suc c) ≤ in_front j (suc i) (v c)
  earlier_at i n c e h =
      let ks = picked p (suc i) n in
      let a = picked_asc p (suc i) n (chunks j) (omega arith) in
      let m : suc (length ks - suc c) ≡ length ks - c = omega arith in
      let l = rw m at (later_less ks (suc i) (suc (suc i)) (length ks - suc c) (omega arith) (omega arith) (omega arith) a (omega arith)) in
      let s₁ : N (drop (length ks - suc c) ks) ≡ v (suc c) = ap N (last_of_lem (suc i) n (suc c) e (omega arith)) in
      let s₀ : N (drop (length ks - c) ks) ≡ v c = ap N (last_of_lem (suc i) n c e (omega arith)) in
      omega (arith, l, s₁, s₀)

  -- Those from H places behind chunk i + 1 on, in front of what is kept behind it.
  behind_at :
      (i n : ℕ) → suc i + n ≡ chunks j → let ks = picked p (suc i) n in
      N (drop (held_most j) (suc i ∷ ks))
      ≤ cond (ltb 0 (held_most j)) (v (suc (length ks) - held_most j)) (in_front j (suc i) (v (length ks)))
  behind_at i n e =
      let ks = picked p (suc i) n in
      by_cond
      (λ (x : ℕ). N (drop (held_most j) (suc i ∷ ks)) ≤ x)
      (ltb 0 (held_most j))
      (λ t.
      let h = ltb→lt 0 (held_most j) t in
      rw (drop_behind (held_most j) (suc i) ks h)
      (⊎_elim
      (λ u.
      let w = leb→le (held_most j - 1) (length ks) u in
      let c = suc (length ks) - held_most j in
      let m : length ks - c ≡ held_most j - 1 = omega arith in
      let s : N (drop (length ks - c) ks) ≡ v c = ap N (last_of_lem (suc i) n c e (omega arith)) in
      omega (arith, rw m at s))
      (λ u.
      let w : length ks ≤ held_most j - 1 = omega (arith, nleb→lt (held_most j - 1) (length ks) u) in
      let z : N (drop (held_most j - 1) ks) ≡ 0 = ap N (drop_of_length-le ks {i = held_most j - 1} w) in
      omega (arith, z))
      (test (leb (held_most j - 1) (length ks)))))
      (λ t. rw (drop_none (held_most j) (suc i) ks (nltb→le 0 (held_most j) t)) (omega (arith, need_at (suc i) n e)))

  each_at :
      (i n : ℕ) → suc i + n ≡ chunks j → let c = length (picked p (suc i) n) in let d = length (picked p i (suc n)) in
      ((d ≡ suc c) × (v d ≤ in_front j (suc i) (v c)) × (v d ≤ after j 0))
      ⊎ ((d ≡ c)
      × (in_front j (suc i) (v c) ≤ after j 0 → cond (ltb 0 (held_most j)) (v (suc c - held_most j)) (in_front j (suc i) (v c)) ≤ after j (due j (suc i) - 1) → ⊥))
  each_at i n e = ⊎_elim (λ t. inl (taken t)) (λ t. inr (refused t)) (test (p (suc i)))
    where
      ks : List ℕ
      ks = picked p (suc i) n

      taken : T (p (suc i)) → (length (picked p i (suc n)) ≡ suc (length ks)) × (v (length (picked p i (suc n))) ≤ in_front j (suc i) (v (length ks))) × (v (length (picked p i (suc n))) ≤ after j 0)
      taken t =
          let f = (picks (suc i) n (omega arith) (omega arith)).0 t in
          let s = need_at i (suc n) (omega arith) in
          let w : N (picked p i (suc n)) ≡ N (suc i ∷ ks) = rw (T_true (p (suc i)) t) in
          let l : length (picked p i (suc n)) ≡ suc (length ks) = rw (T_true (p (suc i)) t) in
          (l, omega (arith, s, w, need_at (suc i) n e), omega (arith, s, w, f.whole))

      refused :
          T (not (p (suc i))) → (length (picked p i (suc n)) ≡ length ks)
          × (in_front j (suc i) (v (length ks)) ≤ after j 0 → cond (ltb 0 (held_most j)) (v (suc (length ks) - held_most j)) (in_front j (suc i) (v (length ks))) ≤ after j (due j (suc i) - 1) → ⊥)
      refused t = (
        rw (not_T_false (p (suc i)) t),
        λ a b.
            T_not (p (suc i)) t ((picks (suc i) n (omega arith) (omega arith)).1 (record {
              whole = omega (arith, a, need_at (suc i) n e);
              tails = (omega (arith, b, behind_at i n e), (good (suc i) n e).tails);
            })),
      )

  -- The counts by chunk.
  cnt_at : (i n : ℕ) → i + n ≡ chunks j → cnt i ≡ length (picked p i n)
  cnt_at i n e = let m : chunks j - i ≡ n = omega arith in rw m

  chain : Chain j cnt v
  chain =
      record {
        ends = λ i h. cnt_end i h;
        nothing = ap N (drop_of_length-le all {i = length all - 0} (omega arith));
        earlier = λ i c l h. earlier_by i (chunks j - suc i) c (omega arith) h;
        each = λ i l. each_by i (chunks j - suc i) (omega arith);
      }
    where
      cnt_end : (i : ℕ) → chunks j ≤ i → cnt i ≡ 0
      cnt_end i h = let e : chunks j - i ≡ 0 = omega arith in rw e

      earlier_by : (i n c : ℕ) → suc i + n ≡ chunks j → c < cnt (suc i) → v (suc c) ≤ in_front j (suc i) (v c)
      earlier_by i n c e h = earlier_at i n c e (rw (cnt_at (suc i) n e) at h)

      each_by : (i n : ℕ) → suc i + n ≡ chunks j → Taken j cnt v i ⊎ Refused j cnt v i
      each_by i n e =
          let c₁ = sym (cnt_at (suc i) n e) in
          let c₀ = sym (cnt_at i (suc n) (omega arith)) in
          ⊎_elim
          (λ t. let u = rw (c₀, c₁) at t in inl (record { one_more = u.0; in_front_lem = u.1; fits = u.2 }))
          (λ t. let u = rw (c₀, c₁) at t in inr (record { as_many = u.0; unfit = u.1 }))
          (each_at i n e)

  pub equal_bound : bound j ≤ length all
  equal_bound = omega (arith, chain_bound j cnt v chain, cnt_at 0 (chunks j) (omega arith))

  pub equal_bound_any : bound_any j ≤ length all
  equal_bound_any = omega (arith, chain_bound_any j cnt v chain, cnt_at 0 (chunks j) (omega arith))

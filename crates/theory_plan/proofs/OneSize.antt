-- Lemmas. Bases of one size, where the limit holds the programme: those that request 9 keeps
-- are the last ones of the programme, those of document 01's way are too, and they are as many.
use Rattle.std.specs.Prelude.{ℕ, zero, suc, ◌+◌, ◌-◌, ◌≤◌, ◌<◌, ◌≡◌, refl, Bool, true, false, cond, List, ◌∷◌, ◌↔◌, T, leb, ltb}
use Rattle.std.proofs.Common.{sym, inl, inr, ⊎_elim, arith, leb→le, le→leb, ltb→lt, lt→ltb}
use Rattle.theory_basics.specs.Lists.{has}
use Rattle.theory_basics.specs.Sums.{count}
use Rattle.theory_basics.specs.lemmas.Ranges.{bit_no, bit_yes, count_cong, rising_has_fewest_early}
use Rattle.theory_basics.specs.lemmas.Tests.{by_cond, last, test}
use Rattle.job.specs.Job.{EqualBases, HoldsAll, Job, chunks, due, held_most, layers}
use Rattle.theory_plan.specs.Bases.{base_size, forecast_by, is_kept, kept_after}
use Rattle.theory_plan.specs.Plan.{after, bases_moore_hodgson, picked, tried}
use Rattle.theory_plan.specs.lemmas.Feasible.{need_of}
use Rattle.theory_plan.specs.Statement.{BasesMooreHodgson, Choice, SettledByTrials}
use Rattle.theory_plan.specs.lemmas.Base.{base_most, base_picks}
use Rattle.theory_plan.proofs.Best.{by_trials_fits}
use Rattle.theory_plan.specs.lemmas.Choice.{Fits, fits_can_carry}
use Rattle.theory_plan.specs.lemmas.Kept.{length_picked_le}
use Rattle.theory_plan.specs.lemmas.Level.{count_carried, level, level_exactly}
use Rattle.theory_plan.specs.lemmas.Need.{tails_few}
use Rattle.theory_plan.specs.lemmas.Plan.{base_taken_iff, kept_le}
use Rattle.theory_plan.specs.lemmas.KeepOrDrop.{Step, added, added_asc, added_has, drops, has_in, has_all_but, stays, step}
use Rattle.theory_plan.specs.lemmas.MooreHodgson.{list_bases, moore_hodgson_fits}
use Rattle.theory_plan.specs.lemmas.Words.{Sized, after_anti, due_mono}

-- A test that passes from some number of 1 .. n on.
abbrev pub Rises : ℕ → (ℕ → Bool) → Type 0
Rises n q = (x y : ℕ) → 1 ≤ x → x ≤ y → y ≤ n → T (q x) → T (q y)

-- ---- the earliest of equals is dropped, so the kept ones are the last ones

module _ (s room : ℕ → ℕ) where
  kept_rises : (i : ℕ) → ((x y : ℕ) → 1 ≤ x → x ≤ i → 1 ≤ y → y ≤ i → s x ≡ s y) → Rises i (has (kept_after s room i))
  kept_rises zero equal = λ x y g h l t. absurd (omega arith)
  kept_rises (suc i) equal =
      by_step (step s room i) (before (kept_rises i (λ x y a b c d. equal x y a (omega arith) c (omega arith))))
    where
      before : Rises i (has (kept_after s room i)) → Rises (suc i) (has (added s room i))
      before f x y g h l t =
          (added_has s room i y).1
          (⊎_elim
          (λ k. ⊎_elim (λ u. inl (f x y g h k u)) (λ e. absurd (omega arith)) ((added_has s room i x).0 t))
          (λ e. inr (sym e))
          (last y i l))

      by_step : Step s room i → Rises (suc i) (has (added s room i)) → Rises (suc i) (has (kept_after s room (suc i)))
      by_step (stays h e) f = rw e f
      by_step (drops h m b e) f = rw e (λ x y g l u t.
          let w = (has_all_but m 1 (suc i) (added s room i) x (added_asc s room i)).0 t in
          let r = has_in 1 (suc i) (added s room i) m (added_asc s room i) b.in_list in
          let d = b.first x w.0 (equal x m g (omega arith) r.0 r.1) in
          (has_all_but m 1 (suc i) (added s room i) y (added_asc s room i)).1 (f x y g l u w.0, λ q. w.1 (omega arith)))

-- ---- document 01's base: if a chunk fits before those kept behind it, so does a later one

-- What is picked from further on needs no more.
need_further : (w d A : ℕ → ℕ) (p : ℕ → Bool) (m lo n : ℕ) → need_of w d A (picked p (m + lo) n) ≤ need_of w d A (picked p lo (m + n))
need_further w d A p zero lo n = let e : 0 + n ≡ n = omega arith in let e' : 0 + lo ≡ lo = omega arith in rw (e, e') (omega arith)
need_further w d A p (suc m) lo n =
    let e : suc m + n ≡ suc (m + n) = omega arith in
    let e' : suc m + lo ≡ m + suc lo = omega arith in
    let r = need_further w d A p m (suc lo) n in
    rw (e, e')
    (by_cond
    (λ (ks : List ℕ). need_of w d A (picked p (m + suc lo) n) ≤ need_of w d A ks)
    (p (suc lo))
    {x = suc lo ∷ picked p (suc lo) (m + n)}
    {y = picked p (suc lo) (m + n)}
    (λ t. omega arith)
    (λ t. omega arith))

module _
    (j : Job) (wide : HoldsAll j) (equal : EqualBases j) (p : ℕ → ℕ)
    (accepts : (i : ℕ) → 1 ≤ i → i ≤ chunks j → (0 < p i) ↔ Fits j (tried p 0 i)) where
  base_rises : Rises (chunks j) (λ i. leb 1 (p i))
  base_rises x y g h l t =
      let q : ℕ → Bool = λ i. leb 1 (p i) in
      let w = base_size j in
      let f = (base_picks j p accepts x (chunks j - x) (omega arith) g).0 t in
      let e : (y - x) + x ≡ y = omega arith in
      let e' : (y - x) + (chunks j - y) ≡ chunks j - x = omega arith in
      let n = rw (e, e') at (need_further w (due j) (after j) q (y - x) x (chunks j - y)) in
      (base_picks j p accepts y (chunks j - y) (omega arith) (omega arith)).1
      (record {
        whole = omega (
          arith,
          n,
          f.whole,
          equal x y (record { low = g; high = omega arith }) (record { low = omega arith; high = l }),
          after_anti j (due j x) (due j y) (due_mono j x y h),
        );
        tails = tails_few w (due j) (after j) (held_most j) (y ∷ picked q y (chunks j - y)) (omega (arith, length_picked_le q y (chunks j - y)));
      })

-- ---- two that rise and are as many are the same

rising_within : (q r : ℕ → Bool) (n : ℕ) → Rises n q → Rises n r → count q n ≡ count r n → (i : ℕ) → 1 ≤ i → i ≤ n → T (q i) → T (r i)
rising_within q r n fq fr e zero g h t = absurd (omega arith)
rising_within q r n fq fr e (suc i) g h t =
    ⊎_elim
    (λ u. u)
    (λ u. absurd (omega (arith, bit_yes (q (suc i)) t, bit_no (r (suc i)) u, same (suc i) h, same i (omega arith))))
    (test (r (suc i)))
  where
    same : (b : ℕ) → b ≤ n → count q b ≡ count r b
    same b h =
        let d : (n - b) + b ≡ n = omega arith in
        omega (
          arith,
          rising_has_fewest_early q r (n - b) b (rw d fq) (rw d (omega arith)),
          rising_has_fewest_early r q (n - b) b (rw d fr) (rw d (omega arith)),
        )

-- ---- so the kept ones are document 01's

module _ (j : Job) (sized : Sized j) (some : 0 < layers j) (wide : HoldsAll j) (equal : EqualBases j) (p : ℕ → ℕ) (dec : SettledByTrials j p) where
  trials_no_more : count (λ i. ltb 0 (p i)) (chunks j) ≤ count (is_kept j) (chunks j)
  trials_no_more =
      let c = fits_can_carry j sized p dec.choice (by_trials_fits j sized p dec) in
      omega (arith, count_carried j c.rows p c.exactly 0 some, list_bases j some c.rows c.passes)

  trials_no_fewer : count (is_kept j) (chunks j) ≤ count (λ i. ltb 0 (p i)) (chunks j)
  trials_no_fewer =
      let alone : Choice j (bases_moore_hodgson j) = λ i u v. omega (arith, kept_le j i) in
      let c = fits_can_carry j sized (bases_moore_hodgson j) alone (moore_hodgson_fits j wide) in
      let l = c.rows in
      omega (
        arith,
        base_most j (base_size j 1) (λ i u v. equal i 1 (record { low = u; high = v }) (record { low = omega arith; high = omega arith })) p (base_taken_iff j sized p dec.choice (dec.decided 0) some) l c.passes,
        count_carried j l (level j l) (level_exactly j l c.passes) 0 some,
        count_carried j l (bases_moore_hodgson j) c.exactly 0 some,
        count_cong (is_kept j) (λ i. ltb 0 (bases_moore_hodgson j i)) (chunks j) (λ i u v. by (is_kept j i)),
      )
    where
      by : (b : Bool) → b ≡ ltb 0 (cond b 1 0)
      by true = refl
      by false = refl

  kept_last : Rises (chunks j) (is_kept j)
  kept_last =
      kept_rises (base_size j) (forecast_by j) (chunks j) (λ x y a b c d. equal x y (record { low = a; high = b }) (record { low = c; high = d }))

  -- The bases of document 01's way are the last ones.
  pub trials_last : Rises (chunks j) (λ i. ltb 0 (p i))
  trials_last x y g h l t =
      lt→ltb 0 (p y) (leb→le 1 (p y) (base_rises j wide equal p (base_taken_iff j sized p dec.choice (dec.decided 0) some) x y g h l (le→leb 1 (p x) (ltb→lt 0 (p x) t))))

  -- Document 01's way carries exactly the bases that Moore-Hodgson keeps.
  pub trials_moore_hodgson : BasesMooreHodgson j p
  trials_moore_hodgson i u v =
      let e : count (λ i. ltb 0 (p i)) (chunks j) ≡ count (is_kept j) (chunks j) = omega (arith, trials_no_more, trials_no_fewer) in (
        λ h. rising_within (λ i. ltb 0 (p i)) (is_kept j) (chunks j) trials_last kept_last e i u v (lt→ltb 0 (p i) h),
        λ t. ltb→lt 0 (p i) (rising_within (is_kept j) (λ i. ltb 0 (p i)) (chunks j) kept_last trials_last (sym e) i u v t),
      )

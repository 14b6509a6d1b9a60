-- Lemmas. The bases that request 9 keeps, of a job: they fit where the limit holds the
-- programme, and no passing list, in any order, carries more. Section 5 (d) of the argument has the
-- prefixes.
use Rattle.std.specs.Prelude.{ℕ, suc, ◌+◌, ◌-◌, ◌≤◌, ◌<◌, ◌≡◌, refl, Bool, true, false, cond, not, List, [], ◌∷◌, length, T, leb, ltb}
use Rattle.std.proofs.Common.{sym, ◌∙◌, ⊎_elim, arith, leb→le, ltb→lt}
use Rattle.std.proofs.Math.Dec.{nleb→lt}
use Rattle.theory_basics.specs.Lists.{has}
use Rattle.theory_basics.specs.Sums.{count, pre, sum}
use Rattle.theory_basics.specs.lemmas.Ranges.{last_that_fails, pre_cong, pre_le, pre_mono, sum_mono}
use Rattle.theory_basics.specs.lemmas.Tests.{by_cond}
use Rattle.job.specs.Job.{HoldsAll, Job, chunks, due, forecast, last_slot, layers, size}
use Rattle.fetch.specs.Rows.{Row, layer_count}
use Rattle.fetch.specs.Rules.{Passes}
use Rattle.theory_plan.specs.Bases.{base_size, forecast_by, is_kept, kept_after, moore_hodgson, kept_bytes}
use Rattle.theory_plan.specs.Plan.{after, bases_moore_hodgson, bytes}
use Rattle.theory_plan.specs.lemmas.Choice.{Fits}
use Rattle.theory_plan.specs.lemmas.Exchange.{matched, matched_count}
use Rattle.theory_plan.specs.lemmas.Level.{count_carried, level, level_choice, level_exactly}
use Rattle.theory_plan.specs.lemmas.Prefixes.{Prefixes, list_prefixes, prefixes_fit}
use Rattle.theory_plan.specs.lemmas.Totals.{more, total, total_list, total_mono, total_more}
use Rattle.theory_plan.specs.lemmas.KeepOrDrop.{kept_asc, kept_cong, kept_earlier, kept_fits}
use Rattle.theory_plan.specs.lemmas.Words.{due_mono}

module _ (j : Job) where
  forecast_rises : (i : ℕ) → forecast_by j i ≤ forecast_by j (suc i)
  forecast_rises i = pre_mono (forecast j) (due j i) (due j (suc i)) (due_mono j i (suc i) (omega arith))

  forecast_within : (b : ℕ) → b ≤ chunks j → forecast_by j b ≤ pre (forecast j) (last_slot j)
  forecast_within b h = pre_mono (forecast j) (due j b) (last_slot j) (due_mono j b (chunks j) h)

  -- What may be spent by the due slot of chunk i, from the sums of what is forecast after each
  -- slot; and what is kept with it.
  forecast_by_after : (i : ℕ) → i ≤ chunks j → forecast_by j i ≡ after j 0 - after j (due j i)
  forecast_by_after i h = omega (arith, forecast_within i h)

  pub kept_by_after : kept_after (base_size j) (λ i. after j 0 - after j (due j i)) (chunks j) ≡ moore_hodgson j
  kept_by_after = kept_cong (base_size j) (λ i. after j 0 - after j (due j i)) (forecast_by j) (chunks j) (λ i h. sym (forecast_by_after i h))

  -- After one drop the kept bases fit again.
  pub after_drop : (i : ℕ) → kept_bytes (base_size j) (kept_after (base_size j) (forecast_by j) i) ≤ forecast_by j i
  after_drop = kept_fits (base_size j) (forecast_by j) forecast_rises

  -- ---- they can be carried

  -- Of those kept at the end, the ones of chunks 1 to b fit into the slots up to the due slot of b.
  kept_prefix : (b : ℕ) → b ≤ chunks j → total (base_size j) (is_kept j) b ≤ forecast_by j b
  kept_prefix b h =
      let s = base_size j in
      let room = forecast_by j in
      let e : (chunks j - b) + b ≡ chunks j = omega arith in
      omega (
        arith,
        total_mono s (is_kept j) (has (kept_after s room b)) b (λ k u v t. kept_earlier s room (chunks j - b) b k v (rw e t)),
        total_list s 1 b (kept_after s room b) (omega arith) (kept_asc s room b),
        after_drop b,
      )

  kept_base_bytes : (k : ℕ) → bytes j (bases_moore_hodgson j) k ≡ cond (is_kept j k) (base_size j k) 0
  kept_base_bytes k = by (is_kept j k) where
    by : (b : Bool) → sum (size j k) (cond b 1 0) ≡ cond b (size j k 0) 0
    by true = omega arith
    by false = omega arith

  kept_prefixes : Prefixes j (bases_moore_hodgson j)
  kept_prefixes b g h =
      omega (
        arith,
        pre_cong (bytes j (bases_moore_hodgson j)) (λ k. cond (is_kept j k) (base_size j k) 0) b (λ k u v. kept_base_bytes k),
        kept_prefix b h,
        forecast_within b h,
      )

  pub moore_hodgson_fits : HoldsAll j → Fits j (bases_moore_hodgson j)
  moore_hodgson_fits wide = prefixes_fit j (bases_moore_hodgson j) wide kept_prefixes

  -- ---- how many

  pub kept_count_lem : count (is_kept j) (chunks j) ≡ length (moore_hodgson j)
  kept_count_lem = total_list (λ k. 1) 1 (chunks j) (moore_hodgson j) (omega arith) (kept_asc (base_size j) (forecast_by j) (chunks j)) ∙ ones (moore_hodgson j) where
    ones : (ks : List ℕ) → kept_bytes (λ k. 1) ks ≡ length ks
    ones [] = refl
    ones (k ∷ ks) = omega (arith, ones ks)

  -- No passing list, in any order, carries more bases. Whatever the limit is: where it binds, a
  -- list can do only less.
  pub list_bases : 0 < layers j → (other : List Row) → Passes j other → layer_count j other 0 ≤ count (is_kept j) (chunks j)
  list_bases base other ok =
      let x = level j other in
      let set : ℕ → Bool = λ i. ltb 0 (x i) in
      let exact = level_exactly j other ok in
      omega (
        arith,
        count_carried j other x exact 0 base,
        matched_count (base_size j) (is_kept j) set (chunks j)
            (matched (base_size j) (forecast_by j) set (chunks j) (λ b u v.
            omega (
              arith,
              list_prefixes j other x ok (level_choice j other) exact b u v,
              forecast_within b v,
              pre_le (λ k. cond (set k) (base_size j k) 0) (bytes j x) b (λ k. base_in k (x k)),
            ))),
      )
    where
      base_in : (k m : ℕ) → cond (ltb 0 m) (base_size j k) 0 ≤ sum (size j k) m
      base_in k m = by_cond (λ (b : ℕ). b ≤ sum (size j k) m) (ltb 0 m) (λ t. omega (arith, sum_mono (size j k) 1 m (ltb→lt 0 m t))) (λ t. omega arith)

  -- ---- a base that is not kept (for request 14): with it beside all that are kept, some due slot
  -- is exceeded

  pub missing_exceeds :
      (x : ℕ) → 1 ≤ x → x ≤ chunks j → T (not (is_kept j x)) →
      (b : ℕ) × (1 ≤ b) × (b ≤ chunks j) × (forecast_by j b < total (base_size j) (more (is_kept j) x) b)
  missing_exceeds x u v t =
      let set = more (is_kept j) x in
      ⊎_elim
      (λ f.
      absurd
      (omega (
        arith,
        total_more (λ k. 1) (is_kept j) x (chunks j) t u v,
        matched_count (base_size j) (is_kept j) set (chunks j) (matched (base_size j) (forecast_by j) set (chunks j) (λ b g h. leb→le (total (base_size j) set b) (forecast_by j b) (f b g h))),
      )))
      (λ s. (s.0, s.1, s.2, nleb→lt (total (base_size j) set s.0) (forecast_by j s.0) s.3))
      (last_that_fails (λ b. leb (total (base_size j) set b) (forecast_by j b)) (chunks j))

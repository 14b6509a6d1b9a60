-- Lemmas. A job and the same job with b bytes more in slot t: what passes for the one passes for
-- the other, and what is forecast after a slot.
use Rattle.std.specs.Prelude.{ℕ, suc, ◌+◌, ◌≤◌, ◌<◌, ◌≡◌, refl, List, eqb, leb}
use Rattle.std.proofs.Common.{sym, ◌∙◌, ⊎_elim, arith, eq-eqb, ne_eqb, eqb→eq, leb→le}
use Rattle.std.proofs.Math.Dec.{nleb→lt}
use Rattle.theory_basics.specs.Sums.{pre}
use Rattle.theory_basics.specs.lemmas.Ranges.{point, point_in, point_out, pre_add, pre_cong, pre_mono}
use Rattle.theory_basics.specs.lemmas.Tests.{all_map, test, neqb_ne}
use Rattle.job.specs.Job.{Job, forecast, last_slot, with_forecast}
use Rattle.fetch.specs.Rows.{Row}
use Rattle.fetch.specs.Rules.{RowInRange, Passes}
use Rattle.theory_plan.specs.Plan.{after}
use Rattle.theory_plan.specs.lemmas.Words.{layer_of}
use Rattle.theory_sensitivity.specs.Statement.{OneSlotMore}

module _ (j : Job) (f : List ℕ) (t b : ℕ) (more : OneSlotMore j (with_forecast j f) t b) where
  abbrev k : Job
  k = with_forecast j f

  slot_grown : (u : ℕ) → 1 ≤ u → u ≤ last_slot j → forecast k u ≡ forecast j u + point t b u
  slot_grown u g h =
      ⊎_elim
      (λ e. let s = eqb→eq t u e in rw (← s, eq-eqb t t refl) more.grown)
      (λ e.
      let o : t ≡ u → ⊥ = neqb_ne t u e in
      rw (ne_eqb t u o) (omega (arith, more.other_slots u g h (λ s. o (sym s)))))
      (test (eqb t u))

  -- Of the rules only 4 sees the forecast, and it has grown.
  pub passes_grown : (l : List Row) → Passes j l → Passes k l
  passes_grown l ok =
      record {
        in_range_lem = all_map (RowInRange j) (RowInRange k) l
            (λ x r. record { slot_low = r.slot_low; slot_high = r.slot_high; chunk_low = r.chunk_low; chunk_high = r.chunk_high; layer_in = r.layer_in; some_bytes = r.some_bytes })
            ok.in_range_lem;
        whole = λ i n r. ok.whole i n (layer_of j i n r.chunk_low r.chunk_high r.layer_in);
        lower = λ i n r. ok.lower i n (layer_of j i (suc n) r.chunk_low r.chunk_high r.layer_in);
        within = λ u g h. omega (arith, ok.within u g h, slot_grown u g h);
        on_time_lem = ok.on_time_lem;
        few_held = ok.few_held;
        marks_say = refl;
      }

  -- ---- what is forecast after a slot

  pre_grown : (m : ℕ) → m ≤ last_slot j → pre (forecast k) m ≡ pre (forecast j) m + pre (point t b) m
  pre_grown m h =
      pre_cong (forecast k) (λ u. forecast j u + point t b u) m (λ u g l. slot_grown u g (omega arith)) ∙ pre_add (forecast j) (point t b) m

  -- Before slot t it is b bytes more ..
  pub after_early : (x : ℕ) → x < t → after k x ≡ after j x + b
  after_early x h =
      let t-in = more.slot_in in
      omega (
        arith,
        pre_grown x (omega arith),
        pre_grown (last_slot j) (omega arith),
        point_out t b x h,
        point_in t b (last_slot j) t-in.low t-in.high,
        pre_mono (forecast j) x (last_slot j) (omega arith),
      )

  -- .. and from slot t on the same.
  pub after_late : (x : ℕ) → t ≤ x → after k x ≡ after j x
  after_late x h =
      let t-in = more.slot_in in
      ⊎_elim
      (λ l.
      omega (
        arith,
        pre_grown x (leb→le x (last_slot j) l),
        pre_grown (last_slot j) (omega arith),
        point_in t b x t-in.low h,
        point_in t b (last_slot j) t-in.low t-in.high,
      ))
      (λ l.
      let o = nleb→lt x (last_slot j) l in
      omega (arith, pre_mono (forecast j) (last_slot j) x (omega arith), pre_mono (forecast k) (last_slot j) x (omega arith)))
      (test (leb x (last_slot j)))

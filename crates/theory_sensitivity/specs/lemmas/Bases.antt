-- Lemmas. Bases of one size z. The bases of a passing list fit, in whatever order it fetches, and
-- chunks that fit are the bases of some passing list. So for a list that passes with b bytes more
-- in slot t, one that passes without them has at most n bases fewer, where b ≤ n × z.
use Rattle.std.specs.Prelude.{ℕ, ◌*◌, ◌-◌, ◌≤◌, ◌<◌, ◌≡◌, List, [], ◌∷◌, length, T, eqb}
use Rattle.std.proofs.Common.{inl, inr, arith}
use Rattle.std.proofs.Math.Dec.{eqb_refl}
use Rattle.theory_basics.specs.Lists.{has}
use Rattle.theory_basics.specs.Tests.{All}
use Rattle.theory_basics.specs.lemmas.Tests.{T_or_iff, T_true, all_map, eqb_iff}
use Rattle.job.specs.Job.{Job, chunks, due, held_most, layers, size, with_forecast}
use Rattle.fetch.specs.Rows.{Row, carried, layer_count}
use Rattle.fetch.specs.Rules.{Passes}
use Rattle.theory_plan.specs.Plan.{after}
use Rattle.theory_plan.specs.lemmas.Ascending.{asc_each, count_all}
use Rattle.theory_plan.specs.lemmas.Base.{bases_asc, bases_counted, bases_fit, bases_in}
use Rattle.theory_plan.specs.lemmas.Level.{count_carried, level, level_exactly}
use Rattle.theory_plan.specs.lemmas.Need.{Feas, feas_mono}
use Rattle.theory_plan.specs.lemmas.Sufficiency.{fetch, layer_is, sufficient}
use Rattle.theory_plan.specs.lemmas.Words.{Sized, due_rises}
use Rattle.theory_sensitivity.specs.Statement.{OneSlotMore}
use Rattle.theory_sensitivity.specs.lemmas.Grown.{after_early, after_late}
use Rattle.theory_sensitivity.specs.lemmas.Thin.{thin, thin_asc, thin_feas, thin_length}
use Rattle.theory_plan.specs.Bases.{Asc}
use Rattle.theory_plan.specs.lemmas.Queue.{weight}

each_has : (ks : List ℕ) → All (λ i. T (has ks i)) ks
each_has [] = tt
each_has (k ∷ ks) = (
  (T_or_iff (eqb k k) (has ks k)).1 (inl (eqb_refl k)),
  all_map (λ i. T (has ks i)) (λ i. T (has (k ∷ ks) i)) ks (λ i u. (T_or_iff (eqb k i) (has ks i)).1 (inr u)) (each_has ks),
)

-- A passing list with at least c bases.
pub record Carries (j : Job) (c : ℕ) : Type 0 where
  pub rows : List Row
  pub passes : Passes j rows
  pub enough : c ≤ layer_count j rows 0

module _ (j : Job) (sized : Sized j) (some : 0 < layers j) (z : ℕ) (equal : (i : ℕ) → 1 ≤ i → i ≤ chunks j → size j i 0 ≡ z) where
  -- The fill of the bases of chunks that fit passes and carries them.
  fitting_carried : (ks : List ℕ) → Asc 1 (chunks j) ks → Feas (λ k. z) (due j) (after j) (held_most j) ks → Carries j (length ks)
  fitting_carried ks asc fit =
      let one : ℕ → ℕ = λ k. 1 in
      let w : ℕ → ℕ = λ k. weight (size j) k 0 1 in
      let light =
      all_map (λ k. (1 ≤ k) × (k ≤ chunks j)) (λ k. w k ≤ z) ks (λ k u. omega (arith, equal k u.0 u.1)) (asc_each 1 (chunks j) ks asc) in
      let ok = feas_mono w (λ k. z) (due j) (after j) (held_most j) ks light fit in
      let lim : (k : ℕ) → 1 ≤ k → k ≤ chunks j → one k ≤ layers j = λ k u v. omega arith in
      let l = fetch j one ks in
      let kept : All (λ i. T (carried j l i 0)) ks =
      all_map (λ i. T (has ks i)) (λ i. T (carried j l i 0)) ks
      (λ i u. (eqb_iff _ _).1 (rw (T_true (has ks i) u) at (layer_is j sized one lim ks asc ok i 0)))
      (each_has ks) in
      record {
        rows = l;
        passes = sufficient j sized one lim ks asc ok;
        enough = omega (arith, count_all (λ i. carried j l i 0) 0 (chunks j) ks (omega arith) asc kept);
      }

  module _ (span : 1 ≤ j.programme.span) (f : List ℕ) (t b : ℕ) (more : OneSlotMore j (with_forecast j f) t b) where
    abbrev k : Job
    k = with_forecast j f

    -- The bases of a list that passes for k, without the first n of them due in slot t or later.
    pub few_fewer : (n : ℕ) → b ≤ n * z → (l : List Row) → Passes k l → Carries j (layer_count k l 0 - n)
    few_fewer n enough l ok =
        let ks = bases_in k l in
        let fit = thin_feas z (due j) (after j) (after k) (held_most j) t b n enough (due_rises j span) (after_early j f t b more) (after_late j f t b more) (chunks j) ks (bases_asc k l) (bases_fit k z equal l ok) in
        let r = fitting_carried (thin (due j) t n ks) (thin_asc (due j) t n 1 (chunks j) ks (bases_asc k l)) fit in
        record {
          rows = r.rows;
          passes = r.passes;
          enough = omega (
            arith,
            r.enough,
            count_carried k l (level k l) (level_exactly k l ok) 0 some,
            bases_counted k l,
            thin_length (due j) t n ks,
          );
        }

-- Theorems. What Statement states, of the plans of two accepted jobs of equal chunks, whatever the
-- buffer limit and the layers. It follows from demand 3 alone: that no passing list carries more
-- bases than the plan.
use Rattle.std.specs.Prelude.{ℕ, ◌≤◌, ◌<◌, ◌≡◌, List}
use Rattle.std.proofs.Common.{sym, ap, subst, ◌∙◌, arith}
use Rattle.theory_basics.specs.Division.{divided_up}
use Rattle.theory_basics.specs.lemmas.Division.{divided_up_enough}
use Rattle.job.specs.Job.{Accepted, EqualChunks, Job, chunks, layers, size, with_forecast}
use Rattle.job.specs.Uneven.{equal_iff}
use Rattle.job.specs.lemmas.Within.{size_least}
use Rattle.fetch.specs.Rows.{Row}
use Rattle.theory_plan.specs.Own.{own_list}
use Rattle.theory_plan.specs.Plan.{plan}
use Rattle.theory_plan.specs.Statement.{Best, IsPlan, count_of, counts_of, marks_of}
use Rattle.theory_plan.proofs.Theorems.{best, plan_exists}
use Rattle.theory_plan.specs.lemmas.Level.{keeps_passes}
use Rattle.theory_plan.specs.lemmas.Words.{accepted_sized, layer_of}
use Rattle.theory_sensitivity.specs.Statement.{OneSlotMore, RisesLittle, Steady, equal_base_size}
use Rattle.theory_sensitivity.specs.lemmas.Bases.{few_fewer}
use Rattle.theory_sensitivity.specs.lemmas.Grown.{passes_grown}

-- ---- of plans that are best

module _ (j : Job) (a : Accepted j) (equal : EqualChunks j) (f : List ℕ) (t b : ℕ) (more : OneSlotMore j (with_forecast j f) t b) where
  abbrev k : Job
  k = with_forecast j f

  some : 0 < layers j
  some = a.layers_in.low

  base_is : (i : ℕ) → 1 ≤ i → i ≤ chunks j → size j i 0 ≡ equal_base_size j
  base_is i u v = equal i 1 0 (layer_of j i 0 u v some) (layer_of j 1 0 (omega arith) a.chunks_in.low some)

  -- What passes for j passes for k, and for what passes for k some list passes for j with at most
  -- so many bases fewer.
  best_rises :
      (p q : ℕ → ℕ) (l m : List Row) → Best j p l → Best k q m → RisesLittle (equal_base_size j) b (count_of j p 0) (count_of k q 0)
  best_rises p q l m best-p best-q =
      let z = size_least j a 1 0 some in
      let fewer =
      few_fewer j (accepted_sized j a) some (equal_base_size j) base_is a.span_in.low f t b more (divided_up b (equal_base_size j)) (divided_up_enough b (equal_base_size j) z)
      m
      (keeps_passes k (marks_of k q) m best-q.passes) in
      record {
        never_falls = omega (arith, best-p.counted 0 some, best-q.most_bases l (passes_grown j f t b more l (keeps_passes j (marks_of j p) l best-p.passes)));
        rises_at_most = omega (arith, best-q.counted 0 some, fewer.enough, best-p.most_bases fewer.rows fewer.passes);
      }

-- ---- request 10

-- Nothing but the forecast changes, so chunks stay equal, as they are exactly if there is no SZ.
same_overrides : (j k : Job) (t b : ℕ) → OneSlotMore j k t b → k.overrides ≡ j.overrides
same_overrides j k t b more = ap (λ (x : Job). x.overrides) more.same_else

equal_too : (j k : Job) → Accepted j → Accepted k → k.overrides ≡ j.overrides → EqualChunks j → EqualChunks k
equal_too j k a a' same equal = (equal_iff k a').1 (same ∙ (equal_iff j a).0 equal)

-- "For two accepted jobs of equal chunks: if one slot's forecast grows by b bytes and nothing else
-- changes, the number of bases carried never falls, and it rises by at most b divided by the base
-- size, rounded up. This holds for any buffer limit". Of any plans of the two jobs.
pub plans_rise_little :
    (j k : Job) → Accepted j → Accepted k → EqualChunks j → (t b : ℕ) → OneSlotMore j k t b → (p q : ℕ → ℕ) → IsPlan j p → IsPlan k q →
    RisesLittle (equal_base_size j) b (count_of j p 0) (count_of k q 0)
plans_rise_little j k a a' equal t b more p q dec dec' =
    subst
    (λ (x : Job). OneSlotMore j x t b → Best x q (own_list k q) → RisesLittle (equal_base_size j) b (count_of j p 0) (count_of x q 0))
    (sym more.same_else)
    (λ grown best'. best_rises j a equal k.forecast t b grown p q (own_list j p) (own_list k q) (best j a equal p dec) best')
    more
    (best k a' (equal_too j k a a' (same_overrides j k t b more) equal) q dec')

-- Of the counts of the plans handed over, "and for shrinking likewise".
pub steady : (j : Job) → Accepted j → EqualChunks j → Steady j (λ k. counts_of k (plan k))
steady j a equal =
    record {
      growing = λ k a' t b more. plans_rise_little j k a a' equal t b more (plan j) (plan k) (plan_exists j a) (plan_exists k a');
      shrinking = λ k a' t b more.
          let z : equal_base_size j ≡ equal_base_size k = ap equal_base_size more.same_else in
          rw z (plans_rise_little k j a' a (equal_too j k a a' (sym (same_overrides k j t b more)) equal) t b more (plan k) (plan j) (plan_exists k a') (plan_exists j a));
    }

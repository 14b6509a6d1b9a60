-- Lemmas. What the decision asks for is there for an accepted job: the table of its sizes, and its
-- whole forecast from slot 1. Assumes nothing.
use Rattle.std.specs.Prelude.{ℕ, ◌-◌, ◌≤◌, ◌≡◌, refl, List, length, replicate}
use Rattle.std.proofs.Common.{sym, ap, subst, ◌∙◌, arith}
use Rattle.std.proofs.Math.Path.{fun_ext}
use Rattle.theory_basics.specs.Sums.{pre}
use Rattle.job.specs.Job.{Accepted, Job, layers, size}
use Rattle.core_sizes.specs.Table.{sizes_table, table_at}
use Rattle.core_sizes.specs.Theorems.{table_is}
use Rattle.job.specs.lemmas.Within.{all_most, size_least, size_most}
use Rattle.theory_plan.specs.Plan.{after}
use Rattle.theory_plan.specs.lemmas.Parts.{ForecastPart, at, left_after, padded}
use Rattle.fetch.specs.Marks.{with_layer}
use Rattle.core_decide.specs.lemmas.Decision.{DecidePre}

base_set : with_layer 0 0 ≡ 1
unfolding with_layer
base_set = refl

module _ (j : Job) (ok : Accepted j) where
  -- The table that a call fills says the job's sizes.
  pub filled : (table : List ℕ) → table ≡ sizes_table j.sizes j.overrides → table_at table ≡ size j
  filled table e = ap table_at e ∙ table_is j ok

  pub part_in : ForecastPart 1 j.forecast
  part_in = record { low = omega arith; high = omega (arith, ok.slots_in, ok.last_in); small = all_most 0 16777216 j.forecast ok.forecast_in_lem }

  -- The marks before the decision: each has its base set.
  pub decide_from :
      (own : ℕ → ℕ → ℕ) → own ≡ size j → (ids ready : List ℕ) → length ids ≡ 500 → length ready ≡ 500 →
      {base : ℕ} → base ≡ with_layer 0 0 → DecidePre j.programme (layers j) own 1 j.forecast ids ready (replicate 500 base)
  decide_from own says ids ready a b e =
      record {
        few = ok.chunks_in.high;
        late = ok.delay_in.low;
        ends = ok.last_in;
        some = ok.layers_in.low;
        few_layers = ok.layers_in.high;
        small = λ i n. subst (λ (z : ℕ → ℕ → ℕ). z i n ≤ 16777216) (sym says) (size_most j ok i n);
        least = λ i u v. subst (λ (z : ℕ → ℕ → ℕ). 1 ≤ z i 0) (sym says) (size_least j ok i 0 ok.layers_in.low);
        part_in = part_in;
        slots = omega (arith, ok.slots_in);
        long = (a, b);
        marks = ap (replicate 500) (e ∙ base_set);
      }

  -- What is left after a slot is what is forecast after it.
  pub left_is : left_after (padded 1 j.forecast) ≡ after j
  left_is =
      fun_ext (λ t. ap (λ (n : ℕ). pre (λ u. at j.forecast (u - 1)) n - pre (λ u. at j.forecast (u - 1)) t) ok.slots_in)

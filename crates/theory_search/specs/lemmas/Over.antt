-- Lemmas. The plan over a set of bases: the layers above them are tried as in document 01, so there
-- is exactly one, where the bases fit it fits, and the passes of theory_plan decide it in linear
-- time.
use Rattle.std.specs.Prelude.{ℕ, suc, ◌≤◌, ◌≡◌, List, map}
use Rattle.std.proofs.Common.{sym, ap, ◌∙◌}
use Rattle.theory_basics.specs.Lists.{has}
use Rattle.job.specs.Job.{Job, layers}
use Rattle.theory_plan.specs.Plan.{kept}
use Rattle.theory_plan.specs.Statement.{Same}
use Rattle.theory_plan.specs.lemmas.Choice.{Fits}
use Rattle.theory_plan.specs.lemmas.Plan.{fits_cong, on_bases, on_choice, on_upper, plan_to_fits, settles_iff, tested_le}
use Rattle.theory_plan.specs.lemmas.Trials.{decided_on, kept_at}
use Rattle.theory_plan.specs.lemmas.Unique.{same_on_bases, same_tested}
use Rattle.theory_plan.specs.lemmas.Words.{Sized}
use Rattle.theory_plan.specs.lemmas.Decided.{decided_on_is, kept_of_set}
use Rattle.theory_search.specs.Search.{plan_over}
use Rattle.theory_search.specs.Statement.{Chunks, IsPlanOver, bases_of}

pub over_is : (j : Job) → Sized j → 1 ≤ layers j → (ks : List ℕ) → IsPlanOver j ks (plan_over j ks)
over_is j sized one ks =
    let c = on_choice j (bases_of ks) (tested_le (has ks)) in
    record {
      choice = c;
      based = λ i u v. on_bases j (has ks) one i;
      upper = λ n. (settles_iff j sized (plan_over j ks) c (suc n)).1 (on_upper j (bases_of ks) (tested_le (has ks)) n);
    }

pub overs_agree : (j : Job) (ks : List ℕ) (p q : ℕ → ℕ) → IsPlanOver j ks p → IsPlanOver j ks q → Same j p q
overs_agree j ks p q dp dq =
    same_on_bases j p q dp.choice dq.choice dp.upper dq.upper (λ h. same_tested j (has ks) p q dp.based dq.based)

-- It fits, if the bases do.
pub planned_fits : (j : Job) (ks : List ℕ) → Fits j (bases_of ks) → Fits j (plan_over j ks)
planned_fits j ks f = plan_to_fits j (bases_of ks) f (layers j)

module _ (j : Job) (sized : Sized j) (one : 1 ≤ layers j) (ks : List ℕ) (p : ℕ → ℕ) (dp : IsPlanOver j ks p) where
  pub over_fits : Fits j (bases_of ks) → Fits j p
  over_fits f = fits_cong j (plan_over j ks) p (overs_agree j ks (plan_over j ks) p (over_is j sized one ks) dp) (planned_fits j ks f)

  -- The chunks it keeps are the set.
  pub over_kept : Chunks j ks → kept j p ≡ ks
  over_kept a = kept_of_set j p ks a dp.based

  -- The passes over the set take its layers.
  pub over_decided : Chunks j ks → Fits j (bases_of ks) → layers j ≤ 8 → decided_on j ks ≡ map (kept_at j p) (kept j p)
  over_decided a f few =
      ap (decided_on j) (sym (over_kept a))
      ∙ decided_on_is j p dp.choice (over_fits f) (λ n. (settles_iff j sized p dp.choice (suc n)).0 (dp.upper n)) one few

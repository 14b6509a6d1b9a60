-- Theorems. Document 02, request 9, "Most pictures from uneven film": one drop is enough, no
-- passing list carries more bases, for equal bases the marks are document 01's, and whether a base
-- is skipped at all does not depend on the way.
use Rattle.std.specs.Prelude.{ℕ, suc, ◌≤◌, ◌≡◌, List, ◌↔◌, length, ltb}
use Rattle.std.proofs.Common.{arith, le-leb, ltb→lt, lt→ltb}
use Rattle.theory_basics.specs.lemmas.Ranges.{count_cong}
use Rattle.theory_basics.specs.lemmas.Tests.{same_test}
use Rattle.fetch.specs.Rows.{Row, layer_count}
use Rattle.fetch.specs.Rules.{Passes}
use Rattle.job.specs.Job.{Accepted, EqualBases, HoldsAll, Job, chunks}
use Rattle.theory_plan.specs.Bases.{base_size, forecast_by, is_kept, keep_or_drop, kept_after, moore_hodgson, kept_bytes}
use Rattle.theory_plan.specs.Statement.{BasesMooreHodgson, Choice, IsPlan, MostPictures, NoSkip, SettledByTrials, Settles, marks_of}
use Rattle.theory_plan.proofs.Theorems.{elsewhere_iff, same_marks}
use Rattle.theory_plan.proofs.AllBases.{no_skip_iff, trials_no_skip_iff}
use Rattle.theory_plan.proofs.OneSize.{trials_moore_hodgson}
use Rattle.theory_plan.specs.lemmas.Plan.{either_way, equal_bases_if_not}
use Rattle.theory_plan.specs.lemmas.Unique.{same_on_bases, same_moore_hodgson}
use Rattle.theory_plan.specs.lemmas.MooreHodgson.{after_drop, kept_count_lem, list_bases}
use Rattle.theory_plan.specs.lemmas.Words.{accepted_sized}

-- ---- the Moore-Hodgson algorithm

-- "whenever the kept bases due by then exceed the forecast up to that due slot, drop": after one
-- drop they fit again,
pub one_drop_enough : (j : Job) (i : ℕ) → kept_bytes (base_size j) (kept_after (base_size j) (forecast_by j) i) ≤ forecast_by j i
one_drop_enough = after_drop

-- so a second look drops nothing.
pub no_second_drop :
    (j : Job) (i : ℕ) → let ks = kept_after (base_size j) (forecast_by j) i in keep_or_drop (base_size j) (forecast_by j i) ks ≡ ks
no_second_drop j i = rw (le-leb (kept_bytes (base_size j) (kept_after (base_size j) (forecast_by j) i)) (forecast_by j i) (after_drop j i))

-- No passing list, in any order, carries more bases than it keeps, whatever the limit is.
pub none_carries_more : (j : Job) → Accepted j → (list : List Row) → Passes j list → layer_count j list 0 ≤ length (moore_hodgson j)
none_carries_more j ok list o = omega (arith, list_bases j ok.layers_in.low list o, kept_count_lem j)

-- ---- the plan, where H is at least C

module _ (j : Job) (ok : Accepted j) (wide : HoldsAll j) where
  -- "For equal sizes the marks are those of document 01": its way carries exactly the bases that
  -- Moore-Hodgson keeps,
  pub equal_moore_hodgson : EqualBases j → (p : ℕ → ℕ) → SettledByTrials j p → BasesMooreHodgson j p
  equal_moore_hodgson equal p d = trials_moore_hodgson j (accepted_sized j ok) ok.layers_in.low wide equal p d

  -- so settling the bases by it makes no difference to the marks.
  pub equal_marks :
      EqualBases j → (p q : ℕ → ℕ) → Choice j p → BasesMooreHodgson j p → ((n : ℕ) → Settles j p (suc n)) → SettledByTrials j q →
      marks_of j p ≡ marks_of j q
  equal_marks equal p q c b d dq =
      same_marks j p q (same_on_bases j p q c dq.choice d (λ n. dq.decided (suc n)) (λ h. same_moore_hodgson j p q b (equal_moore_hodgson equal q dq)))

  -- The plan's bases are those that it keeps, whether or not their sizes vary.
  pub plan_moore_hodgson : (p : ℕ → ℕ) → IsPlan j p → BasesMooreHodgson j p
  plan_moore_hodgson p d =
      either_way j (BasesMooreHodgson j p) d.moore_hodgson_lem (λ n. equal_moore_hodgson (equal_bases_if_not j (λ v. n (wide, v))) p ((elsewhere_iff j n p).0 d))

-- "No passing list, in any order, then carries more bases."
pub most_pictures : (j : Job) → Accepted j → (p : ℕ → ℕ) → IsPlan j p → MostPictures j p
most_pictures j ok p d wide list o =
    omega (
      arith,
      list_bases j ok.layers_in.low list o,
      count_cong (λ i. ltb 0 (p i)) (is_kept j) (chunks j) (λ i u v.
          let k = plan_moore_hodgson j ok wide p d i u v in
          same_test (ltb 0 (p i)) (is_kept j i) (λ t. k.0 (ltb→lt 0 (p i) t)) (λ t. lt→ltb 0 (p i) (k.1 t))),
    )

-- ---- skips

-- A plan skips no base exactly if document 01's way by itself skips none.
pub no_skip_either_way : (j : Job) → Accepted j → (p q : ℕ → ℕ) → IsPlan j p → SettledByTrials j q → NoSkip j p ↔ NoSkip j q
no_skip_either_way j ok p q dp dq =
    let a = no_skip_iff j ok.layers_in.low (accepted_sized j ok) p dp in
    let b = trials_no_skip_iff j ok.layers_in.low (accepted_sized j ok) q dq in
    (λ n. b.1 (a.0 n), λ n. a.1 (b.0 n))

-- Meaning, then its theorems. The refusals of the call that come after the job's own and 8: 21 and
-- 22, for the reasons of planning afresh. They are those of planning afresh with the job's forecast
-- unchanged, and none comes during an act.
use Rattle.std.specs.Prelude.{ℕ, suc, ◌-◌, ◌≤◌, ◌<◌, ◌≡◌, List, ◌↔◌, eqb, drop}
use Rattle.std.proofs.Common.{sym, ◌∙◌, ap, subst, ⊎_elim, arith, eqb→eq, length-drop}
use Rattle.theory_basics.specs.Refusals.{◌or_else◌, unless}
use Rattle.theory_basics.specs.lemmas.Refusals.{or_else_none, or_else_some}
use Rattle.theory_basics.specs.lemmas.Tables.{all_drop}
use Rattle.theory_basics.specs.lemmas.Tests.{test, neqb_ne}
use Rattle.job.specs.Job.{Accepted, Job, Within, forecast, last_slot}
use Rattle.fetch.specs.Rows.{Row}
use Rattle.fetch.specs.VerdictFrom.{slot_refusal}
use Rattle.fetch.proofs.Theorems.{slot_iff}
use Rattle.theory_replan.specs.Refusal.{before_refusal, fetched_kept, joined_unchanged, onward_iff, onward_refusal, replan_refusal_iff, replan_refusal}
use Rattle.theory_replan.specs.Statement.{Acceptable, joined}
use Rattle.theory_live.specs.Statement.{act}
use Rattle.theory_live.specs.Theorems.{act_is_safe}

-- 21 and 22, in this order. 22 asks the forecast of the slots before p alone: all rows are before
-- p.
unfoldable pub live_refusal : Job → ℕ → List Row → ℕ
live_refusal j p rows =
    slot_refusal j.programme p or_else before_refusal p rows or_else unless 22 (fetched_kept j rows)

-- ---- as planning afresh

-- Where the slot is in the job, what is left of an accepted job's forecast is not refused.
onward_none :
    (j : Job) → Accepted j → (p : ℕ) → slot_refusal j.programme p ≡ 0 →
    onward_refusal j p (drop (p - 1) j.forecast) ≡ 0
onward_none j ok p z =
    let s = (slot_iff j.programme p).0 z in
    (onward_iff j p (drop (p - 1) j.forecast)).1 (
      all_drop (Within 0 16777216) (p - 1) j.forecast ok.forecast_in_lem,
      omega (arith, length-drop (p - 1) j.forecast, ok.slots_in, s.low, s.high),
    )

-- For "the reasons of planning afresh": with the job's forecast unchanged from p on.
pub as_planning_afresh :
    (j : Job) → Accepted j → (p : ℕ) (rows : List Row) →
    replan_refusal j p rows (drop (p - 1) j.forecast) ≡ live_refusal j p rows
unfolding live_refusal replan_refusal
as_planning_afresh j ok p rows =
    let onward = drop (p - 1) j.forecast in
    let slot = slot_refusal j.programme p in
    let before = before_refusal p rows in
    let same : unless 22 (fetched_kept (joined j p onward) rows) ≡ unless 22 (fetched_kept j rows) =
    ap (λ (k : Job). unless 22 (fetched_kept k rows)) (joined_unchanged j p) in
    ⊎_elim
    (λ t.
    ap (λ (n : ℕ). slot or_else before or_else n)
    (or_else_none (onward_refusal j p onward) (unless 22 (fetched_kept (joined j p onward) rows)) (onward_none j ok p (eqb→eq slot 0 t)) ∙ same))
    (λ t.
    let n : slot ≡ 0 → ⊥ = neqb_ne slot 0 t in
    or_else_some slot (before or_else onward_refusal j p onward or_else unless 22 (fetched_kept (joined j p onward) rows)) n
    ∙ sym (or_else_some slot (before or_else unless 22 (fetched_kept j rows)) n))
    (test (eqb slot 0))

-- None exactly if the rows are acceptable.
pub live_refusal_iff :
    (j : Job) → Accepted j → (p : ℕ) (rows : List Row) → (live_refusal j p rows ≡ 0) ↔ Acceptable j p rows
live_refusal_iff j ok p rows =
    let onward = drop (p - 1) j.forecast in
    let e = as_planning_afresh j ok p rows in
    let r = replan_refusal_iff j p rows onward in (
      λ z. subst (λ (k : Job). Acceptable k p rows) (joined_unchanged j p) (r.0 (e ∙ z)).acceptable,
      λ a.
          sym e
          ∙ r.1
          (record {
            slots_in = omega (arith, length-drop (p - 1) j.forecast, ok.slots_in, a.p_low, a.p_high);
            onward_in = all_drop (Within 0 16777216) (p - 1) j.forecast ok.forecast_in_lem;
            acceptable = subst (λ (k : Job). Acceptable k p rows) (sym (joined_unchanged j p)) a;
          }),
    )

-- ---- an act

-- A desk that asks so from slot 1 on, with whatever rates and whatever the link brings, is never
-- refused by 22, nor by 21, in any slot to d(C), if the forecast of the slots gone covers what they
-- brought.
pub act_never_refused :
    (j : Job) → Accepted j → (rate got : ℕ → ℕ) (t : ℕ) → t < last_slot j →
    ((u : ℕ) → 1 ≤ u → u ≤ t → got u ≤ forecast j u) →
    live_refusal j (suc t) (act j rate got t) ≡ 0
act_never_refused j ok rate got t h f =
    (live_refusal_iff j ok (suc t) (act j rate got t)).1 (act_is_safe j ok rate got t h f)

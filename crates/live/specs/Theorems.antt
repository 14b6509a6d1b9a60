-- Theorems. The refusals of the call are those of planning afresh with the job's forecast
-- unchanged; where there is none, the asks are few and safe whatever the link brings.
use Rattle.std.specs.Prelude.{ℕ, suc, ◌≤◌, ◌<◌, ◌≡◌, List, [], ◌++◌, eqb, length}
use Rattle.std.proofs.Common.{sym, ◌∙◌, ap, ap₂, ⊎_elim, eqb→eq}
use Rattle.theory_basics.specs.Refusals.{◌or_else◌}
use Rattle.theory_basics.specs.lemmas.Refusals.{or_else_iff, or_else_none, or_else_some}
use Rattle.theory_basics.specs.lemmas.Tests.{test, neqb_ne}
use Rattle.job.specs.Input.{job_in, job_refusal}
use Rattle.job.specs.Theorems.{input_accepted}
use Rattle.job.specs.Job.{Accepted, forecast, last_slot}
use Rattle.fetch.specs.Input.{list_refusal}
use Rattle.fetch.specs.Rows.{Row}
use Rattle.theory_replan.specs.Refusal.{replan_refusal}
use Rattle.theory_replan.specs.Statement.{Acceptable, joined}
use Rattle.theory_live.specs.Refusal.{act_never_refused, as_planning_afresh, live_refusal_iff, live_refusal}
use Rattle.theory_live.specs.Statement.{act, taken_of}
use Rattle.theory_live.specs.Theorems.{at_most_2000, safe_whatever_forecast}
use Rattle.replan.specs.Answer as replan
use Rattle.live.specs.Answer.{fetched, input_refusal, LiveInput, pieces}
use Rattle.live.specs.lemmas.AsReplan.{as_replan}

module _ (i : LiveInput) where
  -- "In that order and for the same reasons as planning afresh."
  pub refused_as_replan : replan.input_refusal i.job (as_replan i) ≡ input_refusal i
  refused_as_replan =
      let job = job_refusal i.job in
      let list = list_refusal 0 [] i.rows.slots i.rows.chunks i.rows.layers i.rows.bytes in
      let theirs = replan_refusal (job_in i.job) i.slot (fetched i) (as_replan i).onward in
      let ours = live_refusal (job_in i.job) i.slot (fetched i) in
      ⊎_elim
      (λ t.
      let accepted = input_accepted i.job (eqb→eq job 0 t) in
      ap (λ (n : ℕ). job or_else list or_else n) (as_planning_afresh (job_in i.job) accepted i.slot (fetched i)))
      (λ t.
      let n : job ≡ 0 → ⊥ = neqb_ne job 0 t in
      or_else_some job (list or_else theirs) n ∙ sym (or_else_some job (list or_else ours) n))
      (test (eqb job 0))

  module _ (z : input_refusal i ≡ 0) where
    parts : (job_refusal i.job ≡ 0) × (live_refusal (job_in i.job) i.slot (fetched i) ≡ 0)
    parts =
        let job = job_refusal i.job in
        let list = list_refusal 0 [] i.rows.slots i.rows.chunks i.rows.layers i.rows.bytes in
        let own = live_refusal (job_in i.job) i.slot (fetched i) in
        let a = (or_else_iff job (list or_else own)).0 z in
        (a.0, ((or_else_iff list own).0 a.1).1)

    pub accepted : Accepted (job_in i.job)
    accepted = input_accepted i.job parts.0

    pub acceptable : Acceptable (job_in i.job) i.slot (fetched i)
    acceptable = (live_refusal_iff (job_in i.job) accepted i.slot (fetched i)).0 parts.1

    pub few_pieces : length (pieces i) ≤ 2000
    few_pieces = at_most_2000 (job_in i.job) accepted i.slot (fetched i) i.rate

    pub safe_pieces :
        i.slot < last_slot (job_in i.job) → (onward : List ℕ) (x : ℕ) →
        x ≤ forecast (joined (job_in i.job) i.slot onward) i.slot →
        Acceptable (joined (job_in i.job) i.slot onward) (suc i.slot)
        (fetched i ++ taken_of i.slot x (pieces i))
    safe_pieces h onward x l =
        safe_whatever_forecast (job_in i.job) i.slot (fetched i) i.rate accepted.slots_in acceptable h onward x l

-- "A desk that asks so from slot 1 on, with whatever rates and whatever the link brings, is never
-- refused by 22": in slot t + 1 the call, handed the rows of the act, is refused by nothing but 11.
pub act_not_refused :
    (i : LiveInput) → job_refusal i.job ≡ 0 →
    list_refusal 0 [] i.rows.slots i.rows.chunks i.rows.layers i.rows.bytes ≡ 0 →
    (rate got : ℕ → ℕ) (t : ℕ) → i.slot ≡ suc t → fetched i ≡ act (job_in i.job) rate got t →
    t < last_slot (job_in i.job) →
    ((u : ℕ) → 1 ≤ u → u ≤ t → got u ≤ forecast (job_in i.job) u) → input_refusal i ≡ 0
act_not_refused i a b rate got t e f h g =
    let job = job_refusal i.job in
    let list = list_refusal 0 [] i.rows.slots i.rows.chunks i.rows.layers i.rows.bytes in
    let own = live_refusal (job_in i.job) i.slot (fetched i) in
    or_else_none job (list or_else own) a ∙ or_else_none list own b
    ∙ ap₂ (λ (p : ℕ) (rows : List Row). live_refusal (job_in i.job) p rows) e f
    ∙ act_never_refused (job_in i.job) (input_accepted i.job a) rate got t h g

-- Lemmas. The refusals that are asked before 22, of the handed slices.
use Rattle.std.specs.Prelude.{ℕ, suc, ◌-◌, List, [], eqb, ltb, length}
use Rattle.theory_basics.specs.Refusals.{◌or_else◌, unless}
use Rattle.theory_basics.specs.Tests.{all}
use Rattle.job.specs.Input.{JobInput, job_refusal}
use Rattle.job.specs.Job.{last_due}
use Rattle.job.specs.Refusal.{bytes_refusal}
use Rattle.job.specs.declared.Programme.{Programme}
use Rattle.fetch.specs.Input.{list_refusal}
use Rattle.fetch.specs.VerdictFrom.{slot_refusal}
use Rattle.replan.specs.Answer.{ReplanInput}

-- 7, of the handed forecast.
abbrev pub part_refusal : Programme → ℕ → List ℕ → ℕ
part_refusal p from onward = bytes_refusal onward or_else unless 7 (eqb (length onward) (suc (last_due p) - from))

-- 5, 6, 18, 7, 8, 21 of the slot, 21 of the rows, 7.
abbrev pub asked_refusal : JobInput → ReplanInput → ℕ
asked_refusal h o =
    job_refusal h
    or_else list_refusal 0 [] o.slots o.chunks o.layers o.bytes
    or_else slot_refusal h.programme o.from
    or_else unless 21 (all (λ s. ltb s o.from) o.slots)
    or_else part_refusal h.programme o.from o.onward

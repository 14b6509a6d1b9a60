-- Lemmas. What planning afresh would be handed, with the job's forecast unchanged.
use Rattle.std.specs.Prelude.{◌-◌, drop}
use Rattle.replan.specs.Answer.{ReplanInput, replan_input}
use Rattle.live.specs.Answer.{LiveInput}

abbrev pub as_replan : LiveInput → ReplanInput
as_replan i =
    replan_input i.slot i.rows.slots i.rows.chunks i.rows.layers i.rows.bytes
    (drop (i.slot - 1) i.job.forecast)

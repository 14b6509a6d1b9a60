-- `trace::read_trace` meets its contract. Assumes nothing.
use Rattle.std.proofs.Common.{◌∙◌, sym}
use Rattle.trace.proofs.Answers.{read_none, read_many, read_refused, read_short, read_done}
use Rattle.refusals.specs.declared.Refusal.TheVariants.{TraceLine, TraceSlot}
use Rattle.trace.proofs.read_trace.Goals as goal
use Rattle.trace.proofs.read_trace.Goals.{then-slots-lt1-via-then-slots-lt1, then-slots-lt1-via-else-slots-lt1+then-slots-gt-SLOTS}

pub returns-then-slots-lt1 : goal.returns-then-slots-lt1
returns-then-slots-lt1 c =
    let a = c.args in
    elim c.then-slots-lt1.branch [
      | then-slots-lt1-via-then-slots-lt1 w ↦ read_none a.trace.now a.slots a.out.now w.if-slots-lt1.true
      | then-slots-lt1-via-else-slots-lt1+then-slots-gt-SLOTS w ↦ read_many a.trace.now a.slots a.out.now w.if-slots-gt-SLOTS.true
    ]

pub few_lines-requires : goal.few_lines-requires
few_lines-requires c = c.if-slots-gt-SLOTS.false

-- 14, then 15.
pub returns-then-not-count_lines : goal.returns-then-not-count_lines
returns-then-not-count_lines c =
    let a = c.args in
    let o = c.count_lines in
    read_refused a.trace.now a.slots a.out.now c.if-slots-lt1.false c.if-slots-gt-SLOTS.false o.new.counts o.array_long o.result o.ensures TraceLine (rw c.if-not-count_lines.true)

pub returns-then-not-few_lines : goal.returns-then-not-few_lines
returns-then-not-few_lines c =
    let a = c.args in
    let o = c.count_lines in
    read_refused a.trace.now a.slots a.out.now c.if-slots-lt1.false c.if-slots-gt-SLOTS.false o.new.counts o.array_long o.result o.ensures TraceSlot
    (rw (c.if-not-count_lines.false, sym c.few_lines.ensures ∙ c.if-not-few_lines.true))

pub returns-then-out-slots : goal.returns-then-out-slots
returns-then-out-slots c =
    let a = c.args in
    let o = c.count_lines in
    read_short a.trace.now a.slots a.out.now c.if-slots-lt1.false c.if-slots-gt-SLOTS.false o.new.counts o.array_long o.result o.ensures (rw (c.if-not-count_lines.false, sym c.few_lines.ensures ∙ c.if-not-few_lines.false)) c.if-out-slots.true

pub put_forecast-requires : goal.put_forecast-requires
put_forecast-requires c =
    let a = c.args in (
      c.if-slots-gt-SLOTS.false,
      c.if-out-slots.false,
      sym c.few_lines.ensures ∙ c.if-not-few_lines.false,
    )

pub returns : goal.returns
returns c =
    let a = c.args in
    let o = c.count_lines in
    read_done a.trace.now a.slots a.out.now c.if-slots-lt1.false c.if-slots-gt-SLOTS.false o.new.counts o.array_long o.result o.ensures
    (rw (c.if-not-count_lines.false, sym c.few_lines.ensures ∙ c.if-not-few_lines.false)) c.put_forecast.new.out c.if-out-slots.false c.put_forecast.ensures

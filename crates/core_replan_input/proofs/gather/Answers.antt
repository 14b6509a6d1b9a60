-- The passes over the rows, the chunks and the slots say what refusal 22 asks.
use mathlib.Core.Bool.{and_assoc}
use native.Mathlib.Omega.{arith}
use Rattle.fetch.specs.Rows.{rows_of}
use Rattle.core_rules.proofs.Exact.{due_most}
use Rattle.core_replan_input.proofs.Gathering.{gathered, gathered_none}
use Rattle.core_replan_input.proofs.gather.Goals as goal

pub sweep-held-requires : goal.sweep-held-requires
sweep-held-requires c =
    let o = c.requires in
    (o.chunks_few, omega (arith, c.last_due-last.ensures, o.slots_few), λ i h. due_most c.args.p i 3600 o.slots_few h, (c.tally-pass.ensures.tables c.if-pass.true).some_slot)

pub returns-else-pass : goal.returns-else-pass
returns-else-pass c =
    let a = c.args in
    gathered_none a.p a.table.now a.depth a.earlier.now (rows_of a.slots.now a.chunks.now a.layers.now a.bytes.now)
    _ c.last_due-last.ensures c.tally-pass.result _ _ _ c.tally-pass.ensures c.if-pass.false

pub returns-then-pass : goal.returns-then-pass
returns-then-pass c =
    let a = c.args in
    gathered a.p a.table.now a.depth a.earlier.now (rows_of a.slots.now a.chunks.now a.layers.now a.bytes.now)
    _ c.last_due-last.ensures c.tally-pass.result _ _ _ c.tally-pass.ensures c.if-pass.true
    c.set_flags-kept.result c.within-room.result c.sweep-held.result c.in_turn-turn.result
    c.set_left.ensures c.set_flags-kept.ensures c.within-room.ensures c.sweep-held.ensures c.in_turn-turn.ensures (simp and_assoc)

use mathlib.Core.Path.{ap}
use mathlib.Core.Bool.{◌&&◌}
use Prim.Native.Nat.{ℕ}
use native.Mathlib.Omega.{arith}
use lib.ListN.{get_or}
use lib.Dec.{leb}
use Rattle.core_rules.proofs.Rows.{tallying_start, tallying_end, tallying_stop, tallying_asks, tallying_more}
use Rattle.core_rules.proofs.tally.Goals as goal

pub loop-i-init : goal.loop-i-init
loop-i-init c =
    let a = c.args in
    let o = c.requires in
    tallying_start a.p a.last a.depth a.slots.now a.chunks.now a.layers.now a.bytes.now _ _ _ o.6 o.7 o.8

pub returns-then-not-in_range : goal.returns-then-not-in_range
returns-then-not-in_range c =
    let a = c.args in
    let l = c.loop-i in
    tallying_stop a.p a.last a.depth a.slots.now a.chunks.now a.layers.now a.bytes.now l.slotsum l.layersum l.first l.timely l.i l.invariant c.loop-i-test.true c.in_range.result c.in_range.ensures c.if-not-in_range.true

pub add_row-requires : goal.add_row-requires
add_row-requires c =
    let a = c.args in
    let o = c.requires in
    let l = c.loop-i in
    tallying_asks a.p a.last a.depth a.slots.now a.chunks.now a.layers.now a.bytes.now l.slotsum l.layersum l.first l.timely l.i l.invariant c.loop-i-test.true c.in_range.result c.in_range.ensures c.if-not-in_range.false o.0 o.1 o.2

pub loop-i-preserved : goal.loop-i-preserved
loop-i-preserved c =
    let a = c.args in
    let o = c.requires in
    let l = c.loop-i in
    let e = c.add_row.ensures in
    tallying_more a.p a.last a.depth a.slots.now a.chunks.now a.layers.now a.bytes.now l.slotsum l.layersum l.first l.timely l.i l.invariant c.loop-i-test.true c.in_range.result c.in_range.ensures c.if-not-in_range.false o.0 o.1 o.2 _ _ _ _ (c.add_row.array_long, c.add_row.array_long2, c.add_row.array_long3) e.0 e.1 e.2 (ap (λ (d : ℕ). l.timely && leb (get_or a.slots.now l.i 0) d) c.due_slot.ensures)

pub returns : goal.returns
returns c =
    let a = c.args in
    let l = c.loop-i in
    tallying_end a.p a.last a.depth a.slots.now a.chunks.now a.layers.now a.bytes.now l.slotsum l.layersum l.first l.timely l.i l.invariant (omega arith)

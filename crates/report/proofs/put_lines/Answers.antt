-- `report::put_lines` meets its contract. Assumes nothing.
use native.Mathlib.Nat.{one-le-mul}
use Rattle.report.proofs.Pieces.{room_one, room_two, room_three, room_four, room_five, whole}
use Rattle.report.proofs.put_lines.Goals as goal

pub slots_line-chunks-requires : goal.slots_line-chunks-requires
slots_line-chunks-requires c =
    let a = c.args in
    let o = c.requires in
    room_one a.p a.sizes.now a.table.now a.out.now a.depth a.spent a.left o.4 c.last_due-last.ensures c.held_most-held.ensures c.switch_sum-switch.ensures

pub chunk_lines-layers-requires : goal.chunk_lines-layers-requires
chunk_lines-layers-requires c =
    let a = c.args in
    let o = c.requires in
    (o.0, o.2, room_two a.p a.sizes.now a.table.now a.out.now a.depth a.spent a.left o.4 c.last_due-last.ensures c.held_most-held.ensures c.switch_sum-switch.ensures c.slots_line-chunks.ensures, o.5)

pub layers_line-bytes-requires : goal.layers_line-bytes-requires
layers_line-bytes-requires c =
    let a = c.args in
    let o = c.requires in
    (o.0, o.2, room_three a.p a.sizes.now a.table.now a.out.now a.depth a.spent a.left o.4 c.last_due-last.ensures c.held_most-held.ensures c.switch_sum-switch.ensures c.slots_line-chunks.ensures c.chunk_lines-layers.ensures)

pub bytes_line-end-requires : goal.bytes_line-end-requires
bytes_line-end-requires c =
    let a = c.args in
    let o = c.requires in
    room_four a.p a.sizes.now a.table.now a.out.now a.depth a.spent a.left o.4 c.last_due-last.ensures c.held_most-held.ensures c.switch_sum-switch.ensures c.slots_line-chunks.ensures c.chunk_lines-layers.ensures c.layers_line-bytes.ensures

pub switch_lines-requires : goal.switch_lines-requires
switch_lines-requires c =
    let a = c.args in
    let o = c.requires in
    (one-le-mul o.1 o.3, room_five a.p a.sizes.now a.table.now a.out.now a.depth a.spent a.left o.4 c.last_due-last.ensures c.held_most-held.ensures c.switch_sum-switch.ensures c.slots_line-chunks.ensures c.chunk_lines-layers.ensures c.layers_line-bytes.ensures c.bytes_line-end.ensures)

pub returns : goal.returns
returns c =
    let a = c.args in
    let o = c.requires in
    whole a.p a.sizes.now a.table.now a.out.now a.depth a.spent a.left o.4 c.last_due-last.ensures c.held_most-held.ensures c.switch_sum-switch.ensures c.slots_line-chunks.ensures c.chunk_lines-layers.ensures c.layers_line-bytes.ensures c.bytes_line-end.ensures c.switch_lines.ensures

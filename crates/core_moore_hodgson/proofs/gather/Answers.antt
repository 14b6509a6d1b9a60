use Rattle.std.proofs.Common.{arith}
use Rattle.core_moore_hodgson.proofs.Gathers.{gathering_start, gathering_pass, gathering_keep}
use Rattle.core_moore_hodgson.proofs.gather.Goals as goal
use Rattle.core_moore_hodgson.proofs.gather.Goals.{then-z-gt0, else-z-gt0}

pub loop-i-init : goal.loop-i-init
loop-i-init c = let a = c.args in gathering_start a.p a.tree.now a.ids.now a.dues.now a.bytes.now (c.told-ids, c.told-dues, c.told-bytes)

pub loop-i-preserved : goal.loop-i-preserved
loop-i-preserved c =
    let l = c.loop-i in
    let a = c.args in
    elim c.if-z-gt0.branch [
      | then-z-gt0 w ↦ rw (w.ids-is, w.dues-is, w.bytes-is, w.first-is, w.due_slot.ensures) (gathering_keep a.p a.tree.now l.ids l.dues l.bytes l.first l.i l.invariant (omega arith) c.requires.few (omega arith, omega arith, omega arith) w.if-z-gt0.true)
      | else-z-gt0 w ↦ rw (w.ids-is, w.dues-is, w.bytes-is, w.first-is) (gathering_pass a.p a.tree.now l.ids l.dues l.bytes l.first l.i l.invariant (omega arith) c.requires.few w.if-z-gt0.false)
    ]

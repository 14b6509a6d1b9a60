use Rattle.jobrecords.proofs.Steps.{going_start}
use Rattle.jobrecords.proofs.read_all.Goals as goal

pub loop-more-init : goal.loop-more-init
loop-more-init c = let a = c.args in rw c.nothing-j.ensures (going_start a.sequenced a.file.now a.sizes.now a.slots.now c.told-sizes c.told-slots)

-- `find_stretch` meets its contract: both passes give the stretch of every choice that the tables
-- hold. Assumes nothing.
use native.Mathlib.Omega.{arith}
use Rattle.core_reasons.proofs.Both.{named_found, named_none}
use Rattle.core_reasons.proofs.passes.find_stretch.Goals as goal

pub find_begin-begin-requires : goal.find_begin-begin-requires
find_begin-begin-requires c =
    let o = c.requires in
    record { low = omega (arith, c.find_late-m.ensures); high = c.if-m-lt-CHUNKS.true; sums = o.sums; begins = o.begins }

pub returns-then-m-lt-CHUNKS : goal.returns-then-m-lt-CHUNKS
returns-then-m-lt-CHUNKS c =
    let a = c.args in
    named_found a.after.now a.dues.now a.ready.now a.bytes.now a.first c.requires c.told-dues c.find_late-m.result c.find_late-m.ensures c.find_begin-begin.result c.saturating_sub-most.result c.saturating_sub-most.ensures c.find_begin-begin.ensures

pub returns-else-m-lt-CHUNKS : goal.returns-else-m-lt-CHUNKS
returns-else-m-lt-CHUNKS c =
    let a = c.args in
    named_none a.after.now a.dues.now a.ready.now a.bytes.now a.first c.requires c.told-dues c.find_late-m.result c.find_late-m.ensures _ c.if-m-lt-CHUNKS.false

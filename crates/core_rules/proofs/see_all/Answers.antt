use Rattle.core_sizes.specs.Table.{table_at}
use Rattle.core_rules.proofs.Seeing.{seen_more}
use Rattle.core_rules.proofs.see_all.Goals as goal

pub loop-i-preserved : goal.loop-i-preserved
loop-i-preserved c =
    let a = c.args in
    let l = c.loop-i in
    seen_more (table_at a.table.now) a.layersum.now a.marks.now a.depth l.i (record { whole = l.whole; lower = l.lower; said = l.said }) c.see_chunk-seen.result l.invariant c.see_chunk-seen.ensures

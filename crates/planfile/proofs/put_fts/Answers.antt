use Rattle.std.proofs.Common.{refl, arith}
use Rattle.planfile.specs.lemmas.Writing.{put_start, put_more, put_rows}
use Rattle.planfile.proofs.Writer.{ft_at}
use Rattle.planfile.proofs.put_fts.Goals as goal

pub loop-i-init : goal.loop-i-init
loop-i-init c = let a = c.args in let r = a.rows.now in put_start a.out.now a.from (ft_at r.slots.now r.chunks.now r.layers.now r.bytes.now) (omega arith)

pub loop-i-preserved : goal.loop-i-preserved
loop-i-preserved c =
    let a = c.args in
    let r = a.rows.now in
    let l = c.loop-i in
    put_more 11 a.out.now a.from (ft_at r.slots.now r.chunks.now r.layers.now r.bytes.now) (λ k. refl) l.i l.out l.invariant (omega arith) _ (omega arith) _ c.put_ft.ensures

pub returns : goal.returns
returns c =
    let a = c.args in
    let r = a.rows.now in
    let l = c.loop-i in
    put_rows a.out.now a.from r.slots.now r.chunks.now r.layers.now r.bytes.now l.i l.out l.invariant (omega arith)

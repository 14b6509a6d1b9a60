use Rattle.std.proofs.Common.{◌+◌, ◌*◌, refl, ◌∙◌, arith}
use Rattle.records.specs.lemmas.Places.{w_four}
use Rattle.job.specs.Job.{Override}
use Rattle.jobrecords.proofs.Copies.{column_more}
use Rattle.jobrecords.proofs.gather.Goals as goal

pub loop-i-preserved : goal.loop-i-preserved
loop-i-preserved c =
    let a = c.args in
    let l = c.loop-i in
    let v = l.invariant in
    let s = a.file.now in record {
      chunks = column_more (λ (o : Override). o.chunk) s a.from a.cs.now l.cs l.i _ v.chunks (omega (arith, v.chunks.long)) c.h_at.ensures;
      layers = column_more (λ (o : Override). o.layer) s a.from a.ls.now l.ls l.i _ v.layers (omega (arith, v.layers.long)) refl;
      bytes = column_more (λ (o : Override). o.bytes) s a.from a.bs.now l.bs l.i _ v.bytes (omega (arith, v.bytes.long)) (c.w_at.ensures ∙ w_four s (a.from + 9 * l.i + 5));
    }

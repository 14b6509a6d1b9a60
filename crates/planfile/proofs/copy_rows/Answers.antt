use Rattle.std.proofs.Common.{◌+◌, ◌*◌, refl, ◌∙◌, arith}
use Rattle.records.specs.lemmas.Places.{w_four}
use Rattle.planfile.specs.lemmas.Scan.{filled_more}
use Rattle.planfile.proofs.Reader.{slot_on, chunk_on, layer_on, bytes_on}
use Rattle.planfile.proofs.copy_rows.Goals as goal

pub loop-i-preserved : goal.loop-i-preserved
loop-i-preserved c =
    let a = c.args in
    let file = a.file.now in
    let l = c.loop-i in
    let v = l.invariant in record {
      slots = filled_more (slot_on file a.count) l.i a.slots.now l.slots v.slots (omega arith) c.h_at.result c.h_at.ensures;
      chunks = filled_more (chunk_on file a.count) l.i a.chunks.now l.chunks v.chunks (omega arith) c.h_at-in-loop-i.result c.h_at-in-loop-i.ensures;
      layers = filled_more (layer_on file a.count) l.i a.layers.now l.layers v.layers (omega arith) _ refl;
      bytes = filled_more (bytes_on file a.count) l.i a.bytes.now l.bytes v.bytes (omega arith) c.w_at.result (c.w_at.ensures ∙ w_four file (5 * a.count + 11 * l.i + 7));
    }

use Rattle.planfile.specs.lemmas.Scan.{Filled}
use Rattle.planfile.proofs.Reader.{slot_on, chunk_on, layer_on, bytes_on}
use Rattle.planfile.proofs.copy_rows.Given as goal

abbrev pub invariant-loop-i : goal.invariant-loop-i
invariant-loop-i l = record {
  slots : Filled (slot_on l.file l.count) l.i l.initial.slots l.slots;
  chunks : Filled (chunk_on l.file l.count) l.i l.initial.chunks l.chunks;
  layers : Filled (layer_on l.file l.count) l.i l.initial.layers l.layers;
  bytes : Filled (bytes_on l.file l.count) l.i l.initial.bytes l.bytes;
}

-- `report::write_lines` meets its contract. Assumes nothing.
use mathlib.Core.Path.{sym}
use lib.Seq.{length-take-le}
use Rattle.core_text.specs.lemmas.Places.{put_front}
use Rattle.report.proofs.write_lines.Goals as goal

pub slice_bounds-text-end : goal.slice_bounds-text-end
slice_bounds-text-end c = (put_front c.requires.4 c.put_lines-n.ensures).0

pub slice_bounds-copy_out-end : goal.slice_bounds-copy_out-end
slice_bounds-copy_out-end c = sym (length-take-le _ _ (put_front c.requires.4 c.put_lines-n.ensures).0)

pub returns : goal.returns
returns c = rw (put_front c.requires.4 c.put_lines-n.ensures).1 at c.copy_out.ensures

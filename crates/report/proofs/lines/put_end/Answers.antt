-- `report::put_end` meets its contract. Assumes nothing.
use native.Mathlib.Omega.{arith}
use Rattle.core_text.specs.lemmas.Places.{put_byte}
use Rattle.report.proofs.lines.put_end.Goals as goal

pub returns : goal.returns
returns c = let a = c.args in put_byte a.out.now a.at 10 (omega arith)

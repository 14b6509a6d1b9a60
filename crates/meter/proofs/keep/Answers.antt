-- `meter::keep` meets its contract: cell by cell, and the count, at most ten.
use native.Mathlib.Omega.{arith}
use Rattle.std.proofs.Common.{rules}
use Rattle.meter.specs.Meter.{sample}
use Rattle.meter.proofs.Laws.{stored}
use Rattle.meter.proofs.keep.Goals as goal

pub returns : goal.returns
returns c =
    rw (c.next_cells.ensures, c.next_cells-2.ensures)
    (stored c.args.m (sample c.args.slot c.args.bytes) c.min.result (omega arith) (search rules) (omega arith) c.min.ensures)

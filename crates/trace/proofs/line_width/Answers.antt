-- `trace::line_width` meets its contract. Assumes nothing.
use native.Mathlib.Omega.{arith}
use Rattle.trace.proofs.Widths.{width_none, width_one, width_two, width_three, width_four}
use Rattle.trace.proofs.line_width.Goals as goal

pub returns-in-0 : goal.returns-in-0
returns-in-0 c = (width_none c.args.t (omega arith), omega arith)

pub returns-in-1-to-9 : goal.returns-in-1-to-9
returns-in-1-to-9 c = (width_one c.args.t (omega arith) (omega arith), omega arith)

pub returns-in-10-to-99 : goal.returns-in-10-to-99
returns-in-10-to-99 c = (width_two c.args.t (omega arith) (omega arith), omega arith)

pub returns-in-100-to-999 : goal.returns-in-100-to-999
returns-in-100-to-999 c = (width_three c.args.t (omega arith) (omega arith), omega arith)

pub returns-in_default : goal.returns-in_default
returns-in_default c = (width_four c.args.t (omega arith) c.requires, omega arith)

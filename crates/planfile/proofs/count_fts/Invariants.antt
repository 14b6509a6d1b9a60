use Rattle.std.specs.Prelude.{◌+◌, ◌*◌, ◌-◌, length}
use Rattle.planfile.specs.lemmas.Scan.{FtsRead}
use Rattle.planfile.proofs.count_fts.Given as goal

abbrev pub invariant-loop-rows : goal.invariant-loop-rows
invariant-loop-rows l = FtsRead l.file l.from l.rows (l.from + 11 * l.rows)

abbrev pub decreases-loop-rows : goal.decreases-loop-rows
decreases-loop-rows l = length l.file - (l.from + 11 * l.rows)

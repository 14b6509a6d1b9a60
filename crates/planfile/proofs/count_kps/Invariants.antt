use Rattle.std.specs.Prelude.{◌*◌}
use Rattle.planfile.specs.lemmas.Scan.{Scanned}
use Rattle.planfile.proofs.count_kps.Given as goal

abbrev pub invariant-loop-kept : goal.invariant-loop-kept
invariant-loop-kept l = Scanned l.count l.file (5 * l.kept) l.kept 0

-- `count_held` meets its contract: held of the chunks up to i.
use mathlib.Core.Path.{◌≡◌}
use mathlib.Core.Bool.{◌&&◌}
use lib.Dec.{ltb}
use Rattle.theory_basics.specs.Sums.{count}
use Rattle.job.specs.Job.{due_slot}
use Rattle.core_live.specs.lemmas.ByTables.{begun_at}
use Rattle.core_live.proofs.count_held.Given as goal

abbrev pub invariant-loop-i : goal.invariant-loop-i
invariant-loop-i l = l.held ≡ count (λ k. begun_at l.begun k && ltb l.start (due_slot l.p k)) l.i

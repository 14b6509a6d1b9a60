use mathlib.Core.Bool.{◌&&◌}
use native.Mathlib.Omega.{arith}
use lib.Dec.{ltb}
use Rattle.theory_basics.specs.lemmas.Ranges.{bit_le, count_small}
use Rattle.job.specs.Job.{due_slot}
use Rattle.core_live.specs.lemmas.ByTables.{begun_at}
use Rattle.core_live.proofs.Laws.{byte_is}
use Rattle.core_live.proofs.count_held.Goals as goal

pub overflow_add-held : goal.overflow_add-held
overflow_add-held c =
    let a = c.args in
    let few = count_small c.loop-i.i (λ k. begun_at a.begun.now k && ltb a.start (due_slot a.p k)) in
    omega (arith, byte_is c.is_held.result, bit_le c.is_held.result, c.loop-i.invariant, few)

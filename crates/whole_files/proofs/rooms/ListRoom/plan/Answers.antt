use native.Mathlib.Omega.{arith}
use Rattle.std.proofs.lemmas.Result.{err_from_is_err_and}
use Rattle.fetch.specs.Slices.{slices_of}
use Rattle.job.specs.Handed.{handed}
use Rattle.whole_files.proofs.Fronts.{Roomy}
use Rattle.whole_files.proofs.Planning.{plan_made, plan_refused}
use Rattle.whole_files.proofs.rooms.ListRoom.plan.Goals as goal

pub returns-in_err-made : goal.returns-in_err-made
returns-in_err-made c =
    let s = c.args.self.now in
    let lent = slices_of s.marks s.slots s.chunks s.layers s.bytes in
    let roomy : Roomy lent = record { marks = omega arith; slots = omega arith; chunks = omega arith; layers = omega arith; bytes = omega arith } in
    let p = err_from_is_err_and c.from_residual.result c.from_residual.ensures.1 in
    rw (p.1, p.2) (plan_refused (handed c.args.job.now) lent roomy _ c.in_err-made.ensures.promise.output)

pub returns : goal.returns
returns c =
    let s = c.args.self.now in
    let lent = slices_of s.marks s.slots s.chunks s.layers s.bytes in
    let roomy : Roomy lent = record { marks = omega arith; slots = omega arith; chunks = omega arith; layers = omega arith; bytes = omega arith } in
    plan_made (handed c.args.job.now) lent roomy c.in_ok-made.made _ c.in_ok-made.ensures.promise.output

use native.Mathlib.Omega.{arith}
use Rattle.fetch.specs.Slices.{slices_of}
use Rattle.job.specs.Handed.{handed}
use Rattle.whole_files.proofs.Fronts.{Roomy}
use Rattle.whole_files.proofs.Judging.{file_read}
use Rattle.whole_files.proofs.rooms.ListRoom.read.Goals as goal

pub returns : goal.returns
returns c =
    let s = c.args.self.now in
    let lent = slices_of s.marks s.slots s.chunks s.layers s.bytes in
    let roomy : Roomy lent = record { marks = omega arith; slots = omega arith; chunks = omega arith; layers = omega arith; bytes = omega arith } in
    file_read (handed c.args.job.now) c.args.file.now lent roomy c.read_plan.result _ c.read_plan.ensures.promise

use native.Mathlib.Omega.{arith}
use Rattle.jobrecords.specs.Reader.{buffers}
use Rattle.whole_files.proofs.Reading.{Roomy, reads}
use Rattle.whole_files.proofs.rooms.JobRoom.read.Goals as goal

pub returns : goal.returns
returns c =
    let s = c.args.self.now in
    let lent = buffers s.sizes s.chunks s.layers s.bytes s.forecast in
    let roomy : Roomy lent = record { sizes = omega arith; chunks = omega arith; layers = omega arith; bytes = omega arith; slots = omega arith } in
    reads c.args.file.now lent roomy c.read_job.result _ c.read_job.ensures.promise

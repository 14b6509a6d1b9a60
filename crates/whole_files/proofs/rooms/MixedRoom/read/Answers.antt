use native.Mathlib.Omega.{arith}
use Rattle.whole_files.proofs.Reading.{reads_mixed}
use Rattle.whole_files.proofs.rooms.MixedRoom.read.Goals as goal

pub returns : goal.returns
returns c =
    let s = c.args.self.now in
    reads_mixed c.args.file.now s.sizes s.forecast (omega arith) (omega arith) c.read_mixed_job.result _ c.read_mixed_job.ensures

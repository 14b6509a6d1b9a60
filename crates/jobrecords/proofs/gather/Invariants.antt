use Rattle.job.specs.Job.{Override}
use Rattle.jobrecords.proofs.Copies.{Column}
use Rattle.jobrecords.proofs.gather.Given as goal

abbrev pub invariant-loop-i : goal.invariant-loop-i
invariant-loop-i l = record {
  chunks : Column (λ (o : Override). o.chunk) l.file l.from l.initial.cs l.cs l.i;
  layers : Column (λ (o : Override). o.layer) l.file l.from l.initial.ls l.ls l.i;
  bytes : Column (λ (o : Override). o.bytes) l.file l.from l.initial.bs l.bs l.i;
}

use Rattle.std.specs.Prelude.{map}
use Rattle.jobfile.specs.Writer.{layer_record}
use Rattle.jobfile.specs.lemmas.Puts.{Underway}
use Rattle.jobfile.proofs.Queues.{layers_from}
use Rattle.jobfile.proofs.put_layers.Given as goal

abbrev pub invariant-loop-size : goal.invariant-loop-size
invariant-loop-size l = Underway l.initial.out l.at (map layer_record l.sizes) (layers_from l.sizes l.size-index) l.out l.next

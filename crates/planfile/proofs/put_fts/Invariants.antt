use Rattle.planfile.specs.lemmas.Writing.{Put}
use Rattle.planfile.proofs.Writer.{ft_at}
use Rattle.planfile.proofs.put_fts.Given as goal

abbrev pub invariant-loop-i : goal.invariant-loop-i
invariant-loop-i l = let r = l.rows in Put l.initial.out l.from (ft_at r.slots.now r.chunks.now r.layers.now r.bytes.now) l.i l.out

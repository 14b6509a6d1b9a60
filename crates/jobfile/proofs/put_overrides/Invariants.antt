use Rattle.jobfile.specs.lemmas.Puts.{Underway}
use Rattle.jobfile.proofs.Queues.{overrides_from}
use Rattle.jobfile.proofs.put_overrides.Given as goal

abbrev pub invariant-loop-i : goal.invariant-loop-i
invariant-loop-i l =
    let o = l.sz in
    Underway l.initial.out l.at (overrides_from o.chunks.now o.layers.now o.bytes.now 0) (overrides_from o.chunks.now o.layers.now o.bytes.now l.i) l.out l.next

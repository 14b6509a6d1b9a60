-- `wait_of` meets its contract: Levels says what a set waits for as it stands in tables.
use mathlib.Core.Path.{sym}
use native.Mathlib.Omega.{arith}
use Rattle.core_covering.specs.lemmas.Levels.{chunk_before, wait_none, wait_some}
use Rattle.core_covering.proofs.wait_of.Goals as goal

pub bounds-opens-from : goal.bounds-opens-from
bounds-opens-from c =
    let o = c.requires in
    let s = o.set_in in
    let k = chunk_before _ _ _ _ s c.args.q o.inside c.if-at-held.false in
    omega (arith, k.1, s.accepted.chunks_in.high)

pub returns-then-at-held : goal.returns-then-at-held
returns-then-at-held c = λ j o. sym (wait_none j _ _ _ o c.args.q c.requires.inside c.if-at-held.true)

pub returns-else-at-held : goal.returns-else-at-held
returns-else-at-held c = λ j o.
    rw c.from.ensures (sym (wait_some j _ _ _ o c.args.q c.requires.inside c.if-at-held.false))

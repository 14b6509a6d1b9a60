use native.Mathlib.Omega.{arith}
use Rattle.reasons.proofs.Spreads.{chunk_in, spreading_end, spreading_more}
use Rattle.reasons.proofs.tables.set_levels.Goals as goal

pub overflow_sub-at : goal.overflow_sub-at
overflow_sub-at c = let a = c.args in let o = c.requires in let l = c.loop-q in let r = chunk_in a.ids.now a.mark.now a.first a.levels.now o.0 o.1 o.2 o.3 l.levels l.q l.invariant (omega arith) in omega (arith, r.low)

pub bounds-levels-at : goal.bounds-levels-at
bounds-levels-at c = let a = c.args in let o = c.requires in let l = c.loop-q in let r = chunk_in a.ids.now a.mark.now a.first a.levels.now o.0 o.1 o.2 o.3 l.levels l.q l.invariant (omega arith) in omega (arith, r.low, r.high, l.invariant.long)

pub loop-q-preserved : goal.loop-q-preserved
loop-q-preserved c = let a = c.args in let o = c.requires in let l = c.loop-q in rw c.layers_in.ensures (spreading_more a.ids.now a.mark.now a.first a.levels.now o.0 o.1 o.2 o.3 l.levels l.q l.invariant (omega arith))

pub returns : goal.returns
returns c = let a = c.args in let o = c.requires in let l = c.loop-q in (l.invariant.long, spreading_end a.ids.now a.mark.now a.first a.levels.now o.0 o.1 o.2 o.3 l.levels l.q l.invariant (omega arith))

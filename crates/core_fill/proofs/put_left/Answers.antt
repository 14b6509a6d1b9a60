use Rattle.std.proofs.Common.{sym, ◌∙◌, arith}
use Rattle.core_fill.proofs.Chunks.{set_below, clear_from}
use Rattle.core_fill.proofs.Left.{layer_from, layering_end, layering_more, layering_skip}
use Rattle.core_fill.proofs.put_left.Goals as goal
use Rattle.core_fill.proofs.put_left.Goals.{then-z-gt0, else-z-gt0}

pub size_in-z-requires : goal.size_in-z-requires
size_in-z-requires c =
    let a = c.args in
    let h = set_below a.mark c.requires.asks.levels.closed c.loop-z.n (sym c.has.ensures ∙ c.loop-z-test.true) in
    (c.requires.asks.chunk_in, omega (arith, c.requires.asks.levels.high))

pub put_layer-at-requires : goal.put_layer-at-requires
put_layer-at-requires c =
    let a = c.args in
    let h = set_below a.mark c.requires.asks.levels.closed c.loop-z.n (sym c.has.ensures ∙ c.loop-z-test.true) in
    let z = c.size_in-z.ensures in
    rw z (layer_from c.requires c.loop-z.invariant h (rw z at c.if-z-gt0.true))

pub loop-z-preserved : goal.loop-z-preserved
loop-z-preserved c =
    let a = c.args in
    let h = set_below a.mark c.requires.asks.levels.closed c.loop-z.n (sym c.has.ensures ∙ c.loop-z-test.true) in
    let z = c.size_in-z.ensures in
    elim c.if-z-gt0.branch [
      | then-z-gt0 w ↦ rw (w.slots-is, w.chunks-is, w.layers-is, w.bytes-is, w.at-is) (layering_more c.requires c.loop-z.invariant h (rw z at w.if-z-gt0.true) (rw z at w.put_layer-at.ensures))
      | else-z-gt0 w ↦ rw (w.slots-is, w.chunks-is, w.layers-is, w.bytes-is, w.at-is) (layering_skip c.requires c.loop-z.invariant h (rw z at w.if-z-gt0.false))
    ]

pub returns : goal.returns
returns c =
    let a = c.args in
    let h = clear_from a.mark c.requires.asks.levels.closed c.loop-z.n (sym c.has.ensures ∙ c.loop-z-test.false) in
    layering_end c.requires c.loop-z.invariant h

pub overflow_add-n : goal.overflow_add-n
overflow_add-n c = omega (arith, set_below c.args.mark c.requires.asks.levels.closed c.loop-z.n (sym c.has.ensures ∙ c.loop-z-test.true), c.requires.asks.levels.high)

pub loop-z-smaller : goal.loop-z-smaller
loop-z-smaller c = omega (arith, set_below c.args.mark c.requires.asks.levels.closed c.loop-z.n (sym c.has.ensures ∙ c.loop-z-test.true))

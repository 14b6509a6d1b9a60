use Prim.Native.Nat.{ℕ, ◌+◌, ◌*◌, ◌-◌}
use mathlib.Core.Path.{◌≡◌, ap, sym, ◌∙◌}
use native.Mathlib.Omega.{arith}
use native.Mathlib.Numerals.{add-one}
use lib.ListN.{get_or}
use lib.Dec.{eqb}
use borrow.Author.Tests.{eq-eqb, ne_eqb}
use Rattle.core_sizes.specs.Table.{table_at}
use Rattle.core_rules.specs.lemmas.Tables.{carried_by}
use Rattle.core_rules.proofs.Seeing.{seen_carried, seen_missing}
use Rattle.core_rules.proofs.see_chunk.Goals as goal
use Rattle.core_rules.proofs.see_chunk.Goals.{then-carried, else-carried}

pub loop-n-preserved : goal.loop-n-preserved
loop-n-preserved c =
    let a = c.args in
    let l = c.loop-n in
    let size : ℕ → ℕ → ℕ = table_at a.table.now in
    let e : eqb (get_or a.layersum.now (4 * (a.i - 1) + l.n) 0) c.size_at.result ≡ carried_by size a.layersum.now a.i l.n = ap (eqb (get_or a.layersum.now (4 * (a.i - 1) + l.n) 0)) c.size_at.ensures in (
      elim c.if-carried.branch [
        | then-carried w ↦ rw (w.mark-is, w.whole-is, w.lower-is, w.with-mark.ensures) (seen_carried size a.layersum.now a.i l.n l.mark l.whole l.lower l.below l.invariant.0 l.invariant.1 (omega arith) (sym e ∙ eq-eqb _ _ w.if-carried.true))
        | else-carried w ↦ rw (w.mark-is, w.whole-is, w.lower-is) (seen_missing size a.layersum.now a.i l.n l.mark l.whole l.lower l.below l.invariant.0 l.invariant.1 (omega arith) (sym e ∙ ne_eqb _ _ w.if-carried.false))
      ],
      rw add-one e,
    )

pub returns : goal.returns
returns c =
    let l = c.loop-n in
    let e : l.n ≡ c.args.depth = omega arith in
    rw e at l.invariant.0

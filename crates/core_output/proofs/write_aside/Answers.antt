-- `write_aside` meets its contract: what was laid out aside is copied whole, or nothing is written.
use mathlib.Core.Path.{refl}
use Prim.Native.Nat.{ℕ}
use lib.ListN.{length-replicate}
use Rattle.core_slices.proofs.Laws.{bytes_aside, chunks_aside, layers_aside, slots_aside, four_hold}
use Rattle.core_output.proofs.Writing.{aside_from, few_aside, laid_copied, laid_short, marks_room}
use Rattle.core_output.proofs.write_aside.Goals as goal

pub fill-made-requires : goal.fill-made-requires
fill-made-requires c = aside_from c.requires (length-replicate {A = ℕ} 500 0) (length-replicate {A = ℕ} 5599 0) (length-replicate {A = ℕ} 5599 0) (length-replicate {A = ℕ} 5599 0) (length-replicate {A = ℕ} 5599 0)

pub copy_over-requires : goal.copy_over-requires
copy_over-requires c =
    let o = c.requires in
    (marks_room o c.fill-made.ensures (length-replicate {A = ℕ} 500 0), o.marks_fit)

pub copy_over-requires-then-fits : goal.copy_over-requires-then-fits
copy_over-requires-then-fits c =
    let o = c.requires in
    (slots_aside c.fill-made.ensures (few_aside o c.fill-made.ensures) (length-replicate {A = ℕ} 5599 0), (four_hold _ _ _ _ _ c.all_at_least-fits.ensures c.if-fits.true).0)

pub copy_over-requires-then-fits-2 : goal.copy_over-requires-then-fits-2
copy_over-requires-then-fits-2 c =
    let o = c.requires in
    (chunks_aside c.fill-made.ensures (few_aside o c.fill-made.ensures) (length-replicate {A = ℕ} 5599 0), (four_hold _ _ _ _ _ c.all_at_least-fits.ensures c.if-fits.true).1)

pub copy_over-requires-then-fits-3 : goal.copy_over-requires-then-fits-3
copy_over-requires-then-fits-3 c =
    let o = c.requires in
    (layers_aside c.fill-made.ensures (few_aside o c.fill-made.ensures) (length-replicate {A = ℕ} 5599 0), (four_hold _ _ _ _ _ c.all_at_least-fits.ensures c.if-fits.true).2)

pub copy_over-requires-then-fits-4 : goal.copy_over-requires-then-fits-4
copy_over-requires-then-fits-4 c =
    let o = c.requires in
    (bytes_aside c.fill-made.ensures (few_aside o c.fill-made.ensures) (length-replicate {A = ℕ} 5599 0), (four_hold _ _ _ _ _ c.all_at_least-fits.ensures c.if-fits.true).3)

pub returns-then-fits : goal.returns-then-fits
returns-then-fits c =
    let a = c.args in
    laid_copied c.requires c.fill-made.ensures a.slots.now a.chunks.now a.layers.now a.bytes.now c.all_at_least-fits.ensures _ refl refl c.if-fits.true c.if-fits.true c.copy_over.ensures c.copy_over-then-fits.ensures c.copy_over-then-fits-2.ensures c.copy_over-then-fits-3.ensures c.copy_over-then-fits-4.ensures

pub returns-else-fits : goal.returns-else-fits
returns-else-fits c =
    let a = c.args in
    laid_short c.requires c.fill-made.ensures a.slots.now a.chunks.now a.layers.now a.bytes.now c.all_at_least-fits.ensures _ refl refl c.if-fits.false c.if-fits.false

-- `decide` meets its contract: what the tables hold at the end is the plan.
use lib.ListN.{length, length-replicate}
use Prim.Native.Nat.{ℕ}
use Rattle.core_sizes.specs.Table.{table_at}
use Rattle.core_decide.proofs.Decided.{sums_small, kept_from, decides}
use Rattle.core_decide.proofs.decide.Goals as goal

pub sum_after-requires : goal.sum_after-requires
sum_after-requires c = (c.requires.part_in, length-replicate {A = ℕ} 3601 (length c.args.part.now))

pub settle_bases-first-requires : goal.settle_bases-first-requires
settle_bases-first-requires c =
    let a = c.args in
    let o = c.requires in
    let s = c.sum_after.ensures in
    record { from = record { few = o.few; late = o.late; ends = o.ends; small = o.small; sums = sums_small a.p a.layers (table_at a.table.now) a.start a.part.now a.ids.now a.ready.now a.mark.now o _ s; long = (s.long, o.long.0, length-replicate {A = ℕ} 500 0, length-replicate {A = ℕ} 500 0, length-replicate {A = ℕ} 500 (length a.part.now)) }; least = o.least }

pub settle_kept-requires : goal.settle_kept-requires
settle_kept-requires c =
    let a = c.args in
    let b = c.settle_bases-first.ensures in
    kept_from a.p a.layers (table_at a.table.now) a.start a.part.now a.ids.now a.ready.now a.mark.now c.requires c.sum_after.ensures b.kept_in _ b.room

pub returns : goal.returns
returns c =
    let a = c.args in
    decides a.p a.layers (table_at a.table.now) a.start a.part.now a.ids.now a.ready.now a.mark.now c.requires _ c.sum_after.ensures _ _ _ _ c.settle_bases-first.ensures.kept_in _ _ c.settle_kept.ensures

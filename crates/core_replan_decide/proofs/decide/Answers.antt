-- `decide` meets its contract: what the tables hold at the end is the plan made afresh.
use Rattle.core_replan_decide.proofs.Decided.{begun_from_lem, decides, front_falls, layers_from_lem, sums_small}
use mathlib.Core.Path.{refl}
use Prim.Native.Nat.{ℕ}
use native.Mathlib.Omega.{arith}
use lib.ListN.{length, length-replicate}
use Rattle.core_replan_decide.proofs.decide.Goals as goal

pub new_bases-new-requires : goal.new_bases-new-requires
new_bases-new-requires c =
    let a = c.args in
    let o = c.requires in
    let s = c.sum_after.ensures in
    record { fine = o.fine; most_held = omega (arith, c.held_most-held); within = c.last_begun-last.ensures.within; small = o.small; sums = sums_small o s; fb_in = c.find_front-head.ensures.within; falls = front_falls s c.find_front-head.ensures; long = (s.long, c.find_front-head.ensures.long.1, o.long.2, length-replicate {A = ℕ} 500 0, length-replicate {A = ℕ} 500 0, o.long.4, length-replicate {A = ℕ} 500 (length a.part.now)) }

pub keep_begun-first-requires : goal.keep_begun-first-requires
keep_begun-first-requires c = begun_from_lem c.requires c.sum_after.ensures c.last_begun-last.ensures.within c.find_front-head.ensures c.new_bases-new.ensures c.need_at-need.ensures

pub set_releases-requires : goal.set_releases-requires
set_releases-requires c = (c.keep_begun-first.ensures.within, c.keep_begun-first.ensures.long.1, c.requires.long.3)

pub settle_layers-requires : goal.settle_layers-requires
settle_layers-requires c = layers_from_lem c.requires c.held_most-held.result c.sum_after.ensures c.keep_begun-first.ensures c.set_releases.ensures.0 c.set_releases.ensures.1 c.new_bases-new.ensures.long.4

pub returns : goal.returns
returns c = decides c.requires c.sum_after.ensures c.last_begun-last.ensures c.find_front-head.ensures c.held_most-held.ensures c.new_bases-new.ensures c.need_at-need.ensures c.keep_begun-first.ensures _ c.set_releases.ensures.0 c.set_releases.ensures.1 refl c.settle_layers.ensures

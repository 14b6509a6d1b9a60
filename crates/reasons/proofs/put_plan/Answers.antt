-- `put_plan` meets its contract: the tables are those of the job and its plan. Assumes nothing.
use Prim.Native.Nat.{ℕ}
use mathlib.Core.Path.{refl}
use lib.ListN.{length-replicate}
use Rattle.core_decide.specs.lemmas.Accepted.{decide_from, filled, part_in}
use Rattle.reasons.specs.lemmas.Planned.{all_asked, all_put, ids_in}
use Rattle.reasons.specs.lemmas.Tables.{sizes_in_lem, zeros_at}
use Rattle.reasons.proofs.put_plan.Goals as goal

pub decide-first-requires : goal.decide-first-requires
decide-first-requires c =
    let a = c.args in
    let o = c.requires in
    let says = filled _ o.0 _ c.fill_sizes.ensures in
    decide_from _ o.0 _ says _ _ (length-replicate {A = ℕ} 500 0) (length-replicate {A = ℕ} 500 0) c.with-base.ensures

pub set_levels-requires : goal.set_levels-requires
set_levels-requires c =
    let a = c.args in
    let o = c.requires in
    let says = filled _ o.0 _ c.fill_sizes.ensures in
    let d = c.decide-first.ensures _ _ refl says in
    (d.within, ids_in _ o.0 _ _ _ _ d, d.long.0, d.long.2, length-replicate {A = ℕ} 500 0)

pub sum_sizes-requires : goal.sum_sizes-requires
sum_sizes-requires c =
    let a = c.args in
    let o = c.requires in
    (sizes_in_lem _ o.0 _ c.fill_sizes.ensures, length-replicate {A = ℕ} 2000 a.job.now.programme.chunks)

pub sum_after-requires : goal.sum_after-requires
sum_after-requires c =
    let a = c.args in
    let o = c.requires in
    (part_in _ o.0, length-replicate {A = ℕ} 3601 a.job.now.programme.chunks)

pub put_reasons-requires : goal.put_reasons-requires
put_reasons-requires c =
    let a = c.args in
    let o = c.requires in
    let says = filled _ o.0 _ c.fill_sizes.ensures in
    let d = c.decide-first.ensures _ _ refl says in
    all_asked _ o.0 _ _ _ _ d _ _ (zeros_at 500) (length-replicate {A = ℕ} 500 0) c.set_levels.ensures.1 _ _ says c.sum_sizes.ensures _ c.sum_after.ensures _ c.applies-most.ensures _ c.held_most-held.ensures _ c.set_levels.ensures.0 o.1

pub returns : goal.returns
returns c =
    let a = c.args in
    let o = c.requires in
    let says = filled _ o.0 _ c.fill_sizes.ensures in
    let d = c.decide-first.ensures _ _ refl says in
    all_put _ o.0 _ _ _ _ d _ _ (zeros_at 500) (length-replicate {A = ℕ} 500 0) c.set_levels.ensures.1 _ _ says c.sum_sizes.ensures _ c.sum_after.ensures _ c.applies-most.ensures _ _ _ c.put_reasons.ensures

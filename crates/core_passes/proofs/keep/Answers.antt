-- `keep` meets its contract.
use mathlib.Core.Path.{refl}
use native.Mathlib.Omega.{arith}
use lib.ListN.{get_or}
use Rattle.core_passes.specs.lemmas.Fronts.{keep_append_pre, keep_next, keep_none, keep_post, keep_settle_pre, keep_small}
use Rattle.core_passes.proofs.keep.Goals as goal

pub overflow_add-used : goal.overflow_add-used
overflow_add-used c =
    let a = c.args in
    omega (arith, keep_small c.requires (keep_next a.by.held a.opens.now a.sets.now a.a (get_or a.sets.now.useds a.a 0) c.next_from-level.result _ c.from.ensures c.next_from-level.ensures))

pub returns-then-chunk-used : goal.returns-then-chunk-used
returns-then-chunk-used c =
    let a = c.args in
    keep_none _ refl c.requires (keep_next a.by.held a.opens.now a.sets.now a.a (get_or a.sets.now.useds a.a 0) c.next_from-level.result _ c.from.ensures c.next_from-level.ensures) (omega (arith, c.if-chunk-used.true))

pub append-requires : goal.append-requires
append-requires c = keep_append_pre c.copy_set.ensures c.requires

pub settle-requires : goal.settle-requires
settle-requires c =
    let a = c.args in
    keep_settle_pre c.copy_set.ensures c.append.ensures refl
    (keep_next a.by.held a.opens.now a.sets.now a.a (get_or a.sets.now.useds a.a 0) c.next_from-level.result _ c.from.ensures c.next_from-level.ensures)
    refl
    (omega (arith, c.if-chunk-used.false))
    c.requires

pub returns : goal.returns
returns c =
    let a = c.args in
    keep_post c.copy_set.ensures c.append.ensures refl
    (keep_next a.by.held a.opens.now a.sets.now a.a (get_or a.sets.now.useds a.a 0) c.next_from-level.result _ c.from.ensures c.next_from-level.ensures)
    refl
    (omega (arith, c.if-chunk-used.false))
    c.settle.ensures

-- `decide` meets its contract: what the tables hold at the end is the plan over the set found.
use Prim.Native.Nat.{ℕ}
use lib.ListN.{length, length-replicate}
use Rattle.core_sizes.specs.Table.{table_at}
use Rattle.core_decide.proofs.Decided.{kept_from}
use Rattle.search.proofs.Deciding.{find_from, found_job, short_from}
use Rattle.search.proofs.decide.Goals as goal

pub best_within-met-requires : goal.best_within-met-requires
best_within-met-requires c = find_from c.requires c.sum_after.ensures _ _ (length-replicate {A = ℕ} 500 0) (length-replicate {A = ℕ} 500 0)

pub shortfall-short-requires : goal.shortfall-short-requires
shortfall-short-requires c = short_from c.requires c.sum_after.ensures _ c.best_within-met.ensures.kept.within

pub settle_kept-requires : goal.settle_kept-requires
settle_kept-requires c =
    let a = c.args in
    kept_from a.job.now.programme (length a.job.now.sizes.now) (table_at a.table.now) 1 a.job.now.forecast.now a.ids.now a.ready.now a.mark.now c.requires.from c.sum_after.ensures c.best_within-met.ensures.kept _ (length-replicate {A = ℕ} 500 0)

pub returns : goal.returns
returns c = found_job c.requires c.sum_after.ensures c.best_within-met.ensures c.shortfall-short.ensures c.settle_kept.ensures

-- `decide` meets its contract: what the tables hold at the end is the plan over the set found.
use native.Mathlib.Omega.{arith}
use Rattle.std.proofs.Common.{rules}
use lib.ListN.{length}
use Rattle.core_sizes.specs.Table.{table_at}
use Rattle.core_decide.proofs.Decided.{kept_from}
use Rattle.most.proofs.Deciding.{any_small, decided_job, found_small, place_from}
use Rattle.most.proofs.decide.Goals as goal

pub set_bases-requires : goal.set_bases-requires
set_bases-requires c = place_from c.requires c.sum_after.ensures c.find-sought.ensures (search rules) (search rules) (search rules)

pub settle_kept-requires : goal.settle_kept-requires
settle_kept-requires c =
    let a = c.args in
    kept_from a.job.now.programme (length a.job.now.sizes.now) (table_at a.table.now) 1 a.job.now.forecast.now a.ids.now a.ready.now a.mark.now c.requires.from c.sum_after.ensures c.set_bases.ensures _ (search rules)

pub overflow_cast-result : goal.overflow_cast-result
overflow_cast-result c = omega (arith, found_small c.requires c.sum_after.ensures c.find-sought.ensures)

pub overflow_cast-result-2 : goal.overflow_cast-result-2
overflow_cast-result-2 c = omega (arith, any_small c.requires c.sum_after.ensures c.any_order-any.ensures)

pub returns : goal.returns
returns c =
    decided_job c.requires c.sum_after.ensures c.find-sought.ensures c.any_order-any.ensures c.settle_kept.ensures

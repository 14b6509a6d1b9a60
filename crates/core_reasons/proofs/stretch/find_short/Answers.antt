-- `find_short` meets its contract: the tables that are laid out hold the trial of every job and
-- plan behind them. Assumes nothing.
use Rattle.core_reasons.proofs.Short.{pass_from, short_found}
use Rattle.core_reasons.proofs.stretch.find_short.Goals as goal

pub find_stretch-requires : goal.find_stretch-requires
find_stretch-requires c =
    let a = c.args in
    pass_from a.p a.held a.sums.now a.after.now a.levels.now a.i a.n a.cap c.set_tables-first.result _ _ _ c.set_tables-first.ensures c.set_releases.ensures.1 c.requires c.set_tables-first.array_long c.set_releases.ensures.0

pub returns : goal.returns
returns c =
    let a = c.args in
    short_found a.p a.held a.sums.now a.after.now a.levels.now a.i a.n a.cap c.set_tables-first.result _ _ _ c.set_tables-first.ensures c.set_releases.ensures.1 c.find_stretch.result c.requires.held_is c.find_stretch.ensures

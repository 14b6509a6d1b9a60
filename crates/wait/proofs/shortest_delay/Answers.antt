use Rattle.std.proofs.Common.{arith}
use Rattle.job.specs.Handed.{handed_overrides}
use Rattle.wait.proofs.Searches.{search_from, shortest_is}
use Rattle.wait.proofs.shortest_delay.Goals as goal

pub find_delay-requires : goal.find_delay-requires
find_delay-requires c =
    let j = c.args.job.now in
    let p = j.programme in
    rw c.count_tries.ensures
    (search_from p.chunks p.span p.limit j.sizes.now (handed_overrides j.overrides) j.forecast.now c.requires.1 _ _ c.add_up.ensures c.held_behind.result (omega (arith, c.held_behind.ensures)))

pub returns : goal.returns
returns c =
    let j = c.args.job.now in
    let p = j.programme in
    shortest_is p.chunks p.span p.limit j.sizes.now (handed_overrides j.overrides) j.forecast.now c.requires.1 _ _ c.add_up.ensures c.set_bases.ensures c.find_delay.result
    (rw (c.held_behind.ensures, c.count_tries.ensures) at c.find_delay.ensures)

use Rattle.std.proofs.Common.{rules}
use Rattle.live.specs.Handed.{lent_pieces}
use Rattle.core_ffi.specs.Asks.{LiveReturned}
use Rattle.core_ffi.specs.lemmas.Asking.{asked_of}
use Rattle.film_planner.proofs.asks.film_live.Goals as goal

pub returns : goal.returns
returns c =
    let asked : LiveReturned _ _ c.number.result (lent_pieces c.live.new.out) = asked_of c.number.ensures c.live.ensures.promise in
    search rules

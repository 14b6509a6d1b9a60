-- `ask` meets its contract, word by word of the rule.
use native.Mathlib.Omega.{arith}
use Rattle.core_sizes.specs.Table.{table_at}
use Rattle.core_live.proofs.Rule.{asks_stand}
use Rattle.core_live.proofs.ask.Goals as goal

pub returns : goal.returns
returns c =
    let a = c.args in
    record {
      few = c.put_pieces.ensures.0;
      stand = λ sizes os forecast rows whole d accepted ok tabled.
          asks_stand a.p sizes os forecast a.start a.rate rows (table_at a.left.now) a.begun.now whole c.last_begun-last.result
          (omega (arith, accepted.layers_in.low)) ok tabled c.last_begun-last.ensures c.first_lacking-from.ensures c.passed_until-until.ensures c.set_asked.ensures d
          c.put_pieces.ensures.1;
    }

use Rattle.core_replan_input.proofs.Flags.{turning_stop}
use Rattle.core_replan_input.proofs.in_turn.Goals as goal

pub returns-then-slot-latest : goal.returns-then-slot-latest
returns-then-slot-latest c = turning_stop c.loop-i.invariant c.loop-i-test.true c.if-slot-latest.true

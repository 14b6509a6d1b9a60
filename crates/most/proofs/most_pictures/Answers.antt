-- `most_pictures` meets its contract: the refusals in their order, then what is found.
use Rattle.std.proofs.Common.{rules}
use Rattle.most.proofs.Outputs.{promise_of, refused_input, refused_short}
use Rattle.most.proofs.most_pictures.Goals as goal

pub returns-in_err-accept-clause-promise : goal.returns-in_err-accept-clause-promise
returns-in_err-accept-clause-promise c = refused_input _ _ _ _ c.in_err-accept.ensures _ (search rules)

pub returns-in_err-accept_room-clause-promise : goal.returns-in_err-accept_room-clause-promise
returns-in_err-accept_room-clause-promise c = refused_short _ _ _ (search rules) _ c.in_err-accept_room.ensures _ (search rules)

pub returns-clause-promise : goal.returns-clause-promise
returns-clause-promise c = promise_of _ _ _ (search rules) c.write_most.ensures.output

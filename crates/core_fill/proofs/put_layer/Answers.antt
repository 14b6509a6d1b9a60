-- `put_layer` meets its contract.
use Rattle.core_fill.proofs.Left.{one_puts}
use Rattle.core_fill.proofs.put_layer.Goals as goal

pub returns : goal.returns
returns c = let a = c.args in one_puts c.requires a.chunk a.layer c.begin-at.ensures c.put_piece.ensures

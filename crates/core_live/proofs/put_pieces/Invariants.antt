-- `put_pieces` meets its contract: the pieces of the layers below n stand.
use Prim.Native.Nat.{◌*◌, ◌≤◌}
use Rattle.core_sizes.specs.Table.{table_at}
use Rattle.core_live.specs.lemmas.ByTables.{pieces_at, PiecesStand}
use Rattle.core_live.proofs.put_pieces.Given as goal

abbrev pub invariant-loop-n : goal.invariant-loop-n
invariant-loop-n l = PiecesStand (pieces_at (table_at l.left) l.asked l.count l.n) l.at l.chunks l.layers l.bytes × (l.at ≤ l.n * 500)

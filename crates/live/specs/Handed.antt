-- Meaning. What lent room for pieces holds.
use Rattle.std.specs.Prelude.{◌≡◌}
use Rattle.live.specs.Answer.{PieceSlices, piece_slices}
use Rattle.live.specs.declared.LentPieces.{LentPieces}

abbrev pub lent_pieces : LentPieces → PieceSlices
lent_pieces l = piece_slices l.chunks.now l.layers.now l.bytes.now

-- After a call the room still is the caller's three slices.
pub record SamePieces (old new : LentPieces) : Type 0 where
  pub chunks : new.chunks.ghost_name ≡ old.chunks.ghost_name
  pub layers : new.layers.ghost_name ≡ old.layers.ghost_name
  pub bytes : new.bytes.ghost_name ≡ old.bytes.ghost_name

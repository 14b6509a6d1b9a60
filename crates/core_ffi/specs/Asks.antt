-- Meaning, then its theorem. What to fetch next, for callers in C or Rust: the answer is the number
-- of pieces; the pieces go to the start of three lent slices. Refusals and pieces are the library's
-- own.
use Rattle.std.specs.Prelude.{ℕ, ◌≤◌, ◌≡◌, map, length}
use Rattle.theory_basics.specs.Lent.{lent_after}
use Rattle.theory_live.specs.Statement.{piece_bytes, piece_chunk, piece_layer}
use Rattle.live.specs.Answer.{input_refusal, LiveInput, pieces, PieceSlices, refusal}
use Rattle.live.specs.Theorems.{few_pieces}
use Rattle.core_ffi.specs.Convention.{answered}

-- `film_live`. What holds of these pieces is the promise of the library's call,
-- live/Answer.LivePromise.
pub record LiveReturned (i : LiveInput) (l : PieceSlices) (r : ℕ) (l' : PieceSlices) : Type 0 where
  -- How many pieces, or the refusal's number by the convention.
  pub number : r ≡ answered (refusal i l) (length (pieces i))
  -- The pieces, a slice for each of their three numbers, then the old contents; on a refusal these
  -- alone.
  pub chunks_are : l'.chunks ≡ lent_after (refusal i l) (map piece_chunk (pieces i)) l.chunks
  pub layers_are : l'.layers ≡ lent_after (refusal i l) (map piece_layer (pieces i)) l.layers
  pub bytes_are : l'.bytes ≡ lent_after (refusal i l) (map piece_bytes (pieces i)) l.bytes

-- FILM_PIECES.
pub pieces_asked : (i : LiveInput) → input_refusal i ≡ 0 → length (pieces i) ≤ 2000
pieces_asked i e = few_pieces i e

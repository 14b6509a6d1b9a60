-- Lemmas. What the functions hand each other where layers may be fetched in part: what is left of
-- them, in pieces (Filling). A layer with nothing left is out, and a chunk may have none: it was
-- begun and given up, or it is whole.
use Rattle.std.specs.Prelude.{ℕ, zero, suc, ◌+◌, ◌-◌, ◌≤◌, ◌≡◌, Bool, true, false, cond, List, [], ◌∷◌, ltb}
use Rattle.theory_plan.specs.lemmas.Fill.{QueuedPiece}
use Rattle.theory_plan.specs.lemmas.Trials.{level_mark}
use Rattle.core_fill.specs.declared.Position.{Position}
use Rattle.core_fill.specs.lemmas.Filling.{AllBy, last_of, layers_of, left_at, level_of, Levels, piece, PutPiecesPre, queue_by, PutPiecePre}

-- A mark says layers from the base up, or none.
pub record AnyLevels (mark : ℕ) : Type 0 where
  pub high : level_of mark ≤ 4
  pub closed : mark ≡ level_mark (level_of mark)

-- What is left of the layers m to m + n - 1 of chunk k.
abbrev pub pieces_left : (ℕ → ℕ → ℕ) → (k r m n : ℕ) → List QueuedPiece
pieces_left left k r m zero = []
pieces_left left k r m (suc n) = cond (ltb 0 (left k m)) (piece k m (left k m) r ∷ pieces_left left k r (suc m) n) (pieces_left left k r (suc m) n)

-- What is left of the layers of a chunk, and of all chunks of three tables.
abbrev pub layers_left : (ℕ → ℕ → ℕ) → ℕ → ℕ → ℕ → List QueuedPiece
layers_left left chunk ready mark = pieces_left left chunk ready 0 (level_of mark)

abbrev pub left_queue : (ℕ → ℕ → ℕ) → List ℕ → List ℕ → List ℕ → List QueuedPiece
left_queue left = queue_by (layers_left left)

-- What a piece asks for.
pub record PutLayerPre (start : ℕ) (part : List ℕ) (a : Position) (ready size : ℕ) (ss cs ls bs : List ℕ) : Type 0 where
  pub room : PutPiecePre start part 1 a ss cs ls bs
  pub by : ready ≤ last_of start part
  pub some : 1 ≤ size
  pub fed : size ≤ left_at start part (ready - 1)
  pub fits : size ≤ a.left + left_at start part a.slot

-- What a chunk's pieces ask for.
pub record PutLeftPre (start : ℕ) (part : List ℕ) (left : ℕ → ℕ → ℕ) (a : Position) (ready chunk mark : ℕ) (ss cs ls bs : List ℕ) : Type 0 where
  pub asks : PutPiecesPre AnyLevels start part (layers_left left chunk ready mark) a ready chunk mark ss cs ls bs

-- ---- both ways

-- The pieces of a chunk's layers, and what they ask of its mark: made afresh what is left of them,
-- else each whole.
abbrev pub layers_by : Bool → (ℕ → ℕ → ℕ) → ℕ → ℕ → ℕ → List QueuedPiece
layers_by true size = layers_left size
layers_by false size = layers_of size

abbrev pub LevelsBy : Bool → ℕ → Type 0
LevelsBy true = AnyLevels
LevelsBy false = Levels

abbrev pub queue_in : Bool → (ℕ → ℕ → ℕ) → List ℕ → List ℕ → List ℕ → List QueuedPiece
queue_in afresh size = queue_by (layers_by afresh size)

-- What all pieces ask for.
abbrev pub PutAllPre : Bool → ℕ → List ℕ → (ℕ → ℕ → ℕ) → (ids ready mark : List ℕ) → ℕ → Position → (ss cs ls bs : List ℕ) → Type 0
PutAllPre afresh start part size ids ready mark first a ss cs ls bs = AllBy (LevelsBy afresh) (layers_by afresh size) start part ids ready mark first a ss cs ls bs

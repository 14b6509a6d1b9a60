-- Lemmas. What the functions of fill.rt hand each other: pieces placed one after the other, over
-- any list under way. The definitions behind them are those of theory_plan, Fill and Queue.
use Rattle.std.specs.Prelude.{ℕ, ◌+◌, ◌*◌, ◌-◌, ◌≤◌, ◌≡◌, cond, List, [], ◌∷◌, ◌++◌, map, length, drop, ltb}
use Rattle.theory_basics.specs.Sums.{sum}
use Rattle.theory_basics.specs.Tests.{All}
use Rattle.job.specs.Job.{Within}
use Rattle.fetch.specs.Rows.{Row, row_slot, row_chunk, row_layer, row_bytes}
use Rattle.fetch.specs.Marks.{bit}
use Rattle.theory_plan.specs.lemmas.Fill.{QueuedPiece, take_slot, fill}
use Rattle.theory_plan.specs.lemmas.Queue.{pieces}
use Rattle.theory_plan.specs.lemmas.Trials.{level_mark}
use Rattle.core_fill.specs.declared.Position.{Position}
use Rattle.theory_plan.specs.lemmas.Parts.{at, padded, left_after, ForecastPart}
use Rattle.theory_basics.specs.Lent.{over}

-- The last slot of a part of the forecast that starts at slot start, and the bytes of slot t.
abbrev pub last_of : ℕ → List ℕ → ℕ
last_of start part = start - 1 + length part

abbrev pub bytes_at : ℕ → List ℕ → ℕ → ℕ
bytes_at start part t = at (padded start part) (t - 1)

-- What is left after slot t.
abbrev pub left_at : ℕ → List ℕ → ℕ → ℕ
left_at start part t = left_after (padded start part) t

-- The rest of a list: slot t with c bytes left, then the slots after it.
unfoldable pub onward : ℕ → List ℕ → ℕ → ℕ → List QueuedPiece → List Row
onward start part t c q = (take_slot t c q).rows ++ fill (bytes_at start part) (last_of start part - t) t (take_slot t c q).rest

-- The bytes of the pieces, and that those from each piece on fit behind its release.
abbrev pub load : List QueuedPiece → ℕ
load [] = 0
load (p ∷ ps) = p.left + load ps

abbrev pub Fed : (ℕ → ℕ) → List QueuedPiece → Type 0
Fed A [] = Unit {0}
Fed A (p ∷ ps) = (load (p ∷ ps) ≤ A (p.ready - 1)) × (1 ≤ p.left) × Fed A ps

-- Slices of the same lengths.
pub record Same (ss cs ls bs ss' cs' ls' bs' : List ℕ) : Type 0 where
  pub s : length ss' ≡ length ss
  pub c : length cs' ≡ length cs
  pub l : length ls' ≡ length ls
  pub b : length bs' ≡ length bs

-- A list under way: the rows made stand in the slices, and the rest is that of the pieces q.
pub record Made (whole : List Row) (start : ℕ) (part s₀ c₀ l₀ b₀ : List ℕ) (q : List QueuedPiece) (ss cs ls bs : List ℕ) (a : Position) : Type 0 where
  pub made : List Row
  pub says : whole ≡ made ++ onward start part a.slot a.left q
  pub slots : ss ≡ over (map row_slot made) s₀
  pub chunks : cs ≡ over (map row_chunk made) c₀
  pub layers : ls ≡ over (map row_layer made) l₀
  pub bytes : bs ≡ over (map row_bytes made) b₀
  pub counted : a.rows ≡ length made
  pub long : Same s₀ c₀ l₀ b₀ ss cs ls bs

-- From a to r: slots go on, and at most k rows are made beside one for each slot left.
pub record Goes (start : ℕ) (part : List ℕ) (k : ℕ) (a r : Position) : Type 0 where
  pub low : start ≤ r.slot
  pub high : r.slot ≤ last_of start part
  pub later : a.slot ≤ r.slot
  pub rows : r.rows + (last_of start part - r.slot) ≤ a.rows + (last_of start part - a.slot) + k

-- Room for k pieces from slot a .slot on.
pub record PutPiecePre (start : ℕ) (part : List ℕ) (k : ℕ) (a : Position) (ss cs ls bs : List ℕ) : Type 0 where
  pub part_in : ForecastPart start part
  pub low : start ≤ a.slot
  pub high : a.slot ≤ last_of start part
  pub count : a.rows + (last_of start part - a.slot) + k ≤ 5600
  pub s : a.rows + (last_of start part - a.slot) + k ≤ length ss
  pub c : a.rows + (last_of start part - a.slot) + k ≤ length cs
  pub l : a.rows + (last_of start part - a.slot) + k ≤ length ls
  pub b : a.rows + (last_of start part - a.slot) + k ≤ length bs

abbrev pub piece : ℕ → ℕ → ℕ → ℕ → QueuedPiece
piece chunk layer left ready = record { chunk = chunk; layer = layer; left = left; ready = ready }

-- One piece, that may begin by the slot at hand, is placed.
pub record PutPiecePost (start : ℕ) (part : List ℕ) (chunk layer size : ℕ) (a : Position) (ss cs ls bs : List ℕ) (r : Position) (ss' cs' ls' bs' : List ℕ) : Type 0 where
  pub goes : Goes start part 1 a r
  pub long : Same ss cs ls bs ss' cs' ls' bs'
  pub enough : (x : ℕ) → size + x ≤ a.left + left_at start part a.slot → x ≤ r.left + left_at start part r.slot
  pub makes :
      (whole : List Row) (s₀ c₀ l₀ b₀ : List ℕ) (ready : ℕ) (rest : List QueuedPiece) → ready ≤ a.slot →
      Made whole start part s₀ c₀ l₀ b₀ (piece chunk layer size ready ∷ rest) ss cs ls bs a →
      Made whole start part s₀ c₀ l₀ b₀ rest ss' cs' ls' bs' r

-- The pieces q, at most k, are placed.
pub record PutPost (start : ℕ) (part : List ℕ) (q : List QueuedPiece) (k : ℕ) (a : Position) (ss cs ls bs : List ℕ) (r : Position) (ss' cs' ls' bs' : List ℕ) : Type 0 where
  pub goes : Goes start part k a r
  pub long : Same ss cs ls bs ss' cs' ls' bs'
  pub enough : (rest : List QueuedPiece) → Fed (left_at start part) (q ++ rest) → load (q ++ rest) ≤ a.left + left_at start part a.slot → load rest ≤ r.left + left_at start part r.slot
  pub makes :
      (whole : List Row) (s₀ c₀ l₀ b₀ : List ℕ) (rest : List QueuedPiece) →
      Made whole start part s₀ c₀ l₀ b₀ (q ++ rest) ss cs ls bs a →
      Made whole start part s₀ c₀ l₀ b₀ rest ss' cs' ls' bs' r

-- A piece does not begin before its release.
abbrev pub begun : ℕ → List ℕ → Position → ℕ → Position
begun start part a r = cond (ltb a.slot r) (record { slot = r; left = bytes_at start part r; rows = a.rows }) a

-- How many layers a mark says, and that it says them from the base up, one at least.
abbrev pub level_of : ℕ → ℕ
level_of mark = sum (λ n. cond (bit mark n) 1 0) 8

pub record Levels (mark : ℕ) : Type 0 where
  pub low : 1 ≤ level_of mark
  pub high : level_of mark ≤ 4
  pub closed : mark ≡ level_mark (level_of mark)

-- The layers of a chunk.
abbrev pub layers_of : (ℕ → ℕ → ℕ) → ℕ → ℕ → ℕ → List QueuedPiece
layers_of size chunk ready mark = pieces size chunk ready 0 (level_of mark)

-- The pieces of the chunks of three tables, where f gives those of a chunk, from its release and
-- its mark.
abbrev pub queue_by : (ℕ → ℕ → ℕ → List QueuedPiece) → List ℕ → List ℕ → List ℕ → List QueuedPiece
queue_by f [] rs ms = []
queue_by f (k ∷ ks) [] ms = []
queue_by f (k ∷ ks) (r ∷ rs) [] = []
queue_by f (k ∷ ks) (r ∷ rs) (m ∷ ms) = f k r m ++ queue_by f ks rs ms

abbrev pub queue_of : (ℕ → ℕ → ℕ) → List ℕ → List ℕ → List ℕ → List QueuedPiece
queue_of size = queue_by (layers_of size)

-- What the pieces q of a chunk ask for, of whose mark P holds.
pub record PutPiecesPre (P : ℕ → Type 0) (start : ℕ) (part : List ℕ) (q : List QueuedPiece) (a : Position) (ready chunk mark : ℕ) (ss cs ls bs : List ℕ) : Type 0 where
  pub room : PutPiecePre start part 4 a ss cs ls bs
  pub by : ready ≤ last_of start part
  pub chunk_in : Within 1 500 chunk
  pub levels : P mark
  pub fed : Fed (left_at start part) q
  pub fits : load q ≤ a.left + left_at start part a.slot

abbrev pub PutChunkPre : ℕ → List ℕ → (ℕ → ℕ → ℕ) → Position → (ready chunk mark : ℕ) (ss cs ls bs : List ℕ) → Type 0
PutChunkPre start part size a ready chunk mark ss cs ls bs = PutPiecesPre Levels start part (layers_of size chunk ready mark) a ready chunk mark ss cs ls bs

-- What all pieces ask for.
pub record AllBy (P : ℕ → Type 0) (f : ℕ → ℕ → ℕ → List QueuedPiece) (start : ℕ) (part ids ready mark : List ℕ) (first : ℕ) (a : Position) (ss cs ls bs : List ℕ) : Type 0 where
  pub within : first ≤ 500
  pub room : PutPiecePre start part (4 * (500 - first)) a ss cs ls bs
  pub by : All (λ r. r ≤ last_of start part) (drop first ready)
  pub chunks_in : All (Within 1 500) (drop first ids)
  pub levels : All P (drop first mark)
  pub fed : Fed (left_at start part) (queue_by f (drop first ids) (drop first ready) (drop first mark))
  pub fits : load (queue_by f (drop first ids) (drop first ready) (drop first mark)) ≤ a.left + left_at start part a.slot
  pub long : (length ids ≡ 500) × (length ready ≡ 500) × (length mark ≡ 500)

-- Lemmas. The rule of theory_live, Statement, over tables by chunk: what the rows fetched leave of
-- each layer, flags of the chunks that they begin, and the last begun chunk. In the rule's order.
use Rattle.std.specs.Prelude.{ℕ, zero, suc, ◌+◌, ◌*◌, ◌-◌, ◌/◌, ◌≤◌, ◌≡◌, Bool, cond, not, ◌&&◌, ◌||◌, List, [], ◌∷◌, ◌++◌, map, leb, ltb, eqb, length, take}
use Rattle.theory_basics.specs.Sums.{count}
use Rattle.job.specs.Job.{Accepted, due_slot, job_of, Override}
use Rattle.job.specs.declared.Programme.{Programme}
use Rattle.fetch.specs.Rows.{Row}
use Rattle.theory_plan.specs.Own.{Piece}
use Rattle.theory_replan.specs.Statement.{Acceptable}
use Rattle.theory_live.specs.Statement.{asks, first_that, piece_bytes, piece_chunk, piece_layer}
use Rattle.core_replan_decide.specs.lemmas.Decision.{Tabled}
use Rattle.core_replan_decide.specs.lemmas.Tables.{Fine, of}

-- ---- open, missing, in time

-- What the rate brings from slot start to the due slot of chunk i, and whether that is enough.
abbrev pub brings_at : Programme → ℕ → ℕ → ℕ → ℕ
brings_at p start rate i = rate * (due_slot p i - start + 1)

abbrev pub in_time_at : Programme → ℕ → ℕ → (ℕ → ℕ → ℕ) → ℕ → Bool
in_time_at p start rate left i = leb (left i 0) (brings_at p start rate i)

-- Begun, by its flag.
abbrev pub begun_at : List ℕ → ℕ → Bool
begun_at begun i = eqb (of begun i) 1

-- Due in slot start or later, and begun or not before the last begun chunk.
abbrev pub open_at : Programme → ℕ → List ℕ → ℕ → ℕ → Bool
open_at p start begun last i = leb start (due_slot p i) && (begun_at begun i || not (ltb i last))

abbrev pub lacks_at : Programme → ℕ → (ℕ → ℕ → ℕ) → List ℕ → ℕ → ℕ → Bool
lacks_at p start left begun last i = open_at p start begun last i && ltb 0 (left i 0)

-- ---- passed over

abbrev pub could_come_at : Programme → ℕ → ℕ → (ℕ → ℕ → ℕ) → List ℕ → ℕ → ℕ → ℕ → Bool
could_come_at p start rate left begun last k i =
    ltb k i && leb (count (open_at p start begun last) i) (count (open_at p start begun last) k + p.limit / p.span)
    && lacks_at p start left begun last i && in_time_at p start rate left i

-- Passed over: chunk i lacks base bytes and stands from chunk `from` to before chunk `until`.
abbrev pub passed_at : Programme → ℕ → (ℕ → ℕ → ℕ) → List ℕ → (last from until i : ℕ) → Bool
passed_at p start left begun last from until i = leb from i && ltb i until && lacks_at p start left begun last i

-- As in the rule, for any k and m.
abbrev pub passes_for_at : Programme → ℕ → ℕ → (ℕ → ℕ → ℕ) → List ℕ → (last k m i : ℕ) → Bool
passes_for_at p start rate left begun last k m i =
    leb k i && ltb i m && leb m p.chunks && lacks_at p start left begun last i && not (in_time_at p start rate left k)
    && ltb (brings_at p start rate m) (left k 0 + left m 0)

-- The chunks passed over from k on are those before until.
abbrev pub PassedUntilPost : Programme → ℕ → ℕ → (ℕ → ℕ → ℕ) → List ℕ → (last k until : ℕ) → Type 0
PassedUntilPost p start rate left begun last k until =
    (i : ℕ) → 1 ≤ i → i ≤ p.chunks →
    passes_for_at p start rate left begun last k (first_that (could_come_at p start rate left begun last k) p.chunks) i
    ≡ passed_at p start left begun last k until i

-- ---- asked

abbrev pub line_at : Programme → ℕ → (ℕ → ℕ → ℕ) → List ℕ → (last from until i : ℕ) → Bool
line_at p start left begun last from until i =
    open_at p start begun last i && not (passed_at p start left begun last from until i)

abbrev pub fresh_at : Programme → ℕ → (ℕ → ℕ → ℕ) → List ℕ → (last from until i : ℕ) → Bool
fresh_at p start left begun last from until i =
    line_at p start left begun last from until i && not (begun_at begun i) && ltb start (due_slot p i)

-- The begun chunks held at the end of slot start.
abbrev pub held_at : Programme → ℕ → List ℕ → ℕ
held_at p start begun = count (λ i. begun_at begun i && ltb start (due_slot p i)) p.chunks

abbrev pub room_at : Programme → ℕ → (ℕ → ℕ → ℕ) → List ℕ → (last from until i : ℕ) → Bool
room_at p start left begun last from until i =
    leb (held_at p start begun + count (fresh_at p start left begun last from until) i) (p.limit / p.span)

abbrev pub asked_at : Programme → ℕ → (ℕ → ℕ → ℕ) → List ℕ → (last from until i : ℕ) → Bool
asked_at p start left begun last from until i =
    line_at p start left begun last from until i
    && (not (fresh_at p start left begun last from until i) || room_at p start left begun last from until i)

-- The flags of the chunks up to n say which are asked.
pub record AskedFlags (p : Programme) (start : ℕ) (left : ℕ → ℕ → ℕ) (begun : List ℕ) (last from until n : ℕ) (asked : List ℕ) : Type 0 where
  pub flag_is : (i : ℕ) → 1 ≤ i → i ≤ n → begun_at asked i ≡ asked_at p start left begun last from until i

-- ---- the pieces

-- Of layer n of chunk i, if its flag is set and something is left.
abbrev pub piece_at : (ℕ → ℕ → ℕ) → List ℕ → ℕ → ℕ → List Piece
piece_at left asked n i =
    cond (begun_at asked i && ltb 0 (left i n)) (record { chunk = i; layer = n; bytes = left i n } ∷ []) []

abbrev pub layer_at : (ℕ → ℕ → ℕ) → List ℕ → ℕ → ℕ → List Piece
layer_at left asked n zero = []
layer_at left asked n (suc i) = layer_at left asked n i ++ piece_at left asked n (suc i)

abbrev pub pieces_at : (ℕ → ℕ → ℕ) → List ℕ → ℕ → ℕ → List Piece
pieces_at left asked c zero = []
pieces_at left asked c (suc n) = pieces_at left asked c n ++ layer_at left asked n c

-- The pieces stand at the start of three tables, by column.
pub record PiecesStand (pieces : List Piece) (n : ℕ) (chunks layers bytes : List ℕ) : Type 0 where
  pub many : n ≡ length pieces
  pub chunks_are : take n chunks ≡ map piece_chunk pieces
  pub layers_are : take n layers ≡ map piece_layer pieces
  pub bytes_are : take n bytes ≡ map piece_bytes pieces

-- The pieces of layer n stand behind those that stood, whatever they were.
pub record PutLayerPost (left : ℕ → ℕ → ℕ) (asked : List ℕ) (n count at : ℕ) (cs ls bs : List ℕ) (r : ℕ) (cs' ls' bs' : List ℕ) : Type 0 where
  pub most : r ≤ at + count
  pub behind :
      (made : List Piece) → PiecesStand made at cs ls bs → PiecesStand (made ++ layer_at left asked n count) r cs' ls' bs'

-- ---- the whole

pub record AskPre (p : Programme) (depth : ℕ) : Type 0 where
  pub fine : Fine p
  pub few_layers : depth ≤ 4

-- For every accepted job and rows with these tables that 21 and 22 let pass: the asks of
-- theory_live.
pub record AskPost (p : Programme) (depth start rate : ℕ) (left : ℕ → ℕ → ℕ) (begun : List ℕ) (r : ℕ) (chunks layers bytes : List ℕ) : Type 0 where
  pub few : r ≤ 2000
  pub stand :
      (sizes : List ℕ) (os : List Override) (forecast : List ℕ) (rows : List Row) (whole : List ℕ) →
      let j = job_of p sizes os forecast in
      depth ≡ length sizes → Accepted j → Acceptable j start rows → Tabled j rows left begun whole →
      PiecesStand (asks j start rows rate) r chunks layers bytes

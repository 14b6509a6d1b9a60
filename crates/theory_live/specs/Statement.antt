-- Meaning. What a desk asks the link for in slot p, from the rows fetched before p and a rate r in
-- bytes a slot: "No forecast, no memory but the rows." The rule as definitions, in the order of its
-- sentences, to be read from top to bottom. Nothing here reads the job's forecast. "Open",
-- "missing", "in time", "passed over", "asked" and "the asks" are the rule's words.
use Rattle.std.specs.Prelude.{ℕ, zero, suc, ◌+◌, ◌*◌, ◌-◌, min, Bool, cond, not, ◌&&◌, ◌||◌, List, [], ◌∷◌, ◌++◌, leb, ltb, eqb}
use Rattle.theory_basics.specs.Sums.{count}
use Rattle.theory_basics.specs.Tests.{any}
use Rattle.job.specs.Job.{Job, chunks, due, held_most, layers, size}
use Rattle.fetch.specs.Rows.{Row, bytes_of_layer, has_row, held_count}
use Rattle.theory_plan.specs.Own.{Piece, row_of}

-- ---- "A chunk is open if it is due in p or later, and either it is begun or no chunk after it
-- is."

-- Some chunk after i is begun.
abbrev pub begun_after : List Row → ℕ → Bool
begun_after rows i = any (λ x. ltb i x.chunk) rows

-- Chunk i is open: due in p or later, and begun or not overtaken.
abbrev pub is_open : Job → ℕ → List Row → ℕ → Bool
is_open j p rows i = leb p (due j i) && (has_row rows i || not (begun_after rows i))

-- ---- "missing(i): the base's bytes not yet fetched. in time(i): missing(i) ≤ r × (d(i) − p + 1)."

-- The bytes of layer n of chunk i not yet fetched.
abbrev pub remaining : Job → List Row → ℕ → ℕ → ℕ
remaining j rows i n = size j i n - bytes_of_layer rows i n

-- The base's.
abbrev pub missing : Job → List Row → ℕ → ℕ
missing j rows i = remaining j rows i 0

-- What the rate brings from slot p to the due slot of chunk i.
abbrev pub brings : Job → ℕ → ℕ → ℕ → ℕ
brings j p r i = r * (due j i - p + 1)

-- The rate brings what is missing of chunk i by its due slot.
abbrev pub in_time : Job → ℕ → List Row → ℕ → ℕ → Bool
in_time j p rows r i = leb (missing j rows i) (brings j p r i)

-- ---- "Let k be the first open chunk with missing bytes. If k is not in time, let j be the first
-- of the next H open chunks that has missing bytes and is in time. If there is one, and it would
-- not be in time behind k (missing(k) + missing(j) > r × (d(j) − p + 1)), the open chunks from k to
-- before j that have missing bytes are passed over in this slot. Else none is."

-- The first of 1 .. n that passes, one after all those up to which none does; n + 1 if none does.
abbrev pub first_that : (ℕ → Bool) → ℕ → ℕ
first_that f n = 1 + count (λ i. eqb (count f i) 0) n

-- Chunk i is open and lacks base bytes.
abbrev pub lacks : Job → ℕ → List Row → ℕ → Bool
lacks j p rows i = is_open j p rows i && ltb 0 (missing j rows i)

-- k, the first of these.
abbrev pub first_lacking : Job → ℕ → List Row → ℕ
first_lacking j p rows = first_that (lacks j p rows) (chunks j)

-- Chunk i is of the next H open chunks after k, lacks base bytes and is in time.
abbrev pub could_come : Job → ℕ → List Row → ℕ → ℕ → ℕ → Bool
could_come j p rows r k i =
    ltb k i && leb (count (is_open j p rows) i) (count (is_open j p rows) k + held_most j)
    && lacks j p rows i && in_time j p rows r i

-- j, the first of these.
abbrev pub next_in_time : Job → ℕ → List Row → ℕ → ℕ → ℕ
next_in_time j p rows r k = first_that (could_come j p rows r k) (chunks j)

-- Chunk i is passed over for m, the rule's j: it lacks base bytes and stands from k to before m; k
-- is not in time; and m would not be in time behind k.
abbrev pub passes_for : Job → ℕ → List Row → ℕ → ℕ → ℕ → ℕ → Bool
passes_for j p rows r k m i =
    leb k i && ltb i m && leb m (chunks j) && lacks j p rows i && not (in_time j p rows r k)
    && ltb (brings j p r m) (missing j rows k + missing j rows m)

-- Chunk i is passed over in slot p.
unfoldable pub passed_over : Job → ℕ → List Row → ℕ → ℕ → Bool
passed_over j p rows r i = let k = first_lacking j p rows in passes_for j p rows r k (next_in_time j p rows r k) i

-- ---- "Asked are the open chunks that are not passed over, in playing order, as many as rule 6
-- allows at the end of p beside all that are begun."

-- Chunk i is open and not among those passed over.
abbrev pub in_line : Job → ℕ → List Row → (ℕ → Bool) → ℕ → Bool
in_line j p rows over i = is_open j p rows i && not (over i)

-- It would be begun in slot p and held at its end.
abbrev pub fresh : Job → ℕ → List Row → (ℕ → Bool) → ℕ → Bool
fresh j p rows over i = in_line j p rows over i && not (has_row rows i) && ltb p (due j i)

-- With those of 1 .. i that would be, beside all that are begun, at most H are held at the end of
-- p.
abbrev pub has_room : Job → ℕ → List Row → (ℕ → Bool) → ℕ → Bool
has_room j p rows over i = leb (held_count j rows p + count (fresh j p rows over) i) (held_most j)

-- Asked beside any chunks passed over.
abbrev pub asked_beside : Job → ℕ → List Row → (ℕ → Bool) → ℕ → Bool
asked_beside j p rows over i = in_line j p rows over i && (not (fresh j p rows over i) || has_room j p rows over i)

-- Chunk i is asked in slot p.
abbrev pub asked : Job → ℕ → List Row → ℕ → ℕ → Bool
asked j p rows r i = asked_beside j p rows (passed_over j p rows r) i

-- ---- "The asks: for each layer from the base up, for each asked chunk in playing order, the
-- layer's bytes not yet fetched."

-- Of layer n of chunk i, if chunk i is asked and bytes of the layer are not yet fetched.
abbrev pub piece_of : Job → List Row → (ℕ → Bool) → ℕ → ℕ → List Piece
piece_of j rows which n i =
    cond (which i && ltb 0 (remaining j rows i n))
    (record { chunk = i; layer = n; bytes = remaining j rows i n } ∷ []) []

-- Of layer n, for the chunks 1 to i.
abbrev pub layer_asks : Job → List Row → (ℕ → Bool) → ℕ → ℕ → List Piece
layer_asks j rows which n zero = []
layer_asks j rows which n (suc i) = layer_asks j rows which n i ++ piece_of j rows which n (suc i)

-- Of the layers below n.
abbrev pub asks_below : Job → List Row → (ℕ → Bool) → ℕ → List Piece
asks_below j rows which zero = []
asks_below j rows which (suc n) = asks_below j rows which n ++ layer_asks j rows which n (chunks j)

-- The asks of slot p at rate r, beside the rows fetched before p.
abbrev pub asks : Job → ℕ → List Row → ℕ → List Piece
asks j p rows r = asks_below j rows (asked j p rows r) (layers j)

-- The three columns of pieces, each in a slice of its own.
abbrev pub piece_chunk : Piece → ℕ
piece_chunk q = q.chunk

abbrev pub piece_layer : Piece → ℕ
piece_layer q = q.layer

abbrev pub piece_bytes : Piece → ℕ
piece_bytes q = q.bytes

-- ---- "Fetch them one after the other, in their order, until the second is over. The last one may
-- be cut short."

-- The rows that x bytes of slot p make of the asks.
abbrev pub taken_of : ℕ → ℕ → List Piece → List Row
taken_of p x [] = []
taken_of p x (q ∷ qs) = cond (ltb 0 x) (row_of p q (min x q.bytes) ∷ taken_of p (x - q.bytes) qs) []

-- The rows fetched by the end of slot t, if slot u has the rate rate u and brings got u bytes: an
-- act from slot 1 on.
abbrev pub act : Job → (ℕ → ℕ) → (ℕ → ℕ) → ℕ → List Row
act j rate got zero = []
act j rate got (suc t) =
    let rows = act j rate got t in rows ++ taken_of (suc t) (got (suc t)) (asks j (suc t) rows (rate (suc t)))

-- Meaning. The records of a job file: document 01, "Job: `PG` C h, L h, s h, limit h; `LY` size w,
-- base first; `BW` count h, bytes w, a run of equal slots; `EN`" and "Each record is taken only if
-- its mark and its whole body are there"; document 02, "A new record `SZ`, with chunk h, layer b
-- and size w". A mixed file knows no SZ.
use Rattle.std.specs.Prelude.{ℕ, ◌%◌, Bool, true, false, cond, ◌&&◌, List, [], ◌∷◌, ◌++◌, length, get_or, leb}
use Rattle.records.specs.Fields.{h, w, h_at, w_at, marked}
use Rattle.records.specs.File.{Front, got, none}
use Rattle.jobrecords.specs.declared.Record.{Record}
use Rattle.jobrecords.specs.declared.Record.TheVariants.{Pg, Ly, Sz, Bw, En}

-- The marks in ASCII.
abbrev pub PG : List ℕ
PG = 80 ∷ 71 ∷ []

abbrev pub LY : List ℕ
LY = 76 ∷ 89 ∷ []

abbrev pub SZ : List ℕ
SZ = 83 ∷ 90 ∷ []

abbrev pub BW : List ℕ
BW = 66 ∷ 87 ∷ []

abbrev pub EN : List ℕ
EN = 69 ∷ 78 ∷ []

-- The byte of a field b.
abbrev pub b : ℕ → List ℕ
b x = x % 256 ∷ []

-- The bytes of a record.
abbrev pub encode : Record → List ℕ
encode (Pg p) = PG ++ h p.chunks ++ h p.span ++ h p.delay ++ h p.limit
encode (Ly size) = LY ++ w size
encode (Sz chunk layer bytes) = SZ ++ h chunk ++ b layer ++ w bytes
encode (Bw count bytes) = BW ++ h count ++ w bytes
encode En = EN

-- A record of n bytes, where they are there; else 1.
abbrev pub whole : List ℕ → ℕ → Record → Front Record
whole s n r = cond (leb n (length s)) (got r n) (none 1)

-- The programme, the layer size, the chunk's size of a layer and the run whose mark stands in front
-- of some bytes.
abbrev pub programme_at : List ℕ → Record
programme_at s = Pg (record { chunks = h_at s 2; span = h_at s 4; delay = h_at s 6; limit = h_at s 8 })

abbrev pub layer_at : List ℕ → Record
layer_at s = Ly (w_at s 2)

abbrev pub override_at : List ℕ → Record
override_at s = Sz (h_at s 2) (get_or s 4 0) (w_at s 5)

abbrev pub run_at : List ℕ → Record
run_at s = Bw (h_at s 2) (w_at s 4)

-- By the mark in front, SZ only where one sequence is asked; 2 for an unknown one.
abbrev pub by_mark : Bool → List ℕ → Front Record
by_mark sequenced s =
    cond (marked PG s) (whole s 10 (programme_at s))
    (cond (marked LY s) (whole s 6 (layer_at s))
    (cond (marked BW s) (whole s 8 (run_at s))
    (cond (marked EN s) (whole s 2 En)
    (cond (sequenced && marked SZ s) (whole s 9 (override_at s))
    (none 2)))))

-- What stands in front of some bytes; 1 if they end before a mark or within a record.
unfoldable pub front : Bool → List ℕ → Front Record
front sequenced s = cond (leb 2 (length s)) (by_mark sequenced s) (none 1)

-- Whether a record is EN.
abbrev pub is_end : Record → Bool
is_end (Pg p) = false
is_end (Ly size) = false
is_end (Sz chunk layer bytes) = false
is_end (Bw count bytes) = false
is_end En = true

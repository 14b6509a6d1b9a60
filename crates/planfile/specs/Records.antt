-- Meaning. One record of a plan file: document 01, "KP chunk h, marks b, for chunk 1 to C; then FT
-- slot h, chunk h, layer b, bytes w; EN" and "Each record is taken only if its mark and its whole
-- body are there".
use Rattle.std.specs.Prelude.{ℕ, ◌+◌, Bool, true, false, cond, List, [], ◌∷◌, ◌++◌, length, get_or, drop, leb, Result, Ok, Err}
use Rattle.records.specs.Fields.{h, w, h_at, w_at, marked}
use Rattle.records.specs.File.{Front, got, none}
use Rattle.planfile.specs.declared.Record.{Record}
use Rattle.planfile.specs.declared.Record.TheVariants.{Kp, Ft, En}

-- The marks KP, FT and EN in ASCII.
abbrev pub kp : List ℕ
kp = 75 ∷ 80 ∷ []

abbrev pub ft : List ℕ
ft = 70 ∷ 84 ∷ []

abbrev pub en : List ℕ
en = 69 ∷ 78 ∷ []

-- The bytes of a record.
abbrev pub encode : Record → List ℕ
encode (Kp chunk marks) = kp ++ h chunk ++ (marks ∷ [])
encode (Ft slot chunk layer bytes) = ft ++ h slot ++ h chunk ++ (layer ∷ []) ++ w bytes
encode En = en

-- The record r if its n bytes are there, else refusal 1.
abbrev pub whole : List ℕ → ℕ → Record → Front Record
whole s n r = cond (leb n (length s)) (got r n) (none 1)

-- What stands in front of some bytes: 1 if they end within the mark or the body, 2 for an unknown
-- mark.
unfoldable pub front : List ℕ → Front Record
front s =
    cond (leb 2 (length s))
    (cond (marked kp s) (whole s 5 (Kp (h_at s 2) (get_or s 4 0)))
    (cond (marked ft s) (whole s 11 (Ft (h_at s 2) (h_at s 4) (get_or s 6 0) (w_at s 7)))
    (cond (marked en s) (whole s 2 En)
    (none 2))))
    (none 1)

abbrev pub is_end : Record → Bool
is_end (Kp chunk marks) = false
is_end (Ft slot chunk layer bytes) = false
is_end En = true

-- The same as the record reader's answer: at a place, a record with the place after it, or a
-- refusal.
abbrev pub read_of : ℕ → Front Record → Result (Record × ℕ) ℕ
read_of at (got r n) = Ok (r, at + n)
read_of at (none n) = Err n

abbrev pub read_at : List ℕ → ℕ → Result (Record × ℕ) ℕ
read_at s at = read_of at (front (drop at s))

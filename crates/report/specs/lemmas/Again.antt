-- Lemmas. The plan's own list is handed over in four slices: its rows again out of them. Assumes
-- nothing.
use Rattle.std.specs.Prelude.{ℕ, ◌≡◌, List, map, length, get_or}
use Rattle.std.proofs.Common.{◌∙◌, arith, ext_get_or}
use Rattle.std.proofs.lemmas.List.{length-map}
use Rattle.std.proofs.Math.ListN.{get_or-map}
use Rattle.theory_basics.specs.lemmas.Lists.{length_up_to, get_d_up_to}
use Rattle.fetch.specs.Rows.{Row, row_at, rows_of, row_slot, row_chunk, row_layer, row_bytes}

abbrev none : Row
none = record { slot = 0; chunk = 0; layer = 0; bytes = 0 }

-- The fields of rows, slice by slice, are the rows again.
pub rows_again : (l : List Row) → rows_of (map row_slot l) (map row_chunk l) (map row_layer l) (map row_bytes l) ≡ l
rows_again l =
    ext_get_or none (rows_of (map row_slot l) (map row_chunk l) (map row_layer l) (map row_bytes l)) l (length_up_to f (length (map row_slot l)) ∙ length-map l row_slot)
    (λ k h. get_d_up_to f (length (map row_slot l)) k none (omega (arith, length_up_to f (length (map row_slot l)))) ∙ same k)
  where
    f : ℕ → Row
    f = row_at (map row_slot l) (map row_chunk l) (map row_layer l) (map row_bytes l)

    same : (k : ℕ) → f k ≡ get_or l k none
    same k = rw (get_or-map row_slot l k none, get_or-map row_chunk l k none, get_or-map row_layer l k none, get_or-map row_bytes l k none)

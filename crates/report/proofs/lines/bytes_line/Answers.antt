-- `report::bytes_line` meets its contract. Assumes nothing.
use mathlib.Core.List.{List, [], ◌∷◌, ◌++◌}
use Prim.Native.Nat.{ℕ}
use Rattle.theory_basics.specs.Text.{ascii, digits}
use Rattle.core_text.specs.lemmas.Places.{put_room, put_then, room_first}
use Rattle.report.proofs.lines.bytes_line.Goals as goal

abbrev one : ℕ → List ℕ
one spent = ascii "bytes " ++ digits spent

abbrev two : ℕ → List ℕ
two left = ascii " left " ++ digits left

abbrev end : List ℕ
end = 10 ∷ []

pub put_field-bytes-requires : goal.put_field-bytes-requires
put_field-bytes-requires c = let a = c.args in room_first a.at (one a.spent) (two a.left ++ end) c.requires

pub put_field-end-requires : goal.put_field-end-requires
put_field-end-requires c =
    let a = c.args in
    room_first c.put_field-bytes.result (two a.left) end (put_room (one a.spent) (two a.left ++ end) c.requires c.put_field-bytes.ensures)

pub put_end-requires : goal.put_end-requires
put_end-requires c =
    let a = c.args in
    put_room (two a.left) end (put_room (one a.spent) (two a.left ++ end) c.requires c.put_field-bytes.ensures) c.put_field-end.ensures

pub returns : goal.returns
returns c =
    let a = c.args in
    let p = c.put_field-bytes.ensures in
    put_then
    (one a.spent)
    (two a.left ++ end)
    c.requires
    p
    (put_then (two a.left) end (put_room (one a.spent) (two a.left ++ end) c.requires p) c.put_field-end.ensures c.put_end.ensures)

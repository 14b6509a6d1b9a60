-- `report::slots_line` meets its contract. Assumes nothing.
use mathlib.Core.List.{List, [], ◌∷◌, ◌++◌}
use Prim.Native.Nat.{ℕ}
use Rattle.theory_basics.specs.Text.{ascii, digits}
use Rattle.core_text.specs.lemmas.Places.{put_room, put_then, room_first}
use Rattle.report.proofs.lines.slots_line.Goals as goal

abbrev one : ℕ → List ℕ
one last = ascii "slots " ++ digits last

abbrev two : ℕ → List ℕ
two count = ascii " chunks " ++ digits count

abbrev three : ℕ → List ℕ
three held = ascii " held " ++ digits held

abbrev end : List ℕ
end = 10 ∷ []

pub put_field-slots-requires : goal.put_field-slots-requires
put_field-slots-requires c = let a = c.args in room_first a.at (one a.last) (two a.count ++ (three a.held ++ end)) c.requires

pub put_field-chunks-requires : goal.put_field-chunks-requires
put_field-chunks-requires c =
    let a = c.args in
    let r = three a.held ++ end in
    room_first c.put_field-slots.result (two a.count) r (put_room (one a.last) (two a.count ++ r) c.requires c.put_field-slots.ensures)

pub put_field-end-requires : goal.put_field-end-requires
put_field-end-requires c =
    let a = c.args in
    let r = three a.held ++ end in
    let h = put_room (one a.last) (two a.count ++ r) c.requires c.put_field-slots.ensures in
    room_first c.put_field-chunks.result (three a.held) end (put_room (two a.count) r h c.put_field-chunks.ensures)

pub put_end-requires : goal.put_end-requires
put_end-requires c =
    let a = c.args in
    let r = three a.held ++ end in
    let h = put_room (one a.last) (two a.count ++ r) c.requires c.put_field-slots.ensures in
    put_room (three a.held) end (put_room (two a.count) r h c.put_field-chunks.ensures) c.put_field-end.ensures

pub returns : goal.returns
returns c =
    let a = c.args in
    let r = three a.held ++ end in
    let p = c.put_field-slots.ensures in
    let q = c.put_field-chunks.ensures in
    let h = put_room (one a.last) (two a.count ++ r) c.requires p in
    let k = put_room (two a.count) r h q in
    put_then (one a.last) (two a.count ++ r) c.requires p
    (put_then (two a.count) r h q (put_then (three a.held) end k c.put_field-end.ensures c.put_end.ensures))

-- `report::chunk_line` meets its contract. Assumes nothing.
use mathlib.Core.List.{List, [], ◌∷◌, ◌++◌}
use Prim.Native.Nat.{ℕ}
use Rattle.theory_basics.specs.Text.{digits}
use Rattle.core_text.specs.lemmas.Places.{put_room, put_then, room_first}
use Rattle.report.proofs.lines.chunk_line.Goals as goal

abbrev next : ℕ → List ℕ
next n = 32 ∷ digits n

abbrev end : List ℕ
end = 10 ∷ []

pub put_number-number-requires : goal.put_number-number-requires
put_number-number-requires c = let a = c.args in room_first a.at (digits a.i) (next a.layers ++ (next a.bytes ++ end)) c.requires

pub put_next-carried-requires : goal.put_next-carried-requires
put_next-carried-requires c =
    let a = c.args in
    let r = next a.bytes ++ end in
    room_first c.put_number-number.result (next a.layers) r (put_room (digits a.i) (next a.layers ++ r) c.requires c.put_number-number.ensures)

pub put_next-end-requires : goal.put_next-end-requires
put_next-end-requires c =
    let a = c.args in
    let r = next a.bytes ++ end in
    let h = put_room (digits a.i) (next a.layers ++ r) c.requires c.put_number-number.ensures in
    room_first c.put_next-carried.result (next a.bytes) end (put_room (next a.layers) r h c.put_next-carried.ensures)

pub put_end-requires : goal.put_end-requires
put_end-requires c =
    let a = c.args in
    let r = next a.bytes ++ end in
    let h = put_room (digits a.i) (next a.layers ++ r) c.requires c.put_number-number.ensures in
    put_room (next a.bytes) end (put_room (next a.layers) r h c.put_next-carried.ensures) c.put_next-end.ensures

pub returns : goal.returns
returns c =
    let a = c.args in
    let r = next a.bytes ++ end in
    let p = c.put_number-number.ensures in
    let q = c.put_next-carried.ensures in
    let h = put_room (digits a.i) (next a.layers ++ r) c.requires p in
    let k = put_room (next a.layers) r h q in
    put_then (digits a.i) (next a.layers ++ r) c.requires p
    (put_then (next a.layers) r h q (put_then (next a.bytes) end k c.put_next-end.ensures c.put_end.ensures))

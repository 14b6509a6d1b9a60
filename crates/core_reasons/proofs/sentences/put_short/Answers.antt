-- `put_short` meets its contract: the sentence is these texts one after the other. Assumes nothing.
use mathlib.Core.List.{List, [], ◌∷◌, ◌++◌}
use Prim.Native.Nat.{ℕ}
use Rattle.theory_basics.specs.Text.{ascii}
use Rattle.core_reasons.specs.declared.passes.Stretch.{Stretch}
use Rattle.core_text.specs.lemmas.Places.{put_room, put_then, room_first}
use Rattle.core_reasons.specs.lemmas.Sentences.{short_is, two}
use Rattle.core_reasons.proofs.sentences.put_short.Goals as goal

abbrev one : ℕ → ℕ → List ℕ
one i n = two (ascii "chunk ") i (ascii " layer ") n

abbrev slots : Stretch → List ℕ
slots s = two (ascii ": slots ") s.first (ascii " to ") s.last

abbrev bytes : Stretch → List ℕ
bytes s = two (ascii " carry ") s.carry (ascii ", need ") s.need

abbrev end : List ℕ
end = 10 ∷ []

pub put_two-slots-requires : goal.put_two-slots-requires
put_two-slots-requires c =
    let a = c.args in
    let s = a.s in
    let h = rw (short_is a.chunk a.layer s.first s.last s.carry s.need) at c.requires in
    room_first a.at (one a.chunk a.layer) (slots s ++ (bytes s ++ end)) h

pub put_two-bytes-requires : goal.put_two-bytes-requires
put_two-bytes-requires c =
    let a = c.args in
    let s = a.s in
    let h = rw (short_is a.chunk a.layer s.first s.last s.carry s.need) at c.requires in
    room_first c.put_two-slots.result (slots s) (bytes s ++ end) (put_room (one a.chunk a.layer) (slots s ++ (bytes s ++ end)) h c.put_two-slots.ensures)

pub put_two-end-requires : goal.put_two-end-requires
put_two-end-requires c =
    let a = c.args in
    let s = a.s in
    let h = rw (short_is a.chunk a.layer s.first s.last s.carry s.need) at c.requires in
    let k = put_room (one a.chunk a.layer) (slots s ++ (bytes s ++ end)) h c.put_two-slots.ensures in
    room_first c.put_two-bytes.result (bytes s) end (put_room (slots s) (bytes s ++ end) k c.put_two-bytes.ensures)

pub put_word-requires : goal.put_word-requires
put_word-requires c =
    let a = c.args in
    let s = a.s in
    let h = rw (short_is a.chunk a.layer s.first s.last s.carry s.need) at c.requires in
    let k = put_room (one a.chunk a.layer) (slots s ++ (bytes s ++ end)) h c.put_two-slots.ensures in
    put_room (bytes s) end (put_room (slots s) (bytes s ++ end) k c.put_two-bytes.ensures) c.put_two-end.ensures

pub returns : goal.returns
returns c =
    let a = c.args in
    let s = a.s in
    let e = short_is a.chunk a.layer s.first s.last s.carry s.need in
    let h = rw e at c.requires in
    let p = c.put_two-slots.ensures in
    let k = put_room (one a.chunk a.layer) (slots s ++ (bytes s ++ end)) h p in
    let q = c.put_two-bytes.ensures in
    let l = put_room (slots s) (bytes s ++ end) k q in
    rw e (put_then (one a.chunk a.layer) (slots s ++ (bytes s ++ end)) h p (put_then (slots s) (bytes s ++ end) k q (put_then (bytes s) end l c.put_two-end.ensures c.put_word.ensures)))

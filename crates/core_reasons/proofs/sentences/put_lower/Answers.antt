-- `put_lower` meets its contract: the sentence is these texts one after the other. Assumes nothing.
use mathlib.Core.List.{List, [], ◌∷◌, ◌++◌}
use Prim.Native.Nat.{ℕ}
use Rattle.theory_basics.specs.Text.{ascii, digits}
use Rattle.core_text.specs.lemmas.Places.{put_room, put_then, room_first}
use Rattle.core_reasons.specs.lemmas.Sentences.{lower_is, two}
use Rattle.core_reasons.proofs.sentences.put_lower.Goals as goal

abbrev one : ℕ → ℕ → List ℕ
one i n = two (ascii "chunk ") i (ascii " layer ") n

abbrev other : ℕ → List ℕ
other k = ascii ": layer " ++ digits k

abbrev end : List ℕ
end = ascii " is missing" ++ (10 ∷ [])

pub put_two-missing-requires : goal.put_two-missing-requires
put_two-missing-requires c =
    let a = c.args in
    let h = rw (lower_is a.chunk a.layer a.below) at c.requires in
    room_first a.at (one a.chunk a.layer) (other a.below ++ end) h

pub put_field-end-requires : goal.put_field-end-requires
put_field-end-requires c =
    let a = c.args in
    let h = rw (lower_is a.chunk a.layer a.below) at c.requires in
    room_first c.put_two-missing.result (other a.below) end (put_room (one a.chunk a.layer) (other a.below ++ end) h c.put_two-missing.ensures)

pub put_word-requires : goal.put_word-requires
put_word-requires c =
    let a = c.args in
    let h = rw (lower_is a.chunk a.layer a.below) at c.requires in
    put_room (other a.below) end (put_room (one a.chunk a.layer) (other a.below ++ end) h c.put_two-missing.ensures) c.put_field-end.ensures

pub returns : goal.returns
returns c =
    let a = c.args in
    let h = rw (lower_is a.chunk a.layer a.below) at c.requires in
    let p = c.put_two-missing.ensures in
    let k = put_room (one a.chunk a.layer) (other a.below ++ end) h p in
    rw (lower_is a.chunk a.layer a.below)
    (put_then (one a.chunk a.layer) (other a.below ++ end) h p (put_then (other a.below) end k c.put_field-end.ensures c.put_word.ensures))

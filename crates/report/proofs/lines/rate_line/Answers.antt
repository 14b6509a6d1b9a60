-- `report::rate_line` meets its contract. Assumes nothing.
use mathlib.Core.List.{List, [], ◌∷◌, ◌++◌}
use Prim.Native.Nat.{ℕ, ◌/◌, ◌%◌}
use Rattle.theory_basics.specs.Text.{ascii, digits}
use Rattle.core_text.specs.lemmas.Places.{put_room, put_then, room_first}
use Rattle.report.proofs.lines.rate_line.Goals as goal

abbrev one : ℕ → List ℕ
one q = ascii "rate " ++ digits q

abbrev two : ℕ → List ℕ
two r = 32 ∷ digits r

abbrev end : List ℕ
end = 10 ∷ []

pub put_field-quotient-requires : goal.put_field-quotient-requires
put_field-quotient-requires c =
    let a = c.args in
    room_first a.at (one (a.switch / a.film)) (two (a.switch % a.film) ++ end) c.requires.1

pub put_next-end-requires : goal.put_next-end-requires
put_next-end-requires c =
    let a = c.args in
    let r = two (a.switch % a.film) in
    room_first c.put_field-quotient.result r end (put_room (one (a.switch / a.film)) (r ++ end) c.requires.1 c.put_field-quotient.ensures)

pub put_end-requires : goal.put_end-requires
put_end-requires c =
    let a = c.args in
    let r = two (a.switch % a.film) in
    put_room r end (put_room (one (a.switch / a.film)) (r ++ end) c.requires.1 c.put_field-quotient.ensures) c.put_next-end.ensures

pub returns : goal.returns
returns c =
    let a = c.args in
    let h = c.requires.1 in
    let p = c.put_field-quotient.ensures in
    let q = one (a.switch / a.film) in
    let r = two (a.switch % a.film) in
    put_then q (r ++ end) h p (put_then r end (put_room q (r ++ end) h p) c.put_next-end.ensures c.put_end.ensures)

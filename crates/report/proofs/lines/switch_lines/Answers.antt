-- `report::switch_lines` meets its contract. Assumes nothing.
use mathlib.Core.List.{List, [], ◌∷◌}
use native.Mathlib.Omega.{arith}
use Prim.Native.Nat.{ℕ, ◌/◌, ◌%◌}
use Rattle.theory_basics.specs.Text.{ascii, digits, line}
use Rattle.core_text.specs.lemmas.Places.{put_room, put_then, room_first}
use Rattle.report.proofs.lines.switch_lines.Goals as goal

abbrev one : ℕ → List ℕ
one switch = line (ascii "switch") (digits switch ∷ [])

abbrev two : ℕ → ℕ → List ℕ
two switch film = line (ascii "rate") (digits (switch / film) ∷ digits (switch % film) ∷ [])

pub switch_line-next-requires : goal.switch_line-next-requires
switch_line-next-requires c = let a = c.args in room_first a.at (one a.switch) (two a.switch a.film) c.requires.1

pub rate_line-requires : goal.rate_line-requires
rate_line-requires c =
    let a = c.args in
    let o = c.requires in
    (omega arith, put_room (one a.switch) (two a.switch a.film) o.1 c.switch_line-next.ensures)

pub returns : goal.returns
returns c =
    let a = c.args in
    put_then (one a.switch) (two a.switch a.film) c.requires.1 c.switch_line-next.ensures c.rate_line.ensures

-- `report::switch_line` meets its contract. Assumes nothing.
use mathlib.Core.List.{List, [], ◌∷◌, ◌++◌}
use Prim.Native.Nat.{ℕ}
use Rattle.theory_basics.specs.Text.{ascii, digits}
use Rattle.core_text.specs.lemmas.Places.{put_room, put_then, room_first}
use Rattle.report.proofs.lines.switch_line.Goals as goal

abbrev one : ℕ → List ℕ
one switch = ascii "switch " ++ digits switch

abbrev end : List ℕ
end = 10 ∷ []

pub put_field-end-requires : goal.put_field-end-requires
put_field-end-requires c = room_first c.args.at (one c.args.switch) end c.requires

pub put_end-requires : goal.put_end-requires
put_end-requires c = put_room (one c.args.switch) end c.requires c.put_field-end.ensures

pub returns : goal.returns
returns c = put_then (one c.args.switch) end c.requires c.put_field-end.ensures c.put_end.ensures

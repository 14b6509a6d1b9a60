-- `trace::repeated::put_line` meets its contract. Assumes nothing.
use native.Mathlib.Omega.{arith}
use mathlib.Core.List.{[], ◌∷◌}
use Rattle.theory_basics.specs.Text.{digits}
use Rattle.core_text.specs.lemmas.Places.{put_byte, put_room, put_then, room_first}
use Rattle.trace.proofs.repeated.put_line.Goals as goal

pub put_number-end-requires : goal.put_number-end-requires
put_number-end-requires c = let a = c.args in room_first a.at (digits a.n) (10 ∷ []) c.requires

pub bounds-out-end : goal.bounds-out-end
bounds-out-end c = let a = c.args in omega (arith, put_room (digits a.n) (10 ∷ []) c.requires c.put_number-end.ensures)

pub overflow_add-result : goal.overflow_add-result
overflow_add-result c = let a = c.args in omega (arith, put_room (digits a.n) (10 ∷ []) c.requires c.put_number-end.ensures)

pub returns : goal.returns
returns c =
    let a = c.args in
    let o = c.put_number-end in
    put_then (digits a.n) (10 ∷ []) c.requires o.ensures (put_byte o.new.out o.result 10 (omega (arith, put_room (digits a.n) (10 ∷ []) c.requires o.ensures)))

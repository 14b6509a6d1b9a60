-- `put_two` meets its contract: two texts one after the other. Assumes nothing.
use mathlib.Core.List.{◌++◌}
use Rattle.theory_basics.specs.Text.{digits}
use Rattle.core_text.specs.lemmas.Places.{put_room, put_then, room_first}
use Rattle.core_reasons.proofs.sentences.put_two.Goals as goal

pub put_field-next-requires : goal.put_field-next-requires
put_field-next-requires c = let a = c.args in room_first a.at (a.word.now ++ digits a.n) (a.other.now ++ digits a.m) c.requires

pub put_field-requires : goal.put_field-requires
put_field-requires c = let a = c.args in put_room (a.word.now ++ digits a.n) (a.other.now ++ digits a.m) c.requires c.put_field-next.ensures

pub returns : goal.returns
returns c = let a = c.args in put_then (a.word.now ++ digits a.n) (a.other.now ++ digits a.m) c.requires c.put_field-next.ensures c.put_field.ensures

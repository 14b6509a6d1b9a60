-- `core_text::put_field` meets its contract: two texts one after the other. Assumes nothing.
use Rattle.theory_basics.specs.Text.{digits}
use Rattle.core_text.specs.lemmas.Places.{put_room, put_then, room_first}
use Rattle.core_text.proofs.put_field.Goals as goal

pub put_word-next-requires : goal.put_word-next-requires
put_word-next-requires c = let a = c.args in room_first a.at a.word.now (digits a.n) c.requires

pub put_number-requires : goal.put_number-requires
put_number-requires c = let a = c.args in put_room a.word.now (digits a.n) c.requires c.put_word-next.ensures

pub returns : goal.returns
returns c = let a = c.args in put_then a.word.now (digits a.n) c.requires c.put_word-next.ensures c.put_number.ensures

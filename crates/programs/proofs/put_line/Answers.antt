-- `programs::put_line` meets its contract. Assumes nothing.
use native.Mathlib.Omega.{arith}
use Rattle.programs.proofs.Writing.{prints_line, short_line}
use Rattle.core_text.specs.lemmas.Places.{put_length}
use Rattle.programs.proofs.put_line.Goals as goal

pub put_field-at-requires : goal.put_field-at-requires
put_field-at-requires c = omega (arith, short_line c.args.word.now c.args.n (omega arith))

pub put_word-requires : goal.put_word-requires
put_word-requires c = omega (arith, short_line c.args.word.now c.args.n (omega arith), put_length c.put_field-at.ensures, c.put_field-at.ensures.place)

pub returns : goal.returns
returns c =
    let short = short_line c.args.word.now c.args.n (omega arith) in
    prints_line c.args.word.now _ _ _ c.args.n _ _ c.put_field-at.ensures c.put_word.ensures (omega (arith, short))

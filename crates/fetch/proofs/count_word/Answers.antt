-- `count_word` counts the set digits of the shifted and masked word; from 8 on no byte has the bit.
use mathlib.Core.Path.{sym, ◌∙◌}
use native.Mathlib.Omega.{arith}
use borrow.Author.Tests.{le-ltb}
use Rattle.fetch.specs.Counts.{word_count}
use Rattle.fetch.specs.Words.{word_count_lem}
use Rattle.fetch.proofs.Masked.{word_ones}
use Rattle.fetch.proofs.count_word.Goals as goal

pub returns-then-n-gt7 : goal.returns-then-n-gt7
unfolding word_count
returns-then-n-gt7 c = rw (le-ltb c.args.n 8 (omega arith))

pub returns : goal.returns
returns c =
    let a = c.args in
    word_ones a.word a.n (omega arith) ∙ sym (word_count_lem a.word a.n)

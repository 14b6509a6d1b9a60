use Rattle.std.proofs.Common.{refl, arith}
use Rattle.fetch.proofs.Walk.{words_more, words_end}
use Rattle.fetch.proofs.count_words.Goals as goal

pub loop-k-init : goal.loop-k-init
loop-k-init c = record { within = omega arith; says = refl; small = omega arith }

pub overflow_add-sum : goal.overflow_add-sum
overflow_add-sum c = omega (arith, (words_more c.loop-k.invariant c.loop-k-test.true c.word_at.ensures c.count_word.ensures).small)

pub loop-k-preserved : goal.loop-k-preserved
loop-k-preserved c = words_more c.loop-k.invariant c.loop-k-test.true c.word_at.ensures c.count_word.ensures

pub returns : goal.returns
returns c = words_end c.loop-k.invariant (omega arith)

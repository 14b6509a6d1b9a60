-- `carried` is the count of the marks: at most 500 fit 16 bits.
use native.Mathlib.Omega.{arith}
use Rattle.fetch.specs.lemmas.Counts.{count_le}
use Rattle.core_slices.proofs.count_layer.Goals as goal

pub overflow_cast-result : goal.overflow_cast-result
overflow_cast-result c = let a = c.args in omega (arith, c.count_marks.ensures.counted, count_le a.n a.marks.now)

pub returns : goal.returns
returns c = c.count_marks.ensures.counted

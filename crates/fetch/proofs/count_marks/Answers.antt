-- `count_marks` is the sum over words and rest, which is the count: at most the number of marks, so
-- it fits.
use Prim.Native.Nat.{◌+◌}
use mathlib.Core.Path.{sym, ◌∙◌, ap₂}
use native.Mathlib.Omega.{arith}
use Rattle.theory_basics.specs.lemmas.Tables.{all_each}
use Rattle.fetch.specs.Words.{words_and_rest}
use Rattle.fetch.specs.lemmas.Counts.{Byte, count_le}
use Rattle.fetch.proofs.count_marks.Goals as goal

pub overflow_add-result : goal.overflow_add-result
overflow_add-result c =
    let a = c.args in
    let whole = words_and_rest a.n a.marks.now (all_each Byte a.marks.now (λ i. (c.shared_slice_known-1.given i).fits)) in
    omega (arith, c.count_words.ensures, c.count_rest.ensures, whole, count_le a.n a.marks.now)

pub returns : goal.returns
returns c =
    let a = c.args in
    let whole = words_and_rest a.n a.marks.now (all_each Byte a.marks.now (λ i. (c.shared_slice_known-1.given i).fits)) in
    let both = ap₂ ◌+◌ c.count_words.ensures c.count_rest.ensures in
    record { counted = both ∙ sym whole; summed = both }

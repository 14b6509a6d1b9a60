-- `try_begun` meets its contract.
use Rattle.std.proofs.Common.{◌≡◌, refl, sym}
use borrow.Author.Tests.{le-leb, lt-leb}
use Rattle.fetch.specs.Marks.{with_layer, without_layer}
use Rattle.core_replan_decide.proofs.try_begun.Goals as goal

-- The base set on trial, and cleared where the trial fails.
set_base : with_layer 0 0 ≡ 1
unfolding with_layer
set_base = refl

cleared_base : without_layer 1 0 ≡ 0
unfolding without_layer
cleared_base = refl

pub returns-then-more-all : goal.returns-then-more-all
returns-then-more-all c = rw (sym c.has.ensures, c.if-has.false, le-leb _ _ c.if-more-all.true, c.with-tried.ensures, set_base)

pub returns-else-more-all : goal.returns-else-more-all
returns-else-more-all c = rw (sym c.has.ensures, c.if-has.false, lt-leb _ _ c.if-more-all.false, c.without.ensures, c.with-tried.ensures, set_base, cleared_base)

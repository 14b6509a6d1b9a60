-- A byte has no bit from 8 on.
use Rattle.std.proofs.Common.{sym, ap, ℕ, ◌/◌, ◌^◌}
use lib.Bits.{and_mask}
use lib.Dec.{eqb}
use borrow.Author.Tests.{le-ltb}
use Rattle.fetch.specs.lemmas.Marks.{high_bit}
use Rattle.fetch.proofs.has.Goals as goal

pub returns-then-n-lt8 : goal.returns-then-n-lt8
returns-then-n-lt8 c = ap (λ (x : ℕ). eqb x 1) (and_mask (c.args.mark / 2 ^ c.args.n) 1)

pub returns-else-n-lt8 : goal.returns-else-n-lt8
returns-else-n-lt8 c = rw (le-ltb c.args.n 8 c.if-n-lt8.false) (sym (high_bit c.args.mark 8 c.args.n c.ranges.mark.fits c.if-n-lt8.false))

-- A byte has no bit from 8 on.
use Rattle.std.proofs.Common.{sym}
use Rattle.fetch.specs.lemmas.Marks.{without_none}
use Rattle.fetch.proofs.Bits.{without_is}
use Rattle.fetch.proofs.without.Goals as goal

pub returns-then-n-lt8 : goal.returns-then-n-lt8
returns-then-n-lt8 c = without_is c.args.mark c.args.n c.ranges.mark.fits c.if-n-lt8.true

pub returns-else-n-lt8 : goal.returns-else-n-lt8
returns-else-n-lt8 c = sym (without_none c.args.mark c.args.n c.ranges.mark.fits c.if-n-lt8.false)

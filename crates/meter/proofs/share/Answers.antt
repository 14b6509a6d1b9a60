-- `meter::share` meets its contract: std's quotient rounded up is that of the meaning.
use Prim.Native.Nat.{◌^◌}
use Rattle.meter.proofs.Laws.{rounded_up}
use Rattle.meter.proofs.share.Goals as goal

pub returns : goal.returns
returns c = rw (c.div_ceil.ensures, c.from.ensures) (rounded_up (2 ^ 56) c.args.bytes c.requires)

-- `put_tight` meets its contract. Assumes nothing.
use Prim.Native.Nat.{ℕ}
use mathlib.Core.Path.{sym}
use native.Mathlib.Omega.{arith}
use lib.ListN.{length-replicate}
use lib.Seq.{length-take-le}
use Rattle.core_text.specs.lemmas.Places.{put_front}
use Rattle.reasons.proofs.Answer.{fits, told_copied, told_short}
use Rattle.job.specs.Theorems.{input_accepted}
use Rattle.reasons.proofs.put_tight.Goals as goal

pub put_plan-n-requires : goal.put_plan-n-requires
put_plan-n-requires c = (input_accepted _ c.requires, omega (arith, fits _ c.requires, length-replicate {A = ℕ} 94000 0))

pub returns-then-out-n : goal.returns-then-out-n
returns-then-out-n c = let z = c.requires in told_short _ _ z (omega (arith, c.put_plan-n.ensures.place, c.if-out-n.true))

pub slice_bounds-text-end : goal.slice_bounds-text-end
slice_bounds-text-end c = (put_front (omega (arith, fits _ c.requires, length-replicate {A = ℕ} 94000 0)) c.put_plan-n.ensures).0

pub slice_bounds-put-end : goal.slice_bounds-put-end
slice_bounds-put-end c = sym (length-take-le _ _ (put_front (omega (arith, fits _ c.requires, length-replicate {A = ℕ} 94000 0)) c.put_plan-n.ensures).0)

pub returns : goal.returns
returns c = told_copied _ _ c.requires _ _ _ _ (omega (arith, fits _ c.requires, length-replicate {A = ℕ} 94000 0)) c.put_plan-n.ensures c.if-out-n.false c.put.ensures

use Rattle.std.proofs.Common.{refl, arith}
use Rattle.planfile.specs.lemmas.Writing.{put_start, put_more}
use Rattle.planfile.proofs.Writer.{kp_at}
use Rattle.planfile.proofs.put_kps.Goals as goal

pub loop-i-init : goal.loop-i-init
loop-i-init c = let a = c.args in put_start a.out.now 0 (kp_at a.marks.now) (omega arith)

pub loop-i-preserved : goal.loop-i-preserved
loop-i-preserved c = let a = c.args in let l = c.loop-i in put_more 5 a.out.now 0 (kp_at a.marks.now) (λ k. refl) l.i l.out l.invariant (omega arith) _ (omega arith) _ c.put_kp.ensures

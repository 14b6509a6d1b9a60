use Rattle.std.proofs.Common.{arith, refl}
use Rattle.std.proofs.lemmas.Result.{err_from_is_err_and}
use Rattle.job.specs.Handed.{handed}
use Rattle.core_ffi.specs.lemmas.Planning.{plan_short, plan_whole}
use Rattle.core_ffi.proofs.Chunks.{kept, put}
use Rattle.core_ffi.proofs.plans.plan_with_counts.Goals as goal

pub returns-in_default-clause-returned : goal.returns-in_default-clause-returned
returns-in_default-clause-returned c = plan_short _ _ c.in_default.ensures.cases (handed c.args.job.now) c.refuse_short.ensures

pub returns-in_err-made-clause-returned : goal.returns-in_err-made-clause-returned
returns-in_err-made-clause-returned c =
    let p = err_from_is_err_and c.from_residual.result c.from_residual.ensures.1 in
    rw (p.1, p.2) (plan_whole _ _ _ _ c.in-Some.ensures.cases.enough (handed c.args.job.now) c.in_err-made.ensures.promise.output (kept c.in-Some.ensures.cases) refl)

pub returns-clause-returned : goal.returns-clause-returned
returns-clause-returned c = plan_whole _ _ _ _ c.in-Some.ensures.cases.enough (handed c.args.job.now) c.in_ok-made.ensures.promise.output (put c.in_ok-made.made.counts c.args.counts.now 4 (omega arith)) refl

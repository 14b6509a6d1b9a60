use Rattle.std.proofs.Common.{arith, refl}
use Rattle.std.proofs.lemmas.Result.{err_from_is_err_and}
use Rattle.job.specs.Handed.{handed}
use Rattle.replan.specs.Handed.{handed_on}
use Rattle.core_ffi.specs.lemmas.Planning.{replan_short, replan_whole}
use Rattle.core_ffi.proofs.Chunks.{kept, put}
use Rattle.core_ffi.proofs.plans.replan_with_counts.Goals as goal

pub returns-in_default-clause-returned : goal.returns-in_default-clause-returned
returns-in_default-clause-returned c =
    let a = c.args in
    replan_short _ _ c.in_default.ensures.cases (handed a.job.now) (handed_on a.from a.fetched.now a.onward.now) c.replan_short.ensures

pub returns-in_err-made-clause-returned : goal.returns-in_err-made-clause-returned
returns-in_err-made-clause-returned c =
    let a = c.args in
    let p = err_from_is_err_and c.from_residual.result c.from_residual.ensures.1 in
    rw (p.1, p.2) (replan_whole _ _ _ _ c.in-Some.ensures.cases.enough (handed a.job.now) (handed_on a.from a.fetched.now a.onward.now) c.in_err-made.ensures.promise.output (kept c.in-Some.ensures.cases) refl)

pub returns-clause-returned : goal.returns-clause-returned
returns-clause-returned c =
    let a = c.args in
    replan_whole _ _ _ _ c.in-Some.ensures.cases.enough (handed a.job.now) (handed_on a.from a.fetched.now a.onward.now) c.in_ok-made.ensures.promise.output (put c.in_ok-made.made.counts c.args.counts.now 4 (omega arith)) refl
